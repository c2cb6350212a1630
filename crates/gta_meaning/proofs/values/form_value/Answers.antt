use Rattle.std.proofs.Common.{arith}
use Rattle.std.proofs.lemmas.Int.{ints}
use Rattle.gta_checked.specs.PlainRows.{plain_rows}
use Rattle.gta_meaning.proofs.Sums.{form_value-more}
use Rattle.gta_meaning.proofs.values.form_value.Goals as goal

pub loop-term-preserved : goal.loop-term-preserved
loop-term-preserved c =
    let more = form_value-more (plain_rows c.args.rows.now) c.args.row c.args.form.now c.loop-term.term-index _ _ _
    c.loop-term-test.true c.loop-term.invariant.so_far c.term_value-sum.ensures.value in
    record { so_far = omega (arith, ints, more); bounded = omega (arith, ints) }
