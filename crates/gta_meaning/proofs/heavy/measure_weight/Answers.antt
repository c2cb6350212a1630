use Rattle.std.proofs.Common.{◌≡◌, ℕ, max, nat_abs, ap, arith}
use Rattle.std.proofs.lemmas.Int.{ints}
use Rattle.gta_checked.specs.PlainRows.{plain_rows}
use Rattle.gta_meaning.specs.Values.{value}
use Rattle.gta_meaning.proofs.Weights.{greatest-more}
use Rattle.gta_meaning.proofs.heavy.measure_weight.Goals as goal

pub loop-label-preserved : goal.loop-label-preserved
loop-label-preserved c =
    let size_of = λ (label : ℕ). nat_abs
    (value c.args.checked.now (plain_rows c.args.rows.now) c.args.measure c.args.row label) in
    let more = greatest-more size_of c.loop-label.label in
    let size : c.unsigned_abs.result ≡ nat_abs c.value_of.result = omega (arith, ints) in
    let same = ap nat_abs c.value_of.ensures.value in
    let greatest : c.max-greatest.result ≡ max c.loop-label.greatest c.unsigned_abs.result = grind arith in
    record { so_far = omega arith; within = omega arith }
