use Rattle.std.proofs.Common.{sym, arith}
use Rattle.gta_checked.specs.PlainRows.{plain_rows}
use Rattle.test_homs.specs.Negatives.{negative_at}
use Rattle.test_homs.proofs.Firsts.{first_some-range_at, first_some-range_nowhere}
use Rattle.test_homs.proofs.negatives.negative_value.Goals as goal

pub returns-in-Some : goal.returns-in-Some
returns-in-Some c =
    sym (first_some-range_at (negative_at c.args.checked.now (plain_rows c.args.rows.now) c.args.test c.args.measure)
    c.args.rows.now.count c.loop-row.row c.in-Some.negative c.loop-row-test.true c.loop-row.invariant
    (sym c.in-Some.ensures))

pub returns : goal.returns
returns c =
    sym (first_some-range_nowhere
    (negative_at c.args.checked.now (plain_rows c.args.rows.now) c.args.test c.args.measure)
    c.args.rows.now.count (λ k below. c.loop-row.invariant k (omega arith)))
