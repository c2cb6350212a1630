use Rattle.std.proofs.Common.{◌≡◌, true, false, below_more, sym, arith}
use Rattle.std.proofs.lemmas.Bool.Decides.{nat_tests}
use Rattle.gta_checked.specs.PlainRows.{plain_rows}
use Rattle.gta_meaning.specs.Heavy.{goal_measures, is_heavy, row_weight}
use Rattle.gta_meaning.proofs.First.{find-range-first, find-range-none}
use Rattle.gta_meaning.proofs.Weights.{sum-more}
use Rattle.gta_meaning.proofs.heavy.first_heavy.Goals as goal

pub returns-then-sum : goal.returns-then-sum
returns-then-sum c =
    let checked = c.args.checked.now in let rows = (plain_rows c.args.rows.now) in
    let more = sum-more (row_weight checked rows (goal_measures checked.goal)) c.loop-row.row in
    let here : is_heavy checked rows (goal_measures checked.goal) c.loop-row.row ≡ true = grind (arith, nat_tests) in
    sym (find-range-first (is_heavy checked rows (goal_measures checked.goal)) rows.count c.loop-row.row
    c.loop-row-test.true c.loop-row.invariant.before here)

pub loop-row-preserved : goal.loop-row-preserved
loop-row-preserved c =
    let checked = c.args.checked.now in let rows = (plain_rows c.args.rows.now) in
    let more = sum-more (row_weight checked rows (goal_measures checked.goal)) c.loop-row.row in
    let here : is_heavy checked rows (goal_measures checked.goal) c.loop-row.row ≡ false = grind (arith, nat_tests) in
    record {
      so_far = omega (arith, more);
      within = omega arith;
      before = below_more _ _ c.loop-row.invariant.before here;
    }

pub returns : goal.returns
returns c =
    let checked = c.args.checked.now in let rows = (plain_rows c.args.rows.now) in
    sym (find-range-none (is_heavy checked rows (goal_measures checked.goal)) rows.count
    (λ k below. c.loop-row.invariant.before k (omega arith)))
