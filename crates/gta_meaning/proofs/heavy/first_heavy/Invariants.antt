use Rattle.std.proofs.Common.{◌≡◌, ℕ, ◌<◌, ◌≤◌, false}
use Rattle.gta_text.specs.declared.numbers.TheConstants.{NUMBER_BOUND}
use Rattle.gta_checked.specs.PlainRows.{plain_rows}
use Rattle.gta_meaning.specs.Heavy.{goal_measures, weight_of_rows, is_heavy}
use Rattle.gta_meaning.proofs.heavy.first_heavy.Given as goal

abbrev pub invariant-loop-row : goal.invariant-loop-row
invariant-loop-row l = record {
  so_far : l.sum ≡ weight_of_rows l.checked (plain_rows l.rows) (goal_measures l.checked.goal) l.row;
  within : l.sum ≤ NUMBER_BOUND;
  before : (k : ℕ) → k < l.row → is_heavy l.checked (plain_rows l.rows) (goal_measures l.checked.goal) k ≡ false;
}
