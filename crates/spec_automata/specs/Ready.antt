-- What the lines of automata are known to keep before their moves are looked at.
use Rattle.std.specs.Prelude.{◌≡◌, ◌≤◌, true, length}
use Rattle.auto_monoid.specs.declared.auto.TheConstants.{STATE_LIMIT, LETTER_LIMIT}
use Rattle.gta_spec.specs.Parts.{AutomatonTree}
use Rattle.spec_tables.specs.Tables.{is_one_of}

-- there are some states and letters and not too many, and the start is one of the states
pub record IsReadyAutomaton (automaton : AutomatonTree) : Type 0 where
  pub some_states : 1 ≤ length automaton.states
  pub few_states : length automaton.states ≤ STATE_LIMIT
  pub some_letters : 1 ≤ length automaton.letters
  pub few_letters : length automaton.letters ≤ LETTER_LIMIT
  pub start : is_one_of automaton.states automaton.start ≡ true
