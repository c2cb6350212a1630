-- Tests of a run of an automaton.
use Rattle.std.specs.Prelude.{ℕ, ◌==◌, List, Option, Some, None}
use Rattle.std.specs.List.{find, list_any}
use Rattle.auto_monoid.specs.Auto.{PlainAuto}
use Rattle.auto_monoid.specs.MonoidOf.{product_table, letter_element, state_after_element}
use Rattle.auto_monoid.specs.Numbering.{all_functions}
use Rattle.gta_checked.specs.Plain.{PlainPick}
use Rattle.gta_meaning.specs.Values.{holds}
use Rattle.monoid_product.specs.Component.{Table}
use Rattle.test_homs.specs.Hom.{Hom}

-- the element of a pick's letter; where there is no pick the identity, which is element 0
abbrev pub element_of : PlainAuto → Option PlainPick → ℕ
element_of automaton None = 0
element_of automaton (Some pick) = letter_element automaton (all_functions automaton) pick.element

-- the elements of the letters that are picked, with the products of the transition monoid; accepted are the elements
-- whose function takes the start to a state that is listed
abbrev pub run_of : PlainAuto → List PlainPick → List ℕ → Hom
run_of automaton picks accept = record {
  component = Table (product_table (all_functions automaton));
  letter = λ rows row label. element_of automaton (find (λ pick. holds rows row label pick.cond) picks);
  accepts = λ element.
      list_any (λ state. state == state_after_element automaton (all_functions automaton) element) accept;
}
