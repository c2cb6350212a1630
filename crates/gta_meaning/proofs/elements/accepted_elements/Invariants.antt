use Rattle.std.proofs.Common.{◌≡◌, ℕ, ◌<◌, Bool, List, length, get_or}
use Rattle.gta_checked.specs.Plain.{plain_test}
use Rattle.gta_checked.specs.declared.resolved.Test.{Test}
use Rattle.gta_meaning.specs.Elements.{IsAccepted}
use Rattle.gta_meaning.proofs.elements.accepted_elements.Given as goal

-- a set for each test so far
abbrev pub invariant-loop-test : goal.invariant-loop-test
invariant-loop-test l = record {
  count : length l.sets.items ≡ l.test-index;
  each : (k : ℕ) (test : Test) (set : List Bool) → k < l.test-index
      → IsAccepted (plain_test (get_or l.test-items k test)) (get_or l.sets.items k set);
}
