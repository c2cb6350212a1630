-- The sets of what tests accept, read by their places.
use Rattle.std.proofs.Common.{◌≡◌, ℕ, ◌<◌, Bool, List, [], ◌∷◌, map, length, get_or, refl, sym, subst, ap, ◌∙◌, arith}
use Rattle.std.proofs.lemmas.List.{length-map, get_or_default}
use Rattle.gta_checked.specs.declared.resolved.Test.{Test}
use Rattle.gta_checked.specs.Plain.{PlainTest, plain_test}
use Rattle.gta_meaning.specs.Elements.{AreAccepted, IsAccepted}
use Rattle.gta_meaning.proofs.Parts.{item-at}

-- the set at the place of a test
pub accepted-at : (items : List Test) (tests : List PlainTest) → map plain_test items ≡ tests
    → (sets : List (List Bool)) → AreAccepted tests sets → (k : ℕ) (test : Test) (set : List Bool) → k < length items
    → test ≡ get_or items k test → set ≡ get_or sets k set → IsAccepted (plain_test test) set
accepted-at items tests same sets accepted k test set below test_is set_is =
    subst (IsAccepted (plain_test test)) (sym set_is)
    (subst (λ (plain : PlainTest). IsAccepted plain (get_or sets k set))
    (sym (item-at plain_test items tests same k test (plain_test test) below test_is))
    (accepted.each k (plain_test test) set (omega (arith, sym (length-map items plain_test) ∙ ap length same))))

-- a set at the place of each test
pub accepted-all : (items : List Test) (sets : List (List Bool)) → length sets ≡ length items
    → ((k : ℕ) (test : Test) (set : List Bool) → k < length items
    → IsAccepted (plain_test (get_or items k test)) (get_or sets k set))
    → AreAccepted (map plain_test items) sets
accepted-all items sets same each = record {
  count = same ∙ sym (length-map items plain_test);
  each = λ k plain set below. here items k plain set (omega (arith, length-map items plain_test))
      (λ test. each k test set);
}
  where
    here : (xs : List Test) (k : ℕ) (plain : PlainTest) (set : List Bool) → k < length xs
        → ((test : Test) → k < length xs → IsAccepted (plain_test (get_or xs k test)) (get_or sets k set))
        → IsAccepted (get_or (map plain_test xs) k plain) (get_or sets k set)
    here [] k plain set below accepted = absurd (omega arith)
    here (x ∷ xs) k plain set below accepted =
        subst (λ (test : PlainTest). IsAccepted test (get_or sets k set))
        (item-at plain_test (x ∷ xs) (map plain_test (x ∷ xs)) refl k (get_or (x ∷ xs) k x) plain below
        (get_or_default (x ∷ xs) k x (get_or (x ∷ xs) k x) below)) (accepted x below)
