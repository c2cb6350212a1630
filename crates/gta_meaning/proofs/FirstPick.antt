-- The element or letter of the first pick that holds, and what is done by it.
use Rattle.std.proofs.Common.{◌≡◌, ℕ, suc, ◌<◌, Bool, true, false, List, [], ◌∷◌, All, Option, Some}
use Rattle.std.proofs.Common.{None, option_map, refl, ap, arith}
use Rattle.std.specs.List.{find}
use Rattle.std.specs.Option.{unwrap_or}
use Rattle.auto_monoid.specs.Auto.{PlainAuto, move}
use Rattle.gta_checked.specs.Plain.{PlainPick}
use Rattle.gta_checked.specs.Within.{IsPickWithin}
use Rattle.gta_meaning.specs.Folds.{element_of}
use Rattle.gta_meaning.specs.Runs.{moved_by}

abbrev pub element_if : Option PlainPick → Option ℕ
element_if found = option_map (λ (pick : PlainPick). pick.element) found

pub unwrap_or-element_of : (unit : ℕ) (found : Option PlainPick)
    → unwrap_or (element_if found) unit ≡ element_of unit found
unwrap_or-element_of unit None = refl
unwrap_or-element_of unit (Some pick) = refl

pub moved_by-Some : (automaton : PlainAuto) (state letter : ℕ) (found : Option PlainPick)
    → Some letter ≡ element_if found → move automaton letter state ≡ moved_by automaton state found
moved_by-Some automaton state letter None is = cc
moved_by-Some automaton state letter (Some pick) is =
    let same : letter ≡ pick.element = cc in
    ap (λ l. move automaton l state) same

pub moved_by-None : (automaton : PlainAuto) (state : ℕ) (found : Option PlainPick) → None ≡ element_if found
    → state ≡ moved_by automaton state found
moved_by-None automaton state None is = refl
moved_by-None automaton state (Some pick) is = cc

by_test : {A : Type 0} (b : Bool) → (b ≡ true → A) → (b ≡ false → A) → A
by_test true t f = t refl
by_test false t f = f refl

-- what is picked is one of so many
pub picked-within : (columns labels size : ℕ) (p : PlainPick → Bool) (picks : List PlainPick) (element : ℕ)
    → All (IsPickWithin columns labels size) picks → Some element ≡ element_if (find p picks) → element < size
picked-within columns labels size p [] element all is = cc
picked-within columns labels size p (pick ∷ picks) element all is =
    by_test (p pick)
    (λ t.
    let here : Some element ≡ Some pick.element = rw t at is in
    let same : element ≡ pick.element = cc in
    let within : pick.element < size = (all 0 pick (omega arith)).0 in
    omega arith)
    (λ f. picked-within columns labels size p picks element (λ k d below. all (suc k) d (omega arith)) (rw f at is))
