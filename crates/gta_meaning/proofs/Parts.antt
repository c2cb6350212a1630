-- The parts of a checked specification, read from its vectors.
use Rattle.std.proofs.Common.{◌≡◌, ℕ, ◌<◌, List, [], map, length, get_or, All, subst, sym, ap, ◌∙◌, arith}
use Rattle.std.proofs.lemmas.List.{get_or-map, length-map}
use Rattle.gta_checked.specs.declared.resolved.Case.{Case}
use Rattle.gta_checked.specs.declared.resolved.Measure.{Measure}
use Rattle.gta_checked.specs.Plain.{PlainCase, plain_case, plain_measure}
use Rattle.gta_checked.specs.Within.{IsCaseWithin}

module _ {A B : Type 0} (f : A → B) (items : List A) (plains : List B) (same : map f items ≡ plains) where
  -- the plain item at i is that of the item at i
  pub item-at : (i : ℕ) (x : A) (d : B) → i < length items → x ≡ get_or items i x → f x ≡ get_or plains i d
  item-at i x d below is = ap f is ∙ sym (get_or-map f items i x d below) ∙ ap (λ xs. get_or xs i d) same

  -- what holds of each plain item holds of that of the item at i
  pub item-within : (P : B → Type 0) (i : ℕ) (x : A) → i < length items → x ≡ get_or items i x → All P plains → P (f x)
  item-within P i x below is all =
      let in_plains : i < length plains = omega (arith, sym (length-map items f) ∙ ap length same) in
      subst P (sym (item-at i x (f x) below is)) (all i (f x) in_plains)

  -- what a function gives of all plain items, at i
  pub image-at : {C : Type 0} (h : B → C) (i : ℕ) (x : A) (e : C) → i < length items → x ≡ get_or items i x
      → h (f x) ≡ get_or (map h plains) i e
  image-at h i x e below is =
      let in_plains : i < length plains = omega (arith, sym (length-map items f) ∙ ap length same) in
      ap h (item-at i x (f x) below is) ∙ sym (get_or-map h plains i (f x) e in_plains)

pub case-within : (columns labels : ℕ) (cases items : List Case) (i : ℕ) (case : Case)
    → items ≡ cases → i < length items → case ≡ get_or items i case
    → All (IsCaseWithin columns labels) (map plain_case cases)
    → IsCaseWithin columns labels (plain_case case)
case-within columns labels cases items i case same below is all =
    item-within plain_case items (map plain_case cases) (ap (map plain_case) same)
    (IsCaseWithin columns labels) i case below is all

-- the measure at i
pub measure-at : (items : List Measure) (measures : List (List PlainCase)) (i : ℕ) (measure : Measure)
    → map plain_measure items ≡ measures → i < length measures → measure ≡ get_or items i measure
    → plain_measure measure ≡ get_or measures i []
measure-at items measures i measure same below is =
    item-at plain_measure items measures same i measure []
    (omega (arith, sym (length-map items plain_measure) ∙ ap length same)) is
