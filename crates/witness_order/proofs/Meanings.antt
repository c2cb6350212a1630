-- A list in order has the items of the list, and its first k come before the others.
use Rattle.std.proofs.Common.{◌≡◌, ℕ, zero, suc, ◌+◌, ◌<◌, min, false, List, [], ◌∷◌, length, take, drop, get_or, sym}
use Rattle.std.proofs.Common.{ap, subst, ◌∙◌, arith}
use Rattle.std.specs.List.{All}
use Rattle.std.specs.List.Sorted.{IsPermutation, IsSorted}
use Rattle.std.proofs.lemmas.List.Sorted.{IsPermutation-refl, IsPermutation-cons, IsPermutation-sym}
use Rattle.std.proofs.lemmas.List.Sorted.{IsPermutation-trans, IsPermutation-middle}
use Rattle.std.proofs.lemmas.List.{take-append-drop, length-take, length-drop, get_or-drop}
use Rattle.std.proofs.lemmas.List.Elements.{All-cons}
use Rattle.std.specs.declared.cmp.Ordering.{Ordering}
use Rattle.std.specs.declared.cmp.Ordering.TheVariants.{Less, Equal, Greater}
use Rattle.std.specs.Ordering.{is_gt, is_lt, ordering_reverse}
use Rattle.std.proofs.lemmas.Cmp.{upto}
use Rattle.witness_order.specs.Rankings.{IsRanking}
use Rattle.witness_order.specs.Ranked.{Leads, Ascends, placed, ranked, first_of, ComesUpTo, IsFirstOf}
use Rattle.witness_order.proofs.Placed.{by_test, placed-after, placed-before, length-ranked}
use Rattle.witness_order.proofs.Firsts.{Ascends-ranked, Ascends-take}

-- the same items

module _ {E : Type 0} (cmp : E → E → Ordering) where
  IsPermutation-placed : (x : E) (s : List E) → IsPermutation (x ∷ s) (placed cmp x s)
  IsPermutation-placed x [] = IsPermutation-refl (x ∷ [])
  IsPermutation-placed x (a ∷ s) =
      by_test (is_gt (cmp x a))
      (λ after.
      subst (IsPermutation (x ∷ a ∷ s)) (sym (placed-after cmp x a s after))
      (IsPermutation-trans (x ∷ a ∷ s) (a ∷ x ∷ s) (a ∷ placed cmp x s)
      (IsPermutation-sym (a ∷ x ∷ s) (x ∷ a ∷ s) (IsPermutation-middle (a ∷ []) x s))
      (IsPermutation-cons a (x ∷ s) (placed cmp x s) (IsPermutation-placed x s))))
      (λ not_after.
      subst (IsPermutation (x ∷ a ∷ s)) (sym (placed-before cmp x a s not_after)) (IsPermutation-refl (x ∷ a ∷ s)))

  pub IsPermutation-ranked : (xs : List E) → IsPermutation xs (ranked cmp xs)
  IsPermutation-ranked [] = IsPermutation-refl []
  IsPermutation-ranked (x ∷ xs) =
      IsPermutation-trans (x ∷ xs) (x ∷ ranked cmp xs) (placed cmp x (ranked cmp xs))
      (IsPermutation-cons x xs (ranked cmp xs) (IsPermutation-ranked xs)) (IsPermutation-placed x (ranked cmp xs))

-- in order

turned_not_less : (o p : Ordering) → o ≡ ordering_reverse p → is_gt p ≡ false → is_lt o ≡ false
turned_not_less o Less turned not_after = ap is_lt turned
turned_not_less o Equal turned not_after = ap is_lt turned
turned_not_less o Greater turned not_after = cc

module _ {E : Type 0} (cmp : E → E → Ordering) (order : IsRanking cmp) where
  -- what leads a list in order comes after none of it
  pub leads_all : (x : E) (s : List E) → Leads cmp x s → Ascends cmp s
      → (j : ℕ) (d : E) → j < length s → is_gt (cmp x (get_or s j d)) ≡ false
  leads_all x [] leads ascends j d inside = absurd (omega arith)
  leads_all x (a ∷ s) leads ascends zero d inside = leads
  leads_all x (a ∷ s) leads ascends (suc j) d inside =
      upto order.total x a (get_or s j d) leads (leads_all a s ascends.0 ascends.1 j d (omega arith))

  not_less : (x y : E) → is_gt (cmp x y) ≡ false → is_lt (cmp y x) ≡ false
  not_less x y not_after = turned_not_less (cmp y x) (cmp x y) (order.total.antisymm y x) not_after

  not_less-next : (s : List E) → Ascends cmp s → (j : ℕ) (d : E) → suc j < length s
      → is_lt (cmp (get_or s (suc j) d) (get_or s j d)) ≡ false
  not_less-next [] ascends j d inside = absurd (omega arith)
  not_less-next (x ∷ []) ascends j d inside = absurd (omega arith)
  not_less-next (x ∷ y ∷ s) ascends zero d inside = not_less x y ascends.0
  not_less-next (x ∷ y ∷ s) ascends (suc j) d inside = not_less-next (y ∷ s) ascends.1 j d (omega arith)

  pub IsSorted-Ascends : (s : List E) → Ascends cmp s → IsSorted cmp s
  IsSorted-Ascends s ascends = λ j d low inside.
      let next : j + 1 ≡ suc j = omega arith in
      rw next (not_less-next s ascends j d (omega arith))

  -- none of the first k comes after one of the others
  ComesUpTo-cut : (k : ℕ) (s : List E) → Ascends cmp s → ComesUpTo cmp (take k s) (drop k s)
  ComesUpTo-cut zero s ascends = λ j d inside. absurd (omega arith)
  ComesUpTo-cut (suc k) [] ascends = λ j d inside. absurd (omega arith)
  ComesUpTo-cut (suc k) (x ∷ s) ascends =
      All-cons (λ z. All (λ y. is_gt (cmp z y) ≡ false) (drop k s)) x (take k s)
      (λ j d inside.
      subst (λ y. is_gt (cmp x y) ≡ false) (sym (get_or-drop k s j d))
      (let rest = length-drop k s in leads_all x s ascends.0 ascends.1 (k + j) d (omega (arith, rest))))
      (ComesUpTo-cut k s ascends.1)

  pub first_of-IsFirstOf : (k : ℕ) (xs : List E) → IsFirstOf cmp k xs (first_of cmp k xs)
  first_of-IsFirstOf k xs = record {
    left_out = drop k (ranked cmp xs);
    permutation = subst (IsPermutation xs) (sym (take-append-drop k (ranked cmp xs))) (IsPermutation-ranked cmp xs);
    count = length-take k (ranked cmp xs) ∙ ap (min k) (length-ranked cmp xs);
    in_order = IsSorted-Ascends (first_of cmp k xs)
        (Ascends-take cmp order k (ranked cmp xs) (Ascends-ranked cmp order xs));
    comes_first = ComesUpTo-cut k (ranked cmp xs) (Ascends-ranked cmp order xs);
  }
