-- Lemmas on the first k of a list, over any ranking: where two parts have the same first k, so has the whole,
-- and a list that is in order and has no more than k items is its own first k.
use Rattle.std.proofs.Common.{◌≡◌, ℕ, zero, suc, false, List, [], ◌∷◌, ◌++◌, take, refl, sym, ap, subst, ◌∙◌, arith}
use Rattle.std.proofs.Common.{append_assoc}
use Rattle.std.proofs.lemmas.List.{length-take, take_all}
use Rattle.std.specs.declared.cmp.Ordering.{Ordering}
use Rattle.std.specs.Ordering.{is_gt}
use Rattle.witness_order.specs.Rankings.{IsRanking}
use Rattle.witness_order.specs.Ranked.{Leads, Ascends, IsRankedWithin, placed, ranked, first_of}
use Rattle.witness_order.proofs.Placed.{by_test, placed_all, placed-after, placed-before, ranked-append}
use Rattle.witness_order.proofs.Placed.{ranked-append_comm, take-placed_all, not_after_back}

module _ {E : Type 0} (cmp : E → E → Ordering) (order : IsRanking cmp) where
  -- parts with the same first k

  pub first_of-comm : (k : ℕ) (xs ys : List E) → first_of cmp k (xs ++ ys) ≡ first_of cmp k (ys ++ xs)
  first_of-comm k xs ys = ap (take k) (ranked-append_comm cmp order xs ys)

  pub first_of-right : (k : ℕ) (xs ys zs : List E) → first_of cmp k ys ≡ first_of cmp k zs
      → first_of cmp k (xs ++ ys) ≡ first_of cmp k (xs ++ zs)
  first_of-right k xs ys zs same =
      ap (take k) (ranked-append cmp xs ys) ∙ take-placed_all cmp k xs (ranked cmp ys)
      ∙ ap (λ l. take k (placed_all cmp xs l)) same
      ∙ sym (take-placed_all cmp k xs (ranked cmp zs)) ∙ ap (take k) (sym (ranked-append cmp xs zs))

  pub first_of-left : (k : ℕ) (xs ys zs : List E) → first_of cmp k xs ≡ first_of cmp k ys
      → first_of cmp k (xs ++ zs) ≡ first_of cmp k (ys ++ zs)
  first_of-left k xs ys zs same =
      first_of-comm k xs zs ∙ first_of-right k zs xs ys same ∙ first_of-comm k zs ys

  pub first_of-both : (k : ℕ) (xs ys us vs : List E)
      → first_of cmp k xs ≡ first_of cmp k ys → first_of cmp k us ≡ first_of cmp k vs
      → first_of cmp k (xs ++ us) ≡ first_of cmp k (ys ++ vs)
  first_of-both k xs ys us vs front back = first_of-left k xs ys us front ∙ first_of-right k ys us vs back

  -- what is in order

  pub leads-placed : (x y : E) (s : List E) → is_gt (cmp y x) ≡ false → Leads cmp y s → Leads cmp y (placed cmp x s)
  leads-placed x y [] not_after leads = not_after
  leads-placed x y (a ∷ s) not_after leads =
      by_test (is_gt (cmp x a))
      (λ after. subst (Leads cmp y) (sym (placed-after cmp x a s after)) leads)
      (λ x_not_after. subst (Leads cmp y) (sym (placed-before cmp x a s x_not_after)) not_after)

  pub Ascends-placed : (x : E) (s : List E) → Ascends cmp s → Ascends cmp (placed cmp x s)
  Ascends-placed x [] ascends = (tt, tt)
  Ascends-placed x (a ∷ s) ascends =
      by_test (is_gt (cmp x a))
      (λ after.
      subst (Ascends cmp) (sym (placed-after cmp x a s after))
      (leads-placed x a s (not_after_back cmp order x a after) ascends.0, Ascends-placed x s ascends.1))
      (λ not_after. subst (Ascends cmp) (sym (placed-before cmp x a s not_after)) (not_after, ascends))

  pub Ascends-ranked : (xs : List E) → Ascends cmp (ranked cmp xs)
  Ascends-ranked [] = tt
  Ascends-ranked (x ∷ xs) = Ascends-placed x (ranked cmp xs) (Ascends-ranked xs)

  leads-take : (k : ℕ) (x : E) (s : List E) → Leads cmp x s → Leads cmp x (take k s)
  leads-take zero x s leads = tt
  leads-take (suc k) x [] leads = tt
  leads-take (suc k) x (a ∷ s) leads = leads

  pub Ascends-take : (k : ℕ) (s : List E) → Ascends cmp s → Ascends cmp (take k s)
  Ascends-take zero s ascends = tt
  Ascends-take (suc k) [] ascends = tt
  Ascends-take (suc k) (a ∷ s) ascends = (leads-take k a s ascends.0, Ascends-take k s ascends.1)

  pub first_of-IsRankedWithin : (k : ℕ) (xs : List E) → IsRankedWithin cmp k (first_of cmp k xs)
  first_of-IsRankedWithin k xs = record {
    ordered = Ascends-take k (ranked cmp xs) (Ascends-ranked xs);
    few = let shorter = length-take k (ranked cmp xs) in omega (arith, shorter);
  }

  pub placed-leads : (x : E) (s : List E) → Leads cmp x s → placed cmp x s ≡ x ∷ s
  placed-leads x [] leads = refl
  placed-leads x (a ∷ s) leads = placed-before cmp x a s leads

  pub ranked-same : (s : List E) → Ascends cmp s → ranked cmp s ≡ s
  ranked-same [] ascends = refl
  ranked-same (x ∷ s) ascends = ap (placed cmp x) (ranked-same s ascends.1) ∙ placed-leads x s ascends.0

  pub first_of-same : (k : ℕ) (xs : List E) → IsRankedWithin cmp k xs → first_of cmp k xs ≡ xs
  first_of-same k xs short = ap (take k) (ranked-same xs short.ordered) ∙ take_all k xs short.few

  -- the first k of the first k

  pub first_of-first_of : (k : ℕ) (xs : List E) → first_of cmp k (first_of cmp k xs) ≡ first_of cmp k xs
  first_of-first_of k xs = first_of-same k (first_of cmp k xs) (first_of-IsRankedWithin k xs)

  -- both lists may be cut to their first k
  pub first_of-append : (k : ℕ) (xs ys : List E)
      → first_of cmp k (first_of cmp k xs ++ first_of cmp k ys) ≡ first_of cmp k (xs ++ ys)
  first_of-append k xs ys =
      first_of-both k (first_of cmp k xs) xs (first_of cmp k ys) ys (first_of-first_of k xs) (first_of-first_of k ys)

  -- joined in another order

  pub first_of-swap : (k : ℕ) (xs ys zs : List E)
      → first_of cmp k (xs ++ (ys ++ zs)) ≡ first_of cmp k (ys ++ (xs ++ zs))
  first_of-swap k xs ys zs =
      ap (first_of cmp k) (sym (append_assoc xs ys zs))
      ∙ first_of-left k (xs ++ ys) (ys ++ xs) zs (first_of-comm k xs ys)
      ∙ ap (first_of cmp k) (append_assoc ys xs zs)

  pub first_of-cross : (k : ℕ) (xs ys us vs : List E)
      → first_of cmp k ((xs ++ ys) ++ (us ++ vs)) ≡ first_of cmp k ((xs ++ us) ++ (ys ++ vs))
  first_of-cross k xs ys us vs =
      ap (first_of cmp k) (append_assoc xs ys (us ++ vs))
      ∙ first_of-right k xs (ys ++ (us ++ vs)) (us ++ (ys ++ vs)) (first_of-swap k ys us vs)
      ∙ ap (first_of cmp k) (sym (append_assoc xs us (ys ++ vs)))
