-- The steps of a product: one more product, a row that ends, one more row.
use Rattle.std.proofs.Common.{◌≡◌, ℕ, zero, suc, ◌+◌, ◌<◌, ◌≤◌, true, List, [], ◌∷◌, ◌++◌, length, map, take}
use Rattle.std.proofs.Common.{drop, get_or, refl, sym, ap, subst, ◌∙◌, arith, append_assoc, add-one}
use Rattle.std.proofs.Math.Seq.{drop-cons}
use Rattle.std.proofs.lemmas.List.{append-nil, length-map, map-append, take_more, take-append-drop, take_all}
use Rattle.std.specs.declared.cmp.Ordering.{Ordering}
use Rattle.std.specs.Ordering.{is_gt}
use Rattle.witness_order.specs.Rankings.{IsRanking}
use Rattle.witness_order.specs.Ranked.{placed, first_of, Leads, Ascends, IsRankedWithin}
use Rattle.witness_order.proofs.Firsts.{first_of-left, first_of-same, first_of-first_of}
use Rattle.witness_order.proofs.Firsts.{first_of-IsRankedWithin}
use Rattle.first_k.specs.FirstK.{products, reach_of}
use Rattle.first_k.specs.FirstKLaws.{products-append}
use Rattle.first_k.proofs.Merges.{LeadsAll, LeadsAll-Ascends}
use Rattle.first_k.proofs.Places.{first_of-placed, first_of-past}

-- an item reaches no further than the list
pub reach_within : {E : Type 0} (reach : E → ℕ) (s : List E) (i : ℕ) (x : E) → i < length s → x ≡ get_or s i x
    → reach x ≤ reach_of reach s
reach_within reach [] i x within is = absurd (omega arith)
reach_within reach (y ∷ s) zero x within is = let same = ap reach is in omega (arith, same)
reach_within reach (y ∷ s) (suc i) x within is =
    let rest = reach_within reach s i x (omega arith) is in omega (arith, rest)

module _ {E : Type 0} (cmp : E → E → Ordering) (order : IsRanking cmp) where
  Ascends-drop : (i : ℕ) (s : List E) → Ascends cmp s → Ascends cmp (drop i s)
  Ascends-drop zero s ascends = ascends
  Ascends-drop (suc i) [] ascends = tt
  Ascends-drop (suc i) (x ∷ s) ascends = Ascends-drop i s ascends.1

  module _ (f : E → E) (keeps : (x y : E) → cmp (f x) (f y) ≡ cmp x y) where
    leads-map : (x : E) (s : List E) → Leads cmp x s → Leads cmp (f x) (map f s)
    leads-map x [] leads = tt
    leads-map x (y ∷ s) leads = ap is_gt (keeps x y) ∙ leads

    Ascends-map : (s : List E) → Ascends cmp s → Ascends cmp (map f s)
    Ascends-map [] ascends = tt
    Ascends-map (x ∷ s) ascends = (leads-map x s ascends.0, Ascends-map s ascends.1)

    -- what is in order stays so
    first_of-mapped : (k : ℕ) (s : List E) → IsRankedWithin cmp k s → map f s ≡ first_of cmp k (map f s)
    first_of-mapped k s ranked =
        let even : length (map f s) ≡ length s = length-map s f in
        let few = ranked.few in
        sym (first_of-same cmp order k (map f s)
        (record { ordered = Ascends-map s ranked.ordered; few = omega (arith, even, few) }))

    -- a row's later products come after none before them
    leads_rest : (row : List E) (i : ℕ) (d : E) → i < length row → Ascends cmp row
        → LeadsAll cmp (f (get_or row i d)) (map f (drop (i + 1) row))
    leads_rest row i d within ascends =
        let rest : Ascends cmp (get_or row i d ∷ drop (i + 1) row) =
        subst (Ascends cmp) (drop-cons row i d within ∙ ap (λ j. get_or row i d ∷ drop j row) (sym (add-one i)))
        (Ascends-drop i row ascends) in
        let mapped = Ascends-map (get_or row i d ∷ drop (i + 1) row) rest in
        LeadsAll-Ascends cmp order (f (get_or row i d)) (map f (drop (i + 1) row)) mapped.0 mapped.1

    module _ (k : ℕ) (sum before : List E) (row : List E) (i : ℕ) (d : E) (within : i < length row)
        (so_far : before ≡ first_of cmp k (sum ++ map f (take i row))) where
      -- one more product of the row
      pub row_more : (after : List E) → after ≡ take k (placed cmp (f (get_or row i d)) before)
          → after ≡ first_of cmp k (sum ++ map f (take (i + 1) row))
      row_more after is =
          is ∙ ap (λ l. take k (placed cmp (f (get_or row i d)) l)) so_far
          ∙ first_of-placed cmp order k (sum ++ map f (take i row)) (f (get_or row i d))
          ∙ ap (first_of cmp k) (append_assoc sum (map f (take i row)) (f (get_or row i d) ∷ []))
          ∙ ap (λ l. first_of cmp k (sum ++ l)) (sym (map-append f (take i row) (get_or row i d ∷ [])))
          ∙ ap (λ l. first_of cmp k (sum ++ map f l)) (sym (take_more row i d within))

      -- a row ends at the first product that is left out
      pub row_ends : (after : List E) → after ≡ take k (placed cmp (f (get_or row i d)) before)
          → Ascends cmp row → (e : E) → k ≤ length after
          → ((j : ℕ) → j < k → is_gt (cmp (f (get_or row i d)) (get_or after j e)) ≡ true)
          → after ≡ first_of cmp k (sum ++ map f row)
      row_ends after is ascends e full past =
          let at = row_more after is in
          let whole : take (i + 1) row ++ drop (i + 1) row ≡ row = take-append-drop (i + 1) row in
          let joined : (sum ++ map f (take (i + 1) row)) ++ map f (drop (i + 1) row) ≡ sum ++ map f row =
          append_assoc sum (map f (take (i + 1) row)) (map f (drop (i + 1) row))
          ∙ ap (λ l. sum ++ l) (sym (map-append f (take (i + 1) row) (drop (i + 1) row)))
          ∙ ap (λ l. sum ++ map f l) whole in
          let few : length after ≤ k =
          subst (λ l. length l ≤ k) (sym at)
          (first_of-IsRankedWithin cmp order k (sum ++ map f (take (i + 1) row))).few in
          let kept : first_of cmp k ((sum ++ map f (take (i + 1) row)) ++ map f (drop (i + 1) row))
          ≡ take k (first_of cmp k (sum ++ map f (take (i + 1) row))) =
          first_of-past cmp order k (sum ++ map f (take (i + 1) row)) (map f (drop (i + 1) row))
          (f (get_or row i d)) e (subst (λ l. k ≤ length l) at full)
          (λ j below. subst (λ l. is_gt (cmp (f (get_or row i d)) (get_or l j e)) ≡ true) at (past j below))
          (leads_rest row i d within ascends) in
          sym (take_all k after few) ∙ ap (take k) at ∙ sym kept ∙ ap (first_of cmp k) joined

  -- one more row
  pub rows_more : (mul : E → E → E) (k : ℕ) (before after xs ys : List E) (i : ℕ) (d : E) → i < length xs
      → before ≡ first_of cmp k (products mul (take i xs) ys)
      → after ≡ first_of cmp k (before ++ map (mul (get_or xs i d)) ys)
      → after ≡ first_of cmp k (products mul (take (i + 1) xs) ys)
  rows_more mul k before after xs ys i d within so_far is =
      let sums = products mul (take i xs) ys in
      is ∙ ap (λ l. first_of cmp k (l ++ map (mul (get_or xs i d)) ys)) so_far
      ∙ first_of-left cmp order k (first_of cmp k sums) sums (map (mul (get_or xs i d)) ys)
      (first_of-first_of cmp order k sums)
      ∙ ap (λ l. first_of cmp k (sums ++ l)) (sym (append-nil (map (mul (get_or xs i d)) ys)))
      ∙ ap (first_of cmp k) (sym (products-append mul (take i xs) (get_or xs i d ∷ []) ys))
      ∙ ap (λ l. first_of cmp k (products mul l ys)) (sym (take_more xs i d within))

  -- one item on one side

  products-one : (mul : E → E → E) (xs : List E) (y : E) → products mul xs (y ∷ []) ≡ map (λ x. mul x y) xs
  products-one mul [] y = refl
  products-one mul (x ∷ xs) y = ap (λ l. mul x y ∷ l) (products-one mul xs y)

  pub first_of-row : (mul : E → E → E) (k : ℕ) (xs ys : List E) (x : E) → length xs ≡ 1 → x ≡ get_or xs 0 x
      → ((y z : E) → cmp (mul x y) (mul x z) ≡ cmp y z) → IsRankedWithin cmp k ys
      → map (mul x) ys ≡ first_of cmp k (products mul xs ys)
  first_of-row mul k [] ys x one at keeps ranked = absurd (omega arith)
  first_of-row mul k (z ∷ []) ys x one at keeps ranked =
      first_of-mapped (mul x) keeps k ys ranked
      ∙ ap (λ w. first_of cmp k (map (mul w) ys)) at
      ∙ ap (first_of cmp k) (sym (append-nil (map (mul z) ys)))
  first_of-row mul k (z ∷ u ∷ xs) ys x one at keeps ranked = absurd (omega arith)

  pub first_of-column : (mul : E → E → E) (k : ℕ) (xs ys : List E) (y : E) → length ys ≡ 1 → y ≡ get_or ys 0 y
      → ((x z : E) → cmp (mul x y) (mul z y) ≡ cmp x z) → IsRankedWithin cmp k xs
      → map (λ x. mul x y) xs ≡ first_of cmp k (products mul xs ys)
  first_of-column mul k xs [] y one at keeps ranked = absurd (omega arith)
  first_of-column mul k xs (z ∷ []) y one at keeps ranked =
      first_of-mapped (λ x. mul x y) keeps k xs ranked
      ∙ ap (λ w. first_of cmp k (map (λ x. mul x w) xs)) at
      ∙ ap (first_of cmp k) (sym (products-one mul xs z))
  first_of-column mul k xs (z ∷ u ∷ ys) y one at keeps ranked = absurd (omega arith)
