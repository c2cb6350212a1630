-- Picks in order: the place of one more, and the products that they stand for.
use Rattle.std.proofs.Common.{◌≡◌, ℕ, ◌+◌, ◌-◌, ◌<◌, ◌≤◌, Bool, true, false, List, length, map, take, get_or}
use Rattle.std.proofs.Common.{sym, ap, ◌∙◌, arith}
use Rattle.std.proofs.Math.ListN.{get_or-map}
use Rattle.std.proofs.lemmas.List.{length-map, take-map, take_all}
use Rattle.std.specs.List.{insert}
use Rattle.std.specs.declared.cmp.Ordering.{Ordering}
use Rattle.std.specs.Ordering.{is_gt}
use Rattle.semiring_kit.specs.Semiring.{weight_bound}
use Rattle.witness_order.specs.Rankings.{IsRanking}
use Rattle.witness_order.specs.Ranked.{placed, Ascends, IsRankedWithin}
use Rattle.first_k.specs.FirstK.{reach_of}
use Rattle.first_k.proofs.Places.{map-insert, take-placed-insert, take-placed-past}
use Rattle.first_k.proofs.Places.{ascends_far, after_before, not_after_behind}
use Rattle.first_k.proofs.Rows.{reach_within}

-- items of two lists reach no further together than the lists
pub joint_within : {E : Type 0} (reach : E → ℕ) (a b : List E) (i j : ℕ) (x y : E) → i < length a
    → x ≡ get_or a i x → j < length b → y ≡ get_or b j y
    → reach_of reach a + reach_of reach b ≤ weight_bound → reach x + reach y ≤ weight_bound
joint_within reach a b i j x y a_within a_is b_within b_is add_up =
    let left = reach_within reach a i x a_within a_is in
    let right = reach_within reach b j y b_within b_is in
    omega (arith, left, right, add_up)

-- picks of any kind P, of which each stands for an item; none is named for places that no list has
module _ {E P : Type 0} (cmp : E → E → Ordering) (order : IsRanking cmp) (at : P → E) (none : P)
    (picks : List P) (pick : P) where
  -- whether the pick comes after the one at a place
  abbrev pub after_at : ℕ → Bool
  after_at i = is_gt (cmp (at pick) (at (get_or picks i none)))

  mapped_at : (i : ℕ) → get_or (map at picks) i (at none) ≡ at (get_or picks i none)
  mapped_at i = get_or-map at picks i none

  pub after_mapped : (t : Bool) (i : ℕ) → after_at i ≡ t → is_gt (cmp (at pick) (get_or (map at picks) i (at none))) ≡ t
  after_mapped t i is = ap (λ e. is_gt (cmp (at pick) e)) (mapped_at i) ∙ is

  module _ (ascends : Ascends cmp (map at picks)) where
    picks_far : (i j : ℕ) → i ≤ j → j < length picks
        → is_gt (cmp (at (get_or picks i none)) (at (get_or picks j none))) ≡ false
    picks_far i j below inside =
        let even : length (map at picks) ≡ length picks = length-map picks at in
        sym (ap (λ e. is_gt (cmp e (at (get_or picks j none)))) (mapped_at i))
        ∙ sym (ap (λ e. is_gt (cmp (get_or (map at picks) i (at none)) e)) (mapped_at j))
        ∙ ascends_far cmp order (map at picks) ascends i j (at none) below (omega (arith, even))

    -- the pick comes after all up to one that it comes after
    pub after_up_to : (mid : ℕ) → mid < length picks → after_at mid ≡ true
        → (i : ℕ) → i < mid + 1 → after_at i ≡ true
    after_up_to mid inside after i below =
        after_before cmp order (at pick) (at (get_or picks i none)) (at (get_or picks mid none))
        (picks_far i mid (omega arith) inside) after

    -- and after none from one on that it doesn't come after
    pub not_after_from : (mid : ℕ) → after_at mid ≡ false
        → (i : ℕ) → mid ≤ i → i < length picks → after_at i ≡ false
    not_after_from mid not_after i above inside =
        not_after_behind cmp order (at pick) (at (get_or picks mid none)) (at (get_or picks i none))
        (picks_far mid i above inside) not_after

  module _ (k place : ℕ) (in_order : IsRankedWithin cmp k (map at picks)) (within : place ≤ length picks)
      (after : (i : ℕ) → i < place → after_at i ≡ true) where
    -- a pick that comes after the first k is left out
    pub pick_left_out : k ≤ place → map at picks ≡ take k (placed cmp (at pick) (map at picks))
    pick_left_out past =
        let even : length (map at picks) ≡ length picks = length-map picks at in
        sym (take-placed-past cmp (at pick) (map at picks) (at none) k (omega (arith, even))
        (λ i below. after_mapped true i (after i (omega arith)))
        ∙ take_all k (map at picks) in_order.few)

    -- any other is put in at its place
    pub pick_kept : place < k → ((i : ℕ) → place ≤ i → i < length picks → after_at i ≡ false)
        → map at (insert (take (k - 1) picks) place pick) ≡ take k (placed cmp (at pick) (map at picks))
    pick_kept kept not_after =
        let even : length (map at picks) ≡ length picks = length-map picks at in
        map-insert at (take (k - 1) picks) place pick
        ∙ ap (λ l. insert l place (at pick)) (sym (take-map at (k - 1) picks))
        ∙ sym (take-placed-insert cmp (at pick) (map at picks) (at none) place k kept (omega (arith, even))
        (λ i below. after_mapped true i (after i below))
        (λ i above inside. after_mapped false i (not_after i above (omega (arith, even)))))
