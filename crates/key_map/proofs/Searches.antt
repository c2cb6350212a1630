-- What a search by halves finds in slots whose keys ascend.
use Rattle.std.proofs.Common.{◌≡◌, ℕ, ◌<◌, ◌≤◌, ◌≢◌, List, length, inl, inr, sym, ap, ◌∙◌, arith}
use Rattle.std.specs.Prelude.{slice_index_or}
use Rattle.std.specs.List.{HoldsAt}
use Rattle.std.specs.List.Sorted.{IsNonDecreasingBy, IsPartitionPoint}
use Rattle.std.specs.Ordering.{nat_cmp, ordering_index}
use Rattle.std.specs.declared.cmp.Ordering.TheVariants.{Less, Equal, Greater}
use Rattle.std.proofs.lemmas.Bool.{cases_eq, cases_lt}
use Rattle.std.proofs.lemmas.Bool.Decides.{nat_tests}
use Rattle.std.proofs.lemmas.Cmp.{ranked}
use Rattle.monoid_kit.specs.Items.{IsIn, AllElements}
use Rattle.monoid_kit.proofs.Items.{IsIn-read, IsIn-place}
use Rattle.key_map.specs.declared.slot.Slot.{Slot}
use Rattle.key_map.specs.Slots.{key_of, KeysAscend}

rank_rises : (x y k : ℕ) → x ≤ y → ordering_index (nat_cmp x k) ≤ ordering_index (nat_cmp y k)
rank_rises x y k below = grind (arith, nat_tests)

module _ {E : Type 0} (slots : List (Slot E)) (key place : ℕ) where
  pub found_at : (slot : Slot E) → HoldsAt (λ s. nat_cmp (key_of s) key ≡ Equal) slots place → place < length slots
      → slot ≡ slice_index_or slots place slot → IsIn slot slots × (slot.key ≡ key)
  found_at slot equal in_slots is = (
    IsIn-read slots place slot in_slots is,
    ap key_of is ∙ ranked (key_of (slice_index_or slots place slot)) key Equal (sym (equal slot)),
  )

  ranks_rise : KeysAscend slots → IsNonDecreasingBy (λ s. ordering_index (nat_cmp (key_of s) key)) slots
  ranks_rise ascend i j default ordered in_slots = elim (cases_eq i j) [
    | inl same ↦
        let e = ap (λ k. key_of (slice_index_or slots k default)) same in
        rank_rises (key_of (slice_index_or slots i default)) (key_of (slice_index_or slots j default)) key (omega arith)
    | inr other ↦
        let below = ascend i j default (omega arith) in_slots in
        rank_rises (key_of (slice_index_or slots i default)) (key_of (slice_index_or slots j default)) key (omega arith)
  ]

  pub absent_at : KeysAscend slots
      → (IsNonDecreasingBy (λ s. ordering_index (nat_cmp (key_of s) key)) slots
      → IsPartitionPoint (λ s. nat_cmp (key_of s) key ≡ Less) (λ s. nat_cmp (key_of s) key ≡ Greater) slots place)
      → AllElements (λ other. other ≢ key) key_of slots
  absent_at ascend split slot slot_in same =
      let parts = split (ranks_rise ascend) in
      let there = IsIn-place slots slot slot slot_in in
      let here : key_of (slice_index_or slots there.0 slot) ≡ key = ap key_of there.2 ∙ same in
      elim (cases_lt there.0 place) [
        | inl before ↦
            let less : key_of (slice_index_or slots there.0 slot) < key =
            ranked (key_of (slice_index_or slots there.0 slot)) key Less
            (sym (parts.0 there.0 slot (omega arith) before)) in
            absurd (omega arith)
        | inr after ↦
            let greater : key < key_of (slice_index_or slots there.0 slot) =
            ranked (key_of (slice_index_or slots there.0 slot)) key Greater
            (sym (parts.1 there.0 slot after there.1)) in
            absurd (omega arith)
      ]
