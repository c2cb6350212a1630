-- Lemmas on rows in which values are gathered.
use Rattle.std.proofs.Common.{◌≡◌, ℕ, zero, suc, ◌+◌, ◌<◌, ◌≤◌, List, [], ◌∷◌, ◌++◌, length, set, take, replicate}
use Rattle.std.proofs.Common.{nat_eq, Option, Some, None, inl, inr, refl, sym, ap, subst, ◌∙◌, length-set}
use Rattle.std.proofs.Common.{get_or-set_same, get_or-set_other}
use Rattle.std.specs.Prelude.{slice_index_or}
use Rattle.std.proofs.lemmas.Bool.{cases_eq, eq-eqb, ne_eqb}
use Rattle.std.proofs.lemmas.List.{take_more, take_all, get_or_read, set-set}
use Rattle.monoid_kit.specs.Items.{IsIn}
use Rattle.monoid_kit.proofs.Items.{IsIn-take, IsIn-read}
use Rattle.monoid_kit.proofs.Products.{product_by-append}
use Rattle.semiring_kit.specs.Semiring.{SemiringOn, IsSemiring, IsGood}
use Rattle.semiring_kit.specs.Total.{total, masked}
use Rattle.semiring_kit.proofs.Sums.{total-is_sound, zero_is_good, add_is_good}
use Rattle.key_map.specs.Rows.{value_of, value_in_row, IsGoodPlace, IsGoodRow, IsGathered}

pub get_or-replicate_none : (E : Type 0) (size k : ℕ)
    → slice_index_or (replicate {A = Option E} size None) k None ≡ None
get_or-replicate_none E zero k = refl
get_or-replicate_none E (suc size) zero = refl
get_or-replicate_none E (suc size) (suc k) = get_or-replicate_none E size k

module _ {E : Type 0} {r : SemiringOn E} (laws : IsSemiring r) where
  place_is_sound : (place : Option E) → IsGoodPlace r place → r.is_sound (value_of r.zero place)
  place_is_sound None good = laws.addition.monoid.unit_is_element
  place_is_sound (Some value) good = good.sound

  pub row_is_sound : (row : List (Option E)) (k : ℕ) → IsGoodRow r row → r.is_sound (value_in_row r.zero row k)
  row_is_sound row k good = place_is_sound (slice_index_or row k None) (good k)

  -- a value is set where the sum of what was there and the element belongs
  pub gathered-set : (row : List (Option E)) (key : ℕ) (value elem : E) → key < length row → IsGoodRow r row
      → IsGood r value → r.is_sound elem → value ≡ r.add (value_in_row r.zero row key) elem
      → IsGathered r row (set row key (Some value)) (λ k. masked r (nat_eq key k) elem)
  gathered-set row key value elem in_row good value_good elem_sound sum = record {
    same_length = length-set row key (Some value);
    values_are_good = λ k. elim (cases_eq k key) [
      | inl same ↦ subst (λ j. IsGoodPlace r (slice_index_or (set row key (Some value)) j None)) (sym same)
          (subst (IsGoodPlace r) (sym (get_or-set_same row key (Some value) None in_row)) value_good)
      | inr other ↦ subst (IsGoodPlace r) (sym (get_or-set_other row key k (Some value) None other)) (good k)
    ];
    values = λ k. elim (cases_eq k key) [
      | inl same ↦
          ap (value_in_row r.zero (set row key (Some value))) same
          ∙ ap (value_of r.zero) (get_or-set_same row key (Some value) None in_row)
          ∙ sum
          ∙ ap (λ j. r.add (value_in_row r.zero row j) elem) (sym same)
          ∙ ap (λ t. r.add (value_in_row r.zero row k) (masked r t elem)) (sym (eq-eqb key k (sym same)))
      | inr other ↦
          ap (value_of r.zero) (get_or-set_other row key k (Some value) None other)
          ∙ sym (laws.addition.monoid.right_identity (value_in_row r.zero row k) (row_is_sound row k good))
          ∙ ap (λ t. r.add (value_in_row r.zero row k) (masked r t elem))
          (sym (ne_eqb key k (λ same. other (sym same))))
    ];
  }

  place_is_good : (place : Option E) → IsGoodPlace r place → IsGood r (value_of r.zero place)
  place_is_good None good = zero_is_good laws
  place_is_good (Some value) good = good

  -- a place is taken, and holds the sum in place of what was there
  pub gathered-take : (row : List (Option E)) (key : ℕ) (taken left : Option E) (value elem : E)
      → key < length row → IsGoodRow r row → IsGood r elem
      → taken ≡ slice_index_or row key taken → value ≡ r.add (value_of r.zero taken) elem
      → IsGathered r row (set (set row key left) key (Some value)) (λ k. masked r (nat_eq key k) elem)
  gathered-take row key taken left value elem in_row good elem_good read sum =
      let place : taken ≡ slice_index_or row key None = get_or_read row key taken in_row read None in
      let held : value ≡ r.add (value_in_row r.zero row key) elem = sum
      ∙ ap (λ p. r.add (value_of r.zero p) elem) place in
      let value_good : IsGood r value =
      subst (IsGood r) (sym held)
      (add_is_good laws (value_in_row r.zero row key) elem (place_is_good (slice_index_or row key None) (good key))
      elem_good) in
      subst (λ new. IsGathered r row new (λ k. masked r (nat_eq key k) elem)) (sym (set-set row key left (Some value)))
      (gathered-set row key value elem in_row good value_good elem_good.sound held)

  pub taken_none : (taken : Option E) (value elem : E) → IsGood r elem → taken ≡ None → value ≡ elem
      → value ≡ r.add (value_of r.zero taken) elem
  taken_none taken value elem elem_good is same =
      same
      ∙ sym (laws.addition.monoid.left_identity elem elem_good.sound)
      ∙ ap (λ p. r.add (value_of r.zero p) elem) (sym is)

  pub taken_some : (taken : Option E) (held value elem : E) → taken ≡ Some held → value ≡ r.add held elem
      → value ≡ r.add (value_of r.zero taken) elem
  taken_some taken held value elem is same = same ∙ ap (λ p. r.add (value_of r.zero p) elem) (sym is)

  pub gathered-none : (row : List (Option E)) → IsGoodRow r row → IsGathered r row row (λ k. r.zero)
  gathered-none row good = record {
    same_length = refl;
    values_are_good = good;
    values = λ k. sym (laws.addition.monoid.right_identity (value_in_row r.zero row k) (row_is_sound row k good));
  }

  pub gathered-same : (old new : List (Option E)) (f g : ℕ → E) → ((k : ℕ) → f k ≡ g k)
      → IsGathered r old new f → IsGathered r old new g
  gathered-same old new f g same gathered = record {
    same_length = gathered.same_length;
    values_are_good = gathered.values_are_good;
    values = λ k. gathered.values k ∙ ap (r.add (value_in_row r.zero old k)) (same k);
  }

  -- one after the other
  gathered-then : (old mid new : List (Option E)) (f g : ℕ → E) → IsGoodRow r old
      → ((k : ℕ) → r.is_sound (f k)) → ((k : ℕ) → r.is_sound (g k))
      → IsGathered r old mid f → IsGathered r mid new g
      → IsGathered r old new (λ k. r.add (f k) (g k))
  gathered-then old mid new f g good f_sound g_sound first second = record {
    same_length = second.same_length ∙ first.same_length;
    values_are_good = second.values_are_good;
    values = λ k.
        second.values k
        ∙ ap (λ a. r.add a (g k)) (first.values k)
        ∙ laws.addition.monoid.associative (value_in_row r.zero old k) (f k) (g k) (row_is_sound old k good)
        (f_sound k) (g_sound k);
  }

  -- a loop over a list: what the items so far add, and then the next item
  pub gathered-more : {X : Type 0} (added : X → ℕ → E) (xs : List X) (i : ℕ) (x : X) (g : ℕ → E)
      (old mid new : List (Option E))
      → IsGoodRow r old → ((y : X) → IsIn y xs → (k : ℕ) → r.is_sound (added y k))
      → i < length xs → x ≡ slice_index_or xs i x → ((k : ℕ) → g k ≡ added x k)
      → IsGathered r old mid (λ k. total r (λ y. added y k) (take i xs)) → IsGathered r mid new g
      → IsGathered r old new (λ k. total r (λ y. added y k) (take (i + 1) xs))
  gathered-more added xs i x g old mid new good sound in_xs is same first second =
      gathered-same old new
      (λ k. r.add (total r (λ y. added y k) (take i xs)) (added x k))
      (λ k. total r (λ y. added y k) (take (i + 1) xs))
      more
      (gathered-then old mid new (λ k. total r (λ y. added y k) (take i xs)) (added x) good so_far here first
      (gathered-same mid new g (added x) same second))
    where
      here : (k : ℕ) → r.is_sound (added x k)
      here k = sound x (IsIn-read xs i x in_xs is) k

      so_far : (k : ℕ) → r.is_sound (total r (λ y. added y k) (take i xs))
      so_far k = total-is_sound laws (λ y. added y k) (take i xs) (λ y y_in. sound y (IsIn-take i xs y y_in) k)

      more : (k : ℕ) → r.add (total r (λ y. added y k) (take i xs)) (added x k) ≡ total r (λ y. added y k)
          (take (i + 1) xs)
      more k =
          ap (r.add (total r (λ y. added y k) (take i xs)))
          (sym (laws.addition.monoid.right_identity (added x k) (here k)))
          ∙ sym (product_by-append laws.addition.monoid (λ y. added y k) (take i xs) (x ∷ [])
          (λ y y_in. sound y (IsIn-take i xs y y_in) k)
          (λ y y_in. elim y_in [
            | inl same ↦ subst (λ z. r.is_sound (added z k)) (sym same) (here k)
            | inr none ↦
                absurd none
          ]))
          ∙ ap (λ ys. total r (λ y. added y k) ys)
          (ap (λ y. take i xs ++ y ∷ []) is ∙ sym (take_more xs i x in_xs))

  pub gathered-all : {X : Type 0} (added : X → ℕ → E) (xs : List X) (i : ℕ) (old new : List (Option E)) → length xs ≤ i
      → IsGathered r old new (λ k. total r (λ y. added y k) (take i xs))
      → IsGathered r old new (λ k. total r (λ y. added y k) xs)
  gathered-all added xs i old new past gathered =
      gathered-same old new (λ k. total r (λ y. added y k) (take i xs)) (λ k. total r (λ y. added y k) xs)
      (λ k. ap (λ ys. total r (λ y. added y k) ys) (take_all i xs past)) gathered
