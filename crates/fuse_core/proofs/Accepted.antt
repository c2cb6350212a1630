-- The sum over the accepted keys of what a map shows is the sum over the accepted candidates.
use Rattle.std.proofs.Common.{◌≡◌, refl, sym, ap, ◌∙◌, subst, ℕ, ◌+◌, ◌<◌, Bool, true, false, List, [], ◌∷◌, length}
use Rattle.std.proofs.Common.{slice_index_or, arith}
use Rattle.std.specs.List.{range_with_len}
use Rattle.monoid_kit.specs.Monoid.{IsMonoid}
use Rattle.monoid_kit.proofs.Products.{product_by-same, product_by-append, product_by-filter}
use Rattle.monoid_kit.proofs.Keyed.{product_by-keyed}
use Rattle.semiring_kit.specs.Semiring.{SemiringOn, IsSemiring, IsGood}
use Rattle.semiring_kit.specs.Total.{total, masked, total_at_key}
use Rattle.semiring_kit.proofs.Sums.{masked-IsAdditive, add_is_good, masked_is_good}
use Rattle.shape_gen.specs.declared.mark.Mark.{Mark}
use Rattle.shape_gen.specs.declared.shape.Shape.{Shape}
use Rattle.shape_gen.specs.Candidates.{candidates}
use Rattle.shape_gen.proofs.Lists.{range-append}
use Rattle.fuse_core.specs.declared.letter.Letter.{Letter}
use Rattle.fuse_core.specs.Letters.{key_of, weight_of, HasLetters}
use Rattle.fuse_core.specs.Stands.{Shows, Stands}
use Rattle.fuse_core.specs.Plans.{accepts, accepted_sum}
use Rattle.fuse_core.specs.Wirings.{ending, with_empty}
use Rattle.fuse_core.proofs.Weighs.{weighs}
use Rattle.fuse_core.proofs.Planned.{stands-count, stands-places}
use Rattle.fuse_core.proofs.Wired.{lists_at, ending-within, shape-ends}

-- sums over keys, a key more at the end

module _ {E : Type 0} {r : SemiringOn E} (laws : IsSemiring r) (accept : List Bool) (x : ℕ → E)
    (good : (k : ℕ) → IsGood r (x k)) where
  accepted_at : ℕ → E
  accepted_at k = masked r (accepts accept k) (x k)

  accepted_at-sound : (k : ℕ) → r.is_sound (accepted_at k)
  unfolding accepted_at
  accepted_at-sound k = (masked-IsAdditive laws (accepts accept k)).keeps_elements (x k) (good k).sound

  one_more : (n : ℕ) → total r (λ k. masked r (accepts accept k) (x k)) (range_with_len 0 (n + 1))
      ≡ r.add (total r (λ k. masked r (accepts accept k) (x k)) (range_with_len 0 n))
      (masked r (accepts accept n) (x n))
  unfolding accepted_at
  one_more n =
      let f = λ (k : ℕ). masked r (accepts accept k) (x k) in
      let last : 0 + n ≡ n = omega arith in
      ap (total r f) (range-append 0 n 1)
      ∙ product_by-append laws.addition.monoid f (range_with_len 0 n) (range_with_len (0 + n) 1)
      (λ k k_in. accepted_at-sound k) (λ k k_in. accepted_at-sound k)
      ∙ ap (r.add (total r f (range_with_len 0 n)))
      (laws.addition.monoid.right_identity (f (0 + n)) (accepted_at-sound (0 + n)) ∙ ap f last)

  pub sum-more : (key : ℕ) (sum next : E)
      → sum ≡ total r (λ k. masked r (accepts accept k) (x k)) (range_with_len 0 key)
      → next ≡ r.add sum (masked r (accepts accept key) (x key))
      → next ≡ total r (λ k. masked r (accepts accept k) (x k)) (range_with_len 0 (key + 1))
  sum-more key sum next so_far added =
      added ∙ ap (λ a. r.add a (masked r (accepts accept key) (x key))) so_far ∙ sym (one_more key)

  pub sum-is_good : (key : ℕ) (sum next : E) → IsGood r sum
      → next ≡ r.add sum (masked r (accepts accept key) (x key)) → IsGood r next
  sum-is_good key sum next sum_good added =
      subst (IsGood r) (sym added)
      (add_is_good laws sum (masked r (accepts accept key) (x key)) sum_good
      (masked_is_good laws (accepts accept key) (x key) (good key)))

module _ {E M : Type 0} {r : SemiringOn E} (laws : IsSemiring r) {size unit : ℕ} {times : ℕ → ℕ → ℕ}
    (monoid : IsMonoid size unit times)
    (fits : M → Type 0) (value_at : M → ℕ → E)
    (shape : Shape) (rows labels : ℕ) (letters : List (Letter E)) (has : HasLetters r size shape rows labels letters)
    (accept : List Bool) where
  weight_is_sound : (c : List Mark) → r.is_sound (weight_of r labels letters c)
  weight_is_sound = (weighs laws monoid shape rows labels letters has).is_sound

  accepted_sum-masked : (lists : List (List Mark))
      → accepted_sum r (key_of unit times labels letters) (weight_of r labels letters) accept lists
      ≡ total r (λ c. masked r (accepts accept (key_of unit times labels letters c)) (weight_of r labels letters c))
      lists
  accepted_sum-masked lists =
      product_by-filter laws.addition.monoid (λ c. accepts accept (key_of unit times labels letters c))
      (weight_of r labels letters) lists
      (λ c c_in. weight_is_sound c)

  -- over all keys, what shows the sums of lists
  keys-total : (lists : List (List Mark)) (x : M)
      → Shows r (key_of unit times labels letters) (weight_of r labels letters) fits value_at lists x
      → total r (λ k. masked r (accepts accept k) (value_at x k)) (range_with_len 0 size)
      ≡ accepted_sum r (key_of unit times labels letters) (weight_of r labels letters) accept lists
  keys-total lists x xs =
      let shown = total_at_key r (key_of unit times labels letters) (weight_of r labels letters) lists in
      product_by-same r.zero r.add (λ k. masked r (accepts accept k) (value_at x k))
      (λ k. masked r (accepts accept k) (shown k))
      (range_with_len 0 size) (λ k k_in. ap (masked r (accepts accept k)) (xs.sums k))
      ∙ product_by-keyed laws.addition (λ k e. masked r (accepts accept k) e)
      (λ k. masked-IsAdditive laws (accepts accept k))
      size (key_of unit times labels letters) (weight_of r labels letters) lists
      (λ c c_in. weight_is_sound c) (λ c c_in. (weighs laws monoid shape rows labels letters has).in_range c)
      ∙ sym (accepted_sum-masked lists)

  -- with the empty candidate before the others
  empty-before : (lists : List (List Mark)) (sum whole : E)
      → sum ≡ accepted_sum r (key_of unit times labels letters) (weight_of r labels letters) accept lists
      → whole ≡ r.add (masked r (accepts accept unit) r.one) sum
      → whole ≡ accepted_sum r (key_of unit times labels letters) (weight_of r labels letters) accept ([] ∷ lists)
  empty-before lists sum whole is added =
      added ∙ ap (r.add (masked r (accepts accept unit) r.one)) (is ∙ accepted_sum-masked lists)
      ∙ sym (accepted_sum-masked ([] ∷ lists))

  -- from the map that holds a shape's candidates
  module _ (maps : List M)
      (stands : Stands r (key_of unit times labels letters) (weight_of r labels letters) fits value_at shape labels 0
      rows maps)
      (x : M) (is : x ≡ slice_index_or maps (ending shape).place x) (sum : E)
      (total_is : sum ≡ total r (λ k. masked r (accepts accept k) (value_at x k)) (range_with_len 0 size)) where
    sum-is : sum ≡ accepted_sum r (key_of unit times labels letters) (weight_of r labels letters) accept
        (lists_at shape labels 0 rows (ending shape).place)
    sum-is =
        let count = stands-count laws monoid fits value_at shape rows labels letters has maps 0 rows stands in
        let there = ending-within shape in
        let within : (ending shape).place < length maps = omega (arith, count, there) in
        total_is ∙ keys-total (lists_at shape labels 0 rows (ending shape).place) x
        (stands-places laws monoid fits value_at shape rows labels letters has maps 0 rows stands (ending shape).place x
        (record { within = within; is = is }))

    all-is : (adds : Bool) → (ending shape).adds_empty ≡ adds
        → accepted_sum r (key_of unit times labels letters) (weight_of r labels letters) accept
        (candidates shape rows labels)
        ≡ accepted_sum r (key_of unit times labels letters) (weight_of r labels letters) accept
        (with_empty adds (lists_at shape labels 0 rows (ending shape).place))
    all-is adds same =
        ap (accepted_sum r (key_of unit times labels letters) (weight_of r labels letters) accept)
        (shape-ends shape rows labels ∙ ap (λ b. with_empty b (lists_at shape labels 0 rows (ending shape).place)) same)

    pub finish-as_it_is : (ending shape).adds_empty ≡ false
        → sum ≡ accepted_sum r (key_of unit times labels letters) (weight_of r labels letters) accept
        (candidates shape rows labels)
    finish-as_it_is none = sum-is ∙ sym (all-is false none)

    pub finish-with_empty : (ending shape).adds_empty ≡ true → (whole : E)
        → whole ≡ r.add (masked r (accepts accept unit) r.one) sum
        → whole ≡ accepted_sum r (key_of unit times labels letters) (weight_of r labels letters) accept
        (candidates shape rows labels)
    finish-with_empty adds whole added =
        empty-before (lists_at shape labels 0 rows (ending shape).place) sum whole sum-is added ∙ sym (all-is true adds)
