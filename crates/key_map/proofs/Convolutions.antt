-- The convolution as two sums, and the convolution of sums by key: it is the sum over all pairs of items, by the
-- product
-- of their keys.
use Rattle.std.proofs.Common.{◌≡◌, ℕ, ◌<◌, List, nat_eq, sym, ap, ◌∙◌}
use Rattle.std.specs.List.{filter, range_with_len}
use Rattle.monoid_kit.specs.Items.{AllElements, pairs}
use Rattle.monoid_kit.proofs.Products.{product_by-same, product_by-filter, product_by-pairs}
use Rattle.monoid_kit.proofs.Keyed.{keyed-is_element, product_by-keyed, product_by-IsAdditive}
use Rattle.semiring_kit.specs.Semiring.{SemiringOn, IsSemiring}
use Rattle.semiring_kit.specs.Total.{total, masked, total_at_key}
use Rattle.semiring_kit.proofs.Sums.{masked-IsAdditive, masked_mul_left-IsAdditive, masked_mul_right-IsAdditive}
use Rattle.key_map.specs.Convolution.{convolution}

module _ {E : Type 0} (r : SemiringOn E) (size : ℕ) (times : ℕ → ℕ → ℕ) where
  -- what it is at m rests on the values alone
  pub convolution-same : (x u y v : ℕ → E) (m : ℕ) → ((k : ℕ) → x k ≡ u k) → ((k : ℕ) → y k ≡ v k)
      → convolution r size times x y m ≡ convolution r size times u v m
  unfolding convolution
  convolution-same x u y v m left right =
      let keys = range_with_len 0 size in
      product_by-same r.zero r.add (λ p. r.mul (x p.0) (y p.1)) (λ p. r.mul (u p.0) (v p.1))
      (filter (λ p. nat_eq (times p.0 p.1) m) (pairs keys keys))
      (λ p p_in. ap (λ a. r.mul a (y p.1)) (left p.0) ∙ ap (r.mul (u p.0)) (right p.1))

module _ {E : Type 0} {r : SemiringOn E} (laws : IsSemiring r) (size : ℕ) (times : ℕ → ℕ → ℕ) where
  -- with a mask in place of the choice of the pairs
  pub convolution-masked : (x y : ℕ → E) (m : ℕ) → ((k : ℕ) → r.is_sound (x k)) → ((k : ℕ) → r.is_sound (y k))
      → convolution r size times x y m
      ≡ total r (λ a. total r (λ b. masked r (nat_eq (times a b) m) (r.mul (x a) (y b))) (range_with_len 0 size))
      (range_with_len 0 size)
  unfolding convolution
  convolution-masked x y m x_sound y_sound =
      let keys = range_with_len 0 size in
      let product = λ (p : ℕ × ℕ). r.mul (x p.0) (y p.1) in
      let product_sound = λ (p : ℕ × ℕ). laws.multiplication.product_is_element (x p.0) (y p.1) (x_sound p.0)
      (y_sound p.1) in
      let test = λ (p : ℕ × ℕ). nat_eq (times p.0 p.1) m in
      product_by-filter laws.addition.monoid test product (pairs keys keys) (λ p p_in. product_sound p)
      ∙ product_by-pairs laws.addition.monoid (λ p. masked r (test p) (product p)) keys keys
      (λ a a_in b b_in. (masked-IsAdditive laws (test (a, b))).keeps_elements (product (a, b)) (product_sound (a, b)))

  pub convolution_of_totals : {X Y : Type 0} (key : X → ℕ) (f : X → E) (xs : List X) (label : Y → ℕ) (g : Y → E)
      (ys : List Y) (m : ℕ)
      → AllElements r.is_sound f xs → AllElements (λ k. k < size) key xs
      → AllElements r.is_sound g ys → AllElements (λ k. k < size) label ys
      → convolution r size times (total_at_key r key f xs) (total_at_key r label g ys) m
      ≡ total r (λ x. total r (λ y. masked r (nat_eq (times (key x) (label y)) m) (r.mul (f x) (g y))) ys) xs
  convolution_of_totals key f xs label g ys m f_sound keys g_sound labels =
      let left = total_at_key r key f xs in
      let right = total_at_key r label g ys in
      let left_sound = λ (k : ℕ). keyed-is_element laws.addition key f xs k f_sound in
      let right_sound = λ (k : ℕ). keyed-is_element laws.addition label g ys k g_sound in
      let numbers = range_with_len 0 size in
      convolution-masked left right m left_sound right_sound
      ∙ product_by-same r.zero r.add
      (λ a. total r (λ b. masked r (nat_eq (times a b) m) (r.mul (left a) (right b))) numbers)
      (λ a. total r (λ y. masked r (nat_eq (times a (label y)) m) (r.mul (left a) (g y))) ys)
      numbers
      (λ a a_in. product_by-keyed laws.addition
      (λ b e. masked r (nat_eq (times a b) m) (r.mul (left a) e))
      (λ b. masked_mul_left-IsAdditive laws (nat_eq (times a b) m) (left a) (left_sound a))
      size label g ys g_sound labels)
      ∙ product_by-keyed laws.addition
      (λ a e. total r (λ y. masked r (nat_eq (times a (label y)) m) (r.mul e (g y))) ys)
      (λ a. product_by-IsAdditive laws.addition (λ y e. masked r (nat_eq (times a (label y)) m) (r.mul e (g y))) ys
      (λ y y_in. masked_mul_right-IsAdditive laws (nat_eq (times a (label y)) m) (g y) (g_sound y y_in)))
      size key f xs f_sound keys

  -- the same, as a sum by key over all pairs of items
  pub convolution_of_totals-pairs : {X Y : Type 0} (key : X → ℕ) (f : X → E) (xs : List X) (label : Y → ℕ)
      (g : Y → E) (ys : List Y) (m : ℕ)
      → AllElements r.is_sound f xs → AllElements (λ k. k < size) key xs
      → AllElements r.is_sound g ys → AllElements (λ k. k < size) label ys
      → convolution r size times (total_at_key r key f xs) (total_at_key r label g ys) m
      ≡ total_at_key r (λ p. times (key p.0) (label p.1)) (λ p. r.mul (f p.0) (g p.1)) (pairs xs ys) m
  convolution_of_totals-pairs key f xs label g ys m f_sound keys g_sound labels =
      convolution_of_totals key f xs label g ys m f_sound keys g_sound labels
      ∙ sym (product_by-pairs laws.addition.monoid
      (λ p. masked r (nat_eq (times (key p.0) (label p.1)) m) (r.mul (f p.0) (g p.1))) xs ys
      (λ x x_in y y_in. (masked-IsAdditive laws (nat_eq (times (key x) (label y)) m)).keeps_elements (r.mul (f x) (g y))
      (laws.multiplication.product_is_element (f x) (g y) (f_sound x x_in) (g_sound y y_in))))
