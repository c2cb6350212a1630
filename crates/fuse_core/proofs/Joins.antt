-- The sums that the parts of an interval show, from those of its halves. They need a semiring, and a key and a weight
-- that take concatenations to products.
use Rattle.std.proofs.Common.{◌≡◌, refl, sym, ap, ◌∙◌, ℕ, List, [], ◌∷◌, ◌++◌, map, nat_eq}
use Rattle.std.proofs.lemmas.List.{map-append}
use Rattle.std.specs.List.{flat_map}
use Rattle.std.specs.List.Sorted.{IsPermutation}
use Rattle.monoid_kit.specs.Items.{pairs}
use Rattle.monoid_kit.proofs.Products.{product_by-same, product_by-map, product_by-append}
use Rattle.monoid_kit.proofs.Permutations.{product_by-permuted}
use Rattle.semiring_kit.specs.Semiring.{SemiringOn, IsSemiring}
use Rattle.semiring_kit.specs.Total.{masked, total_at_key}
use Rattle.semiring_kit.proofs.Sums.{masked-IsAdditive}
use Rattle.key_map.specs.Convolution.{convolution}
use Rattle.key_map.proofs.Convolutions.{convolution-same, convolution_of_totals-pairs}
use Rattle.shape_gen.specs.declared.mark.Mark.{Mark}
use Rattle.shape_gen.proofs.Lists.{concats, map-map, flat_map-same}
use Rattle.fuse_core.specs.Stands.{ShowsSums}
use Rattle.fuse_core.proofs.Weighs.{Weighs}

map-flat_map : {A B C : Type 0} (f : B → C) (g : A → List B) (xs : List A)
    → map f (flat_map g xs) ≡ flat_map (λ x. map f (g x)) xs
map-flat_map f g [] = refl
map-flat_map f g (x ∷ xs) = map-append f (g x) (flat_map g xs) ∙ ap (λ l. map f (g x) ++ l) (map-flat_map f g xs)

-- all concatenations are the pairs, each joined
concats-pairs : {X : Type 0} (cs ds : List (List X)) → map (λ p. p.0 ++ p.1) (pairs cs ds) ≡ concats cs ds
concats-pairs {X} cs ds =
    let joined : List X × List X → List X = λ p. p.0 ++ p.1 in
    map-flat_map joined (λ c. map (λ d. (c, d)) ds) cs
    ∙ flat_map-same (λ c. map joined (map (λ d. (c, d)) ds)) (λ c. map (λ d. c ++ d) ds) cs
    (λ c. map-map joined (λ d. (c, d)) ds)

module _ {E : Type 0} {r : SemiringOn E} (laws : IsSemiring r) {size : ℕ} {times : ℕ → ℕ → ℕ} {key : List Mark → ℕ}
    {weight : List Mark → E}
    (weighs : Weighs r size times key weight) where
  masked_sound : (m : ℕ) (c : List Mark) → r.is_sound (masked r (nat_eq (key c) m) (weight c))
  masked_sound m c = (masked-IsAdditive laws (nat_eq (key c) m)).keeps_elements (weight c) (weighs.is_sound c)

  -- the convolution of what two lists show is what all their concatenations show
  pub product_shows : (cs ds : List (List Mark)) (x y : ℕ → E) → ShowsSums r key weight cs x
      → ShowsSums r key weight ds y
      → ShowsSums r key weight (concats cs ds) (convolution r size times x y)
  product_shows cs ds x y left right m =
      convolution-same r size times x (total_at_key r key weight cs) y (total_at_key r key weight ds) m left right
      ∙ convolution_of_totals-pairs laws size times key weight cs key weight ds m
      (λ c c_in. weighs.is_sound c) (λ c c_in. weighs.in_range c) (λ d d_in. weighs.is_sound d)
      (λ d d_in. weighs.in_range d)
      ∙ product_by-same r.zero r.add
      (λ p. masked r (nat_eq (times (key p.0) (key p.1)) m) (r.mul (weight p.0) (weight p.1)))
      (λ p. masked r (nat_eq (key (p.0 ++ p.1)) m) (weight (p.0 ++ p.1))) (pairs cs ds)
      (λ p p_in. ap (λ k. masked r (nat_eq k m) (r.mul (weight p.0) (weight p.1))) (sym (weighs.key_append p.0 p.1))
      ∙ ap (masked r (nat_eq (key (p.0 ++ p.1)) m)) (sym (weighs.weight_append p.0 p.1)))
      ∙ sym (product_by-map r.zero r.add (λ c. masked r (nat_eq (key c) m) (weight c)) (λ p. p.0 ++ p.1) (pairs cs ds))
      ∙ ap (λ l. total_at_key r key weight l m) (concats-pairs cs ds)

  -- the sums of what two lists show are what both together show
  pub sum_shows : (cs ds : List (List Mark)) (x y : ℕ → E) → ShowsSums r key weight cs x → ShowsSums r key weight ds y
      → ShowsSums r key weight (cs ++ ds) (λ m. r.add (x m) (y m))
  sum_shows cs ds x y left right m =
      ap (λ a. r.add a (y m)) (left m) ∙ ap (r.add (total_at_key r key weight cs m)) (right m)
      ∙ sym (product_by-append laws.addition.monoid (λ c. masked r (nat_eq (key c) m) (weight c)) cs ds
      (λ c c_in. masked_sound m c) (λ d d_in. masked_sound m d))

  -- the order of a list doesn't show
  pub permuted_shows : (cs ds : List (List Mark)) (x : ℕ → E) → IsPermutation cs ds → ShowsSums r key weight ds x
      → ShowsSums r key weight cs x
  permuted_shows cs ds x permuted shows m =
      shows m ∙ product_by-permuted laws.addition (λ c. masked r (nat_eq (key c) m) (weight c)) (masked_sound m) cs
      ds permuted
