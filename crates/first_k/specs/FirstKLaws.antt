-- The first k are a semiring, over any ranking and any product that keeps it.
use Rattle.std.proofs.Common.{◌≡◌, ℕ, zero, suc, ◌+◌, ◌≤◌, max, List, [], ◌∷◌, ◌++◌, map, take, refl, sym, ap}
use Rattle.std.proofs.Common.{◌∙◌, arith, append_assoc}
use Rattle.std.proofs.lemmas.List.{append-nil, map-append}
use Rattle.std.specs.declared.cmp.Ordering.{Ordering}
use Rattle.witness_order.specs.Rankings.{IsRanking, KeepsRanking}
use Rattle.witness_order.specs.Ranked.{placed, ranked, first_of, IsRankedWithin}
use Rattle.witness_order.proofs.Placed.{by_test, placed-after, placed-before, first_of-map}
use Rattle.witness_order.proofs.Firsts.{first_of-comm, first_of-right, first_of-left, first_of-both}
use Rattle.witness_order.proofs.Firsts.{first_of-same, first_of-first_of, first_of-append, first_of-swap}
use Rattle.witness_order.proofs.Firsts.{first_of-cross, first_of-IsRankedWithin}
use Rattle.semiring_kit.specs.Semiring.{IsSemiring}
use Rattle.first_k.specs.FirstK.{products, reach_of, first_k, AddsReach}
use Rattle.std.specs.Ordering.{is_gt}

-- products of lists

module _ {E : Type 0} (mul : E → E → E) where
  pub products-append : (xs ys zs : List E) → products mul (xs ++ ys) zs ≡ products mul xs zs ++ products mul ys zs
  products-append [] ys zs = refl
  products-append (x ∷ xs) ys zs =
      ap (λ l. map (mul x) zs ++ l) (products-append xs ys zs)
      ∙ sym (append_assoc (map (mul x) zs) (products mul xs zs) (products mul ys zs))

  pub products-nil : (xs : List E) → products mul xs [] ≡ []
  products-nil [] = refl
  products-nil (x ∷ xs) = products-nil xs

  module _ (unit : E) (right_identity : (x : E) → mul x unit ≡ x) where
    products-unit : (xs : List E) → products mul xs (unit ∷ []) ≡ xs
    products-unit [] = refl
    products-unit (x ∷ xs) =
        ap (λ y. y ∷ products mul xs (unit ∷ [])) (right_identity x) ∙ ap (λ l. x ∷ l) (products-unit xs)

  module _ (unit : E) (left_identity : (x : E) → mul unit x ≡ x) where
    map-unit : (ys : List E) → map (mul unit) ys ≡ ys
    map-unit [] = refl
    map-unit (y ∷ ys) = ap (λ z. z ∷ map (mul unit) ys) (left_identity y) ∙ ap (λ l. y ∷ l) (map-unit ys)

    unit-products : (ys : List E) → products mul (unit ∷ []) ys ≡ ys
    unit-products ys = append-nil (map (mul unit) ys) ∙ map-unit ys

  module _ (associative : (x y z : E) → mul (mul x y) z ≡ mul x (mul y z)) where
    map-mul : (x y : E) (zs : List E) → map (mul (mul x y)) zs ≡ map (mul x) (map (mul y) zs)
    map-mul x y [] = refl
    map-mul x y (z ∷ zs) =
        ap (λ w. w ∷ map (mul (mul x y)) zs) (associative x y z) ∙ ap (λ l. mul x (mul y z) ∷ l) (map-mul x y zs)

    products-map : (x : E) (ys zs : List E) → products mul (map (mul x) ys) zs ≡ map (mul x) (products mul ys zs)
    products-map x [] zs = refl
    products-map x (y ∷ ys) zs =
        ap (λ l. l ++ products mul (map (mul x) ys) zs) (map-mul x y zs)
        ∙ ap (λ l. map (mul x) (map (mul y) zs) ++ l) (products-map x ys zs)
        ∙ sym (map-append (mul x) (map (mul y) zs) (products mul ys zs))

    products-products : (xs ys zs : List E)
        → products mul (products mul xs ys) zs ≡ products mul xs (products mul ys zs)
    products-products [] ys zs = refl
    products-products (x ∷ xs) ys zs =
        products-append (map (mul x) ys) (products mul xs ys) zs
        ∙ ap (λ l. l ++ products mul (products mul xs ys) zs) (products-map x ys zs)
        ∙ ap (λ l. map (mul x) (products mul ys zs) ++ l) (products-products xs ys zs)

-- lists with the same first k have products with the same first k

module _ {E : Type 0} (cmp : E → E → Ordering) (order : IsRanking cmp) (unit : E) (mul : E → E → E)
    (kept : KeepsRanking cmp unit mul) where
  map-alike : (f : E → E) (keeps : (x y : E) → cmp (f x) (f y) ≡ cmp x y) (k : ℕ) (xs ys : List E)
      → first_of cmp k xs ≡ first_of cmp k ys → first_of cmp k (map f xs) ≡ first_of cmp k (map f ys)
  map-alike f keeps k xs ys same =
      first_of-map cmp cmp f keeps k xs ∙ ap (map f) same ∙ sym (first_of-map cmp cmp f keeps k ys)

  products-right : (k : ℕ) (xs ys zs : List E) → first_of cmp k ys ≡ first_of cmp k zs
      → first_of cmp k (products mul xs ys) ≡ first_of cmp k (products mul xs zs)
  products-right k [] ys zs same = refl
  products-right k (x ∷ xs) ys zs same =
      first_of-both cmp order k (map (mul x) ys) (map (mul x) zs) (products mul xs ys) (products mul xs zs)
      (map-alike (mul x) (kept.keeps_left x) k ys zs same) (products-right k xs ys zs same)

  -- the products with the first of the second list may be taken first
  products-column : (k : ℕ) (xs : List E) (y : E) (ys : List E)
      → first_of cmp k (products mul xs (y ∷ ys)) ≡ first_of cmp k (map (λ x. mul x y) xs ++ products mul xs ys)
  products-column k [] y ys = refl
  products-column k (x ∷ xs) y ys =
      first_of-right cmp order k (mul x y ∷ map (mul x) ys) (products mul xs (y ∷ ys))
      (map (λ z. mul z y) xs ++ products mul xs ys) (products-column k xs y ys)
      ∙ first_of-right cmp order k (mul x y ∷ [])
      (map (mul x) ys ++ (map (λ z. mul z y) xs ++ products mul xs ys))
      (map (λ z. mul z y) xs ++ (map (mul x) ys ++ products mul xs ys))
      (first_of-swap cmp order k (map (mul x) ys) (map (λ z. mul z y) xs) (products mul xs ys))

  products-left : (k : ℕ) (ys xs us : List E) → first_of cmp k xs ≡ first_of cmp k us
      → first_of cmp k (products mul xs ys) ≡ first_of cmp k (products mul us ys)
  products-left k [] xs us same =
      ap (first_of cmp k) (products-nil mul xs) ∙ sym (ap (first_of cmp k) (products-nil mul us))
  products-left k (y ∷ ys) xs us same =
      products-column k xs y ys
      ∙ first_of-both cmp order k (map (λ x. mul x y) xs) (map (λ x. mul x y) us)
      (products mul xs ys) (products mul us ys)
      (map-alike (λ x. mul x y) (λ x z. kept.keeps_right x z y) k xs us same) (products-left k ys xs us same)
      ∙ sym (products-column k us y ys)

  products-alike : (k : ℕ) (xs ys us vs : List E)
      → first_of cmp k xs ≡ first_of cmp k us → first_of cmp k ys ≡ first_of cmp k vs
      → first_of cmp k (products mul xs ys) ≡ first_of cmp k (products mul us vs)
  products-alike k xs ys us vs left right = products-right k xs ys vs right ∙ products-left k vs xs us left

  -- both factors may be cut to their first k
  pub first_of-products : (k : ℕ) (xs ys : List E)
      → first_of cmp k (products mul (first_of cmp k xs) (first_of cmp k ys)) ≡ first_of cmp k (products mul xs ys)
  first_of-products k xs ys =
      products-alike k (first_of cmp k xs) (first_of cmp k ys) xs ys
      (first_of-first_of cmp order k xs) (first_of-first_of cmp order k ys)

  -- or either of them

  cut_left : (k : ℕ) (xs ys : List E)
      → first_of cmp k (products mul (first_of cmp k xs) ys) ≡ first_of cmp k (products mul xs ys)
  cut_left k xs ys = products-left k ys (first_of cmp k xs) xs (first_of-first_of cmp order k xs)

  cut_right : (k : ℕ) (xs ys : List E)
      → first_of cmp k (products mul xs (first_of cmp k ys)) ≡ first_of cmp k (products mul xs ys)
  cut_right k xs ys = products-right k xs (first_of cmp k ys) ys (first_of-first_of cmp order k ys)

  products-split : (k : ℕ) (xs ys zs : List E)
      → first_of cmp k (products mul xs (ys ++ zs)) ≡ first_of cmp k (products mul xs ys ++ products mul xs zs)
  products-split k [] ys zs = refl
  products-split k (x ∷ xs) ys zs =
      ap (λ l. first_of cmp k (l ++ products mul xs (ys ++ zs))) (map-append (mul x) ys zs)
      ∙ first_of-right cmp order k (map (mul x) ys ++ map (mul x) zs) (products mul xs (ys ++ zs))
      (products mul xs ys ++ products mul xs zs) (products-split k xs ys zs)
      ∙ first_of-cross cmp order k (map (mul x) ys) (map (mul x) zs) (products mul xs ys) (products mul xs zs)

-- how far the items reach

module _ {E : Type 0} (cmp : E → E → Ordering) (reach : E → ℕ) where
  reach-placed : (x : E) (s : List E) → reach_of reach (placed cmp x s) ≡ max (reach x) (reach_of reach s)
  reach-placed x [] = refl
  reach-placed x (a ∷ s) =
      by_test (is_gt (cmp x a))
      (λ after.
      let is = ap (reach_of reach) (placed-after cmp x a s after) in
      let rest = reach-placed x s in
      omega (arith, is, rest))
      (λ not_after. ap (reach_of reach) (placed-before cmp x a s not_after))

  reach-ranked : (xs : List E) → reach_of reach (ranked cmp xs) ≡ reach_of reach xs
  reach-ranked [] = refl
  reach-ranked (x ∷ xs) = reach-placed x (ranked cmp xs) ∙ ap (max (reach x)) (reach-ranked xs)

  reach-take : (k : ℕ) (s : List E) → reach_of reach (take k s) ≤ reach_of reach s
  reach-take zero s = omega arith
  reach-take (suc k) [] = omega arith
  reach-take (suc k) (x ∷ s) = let rest = reach-take k s in omega (arith, rest)

  pub reach-first_of : (k : ℕ) (xs : List E) → reach_of reach (first_of cmp k xs) ≤ reach_of reach xs
  reach-first_of k xs =
      let cut = reach-take k (ranked cmp xs) in
      let same = reach-ranked xs in
      omega (arith, cut, same)

  reach-append : (xs ys : List E) → reach_of reach (xs ++ ys) ≡ max (reach_of reach xs) (reach_of reach ys)
  reach-append [] ys = omega arith
  reach-append (x ∷ xs) ys = let rest = reach-append xs ys in omega (arith, rest)

  module _ (unit : E) (mul : E → E → E) (adds : AddsReach reach unit mul) where
    reach-map : (x : E) (ys : List E) → reach_of reach (map (mul x) ys) ≤ reach x + reach_of reach ys
    reach-map x [] = omega arith
    reach-map x (y ∷ ys) =
        let here = adds.product_reach x y in
        let rest = reach-map x ys in
        omega (arith, here, rest)

    reach-products : (xs ys : List E)
        → reach_of reach (products mul xs ys) ≤ reach_of reach xs + reach_of reach ys
    reach-products [] ys = omega arith
    reach-products (x ∷ xs) ys =
        let both = reach-append (map (mul x) ys) (products mul xs ys) in
        let here = reach-map x ys in
        let rest = reach-products xs ys in
        omega (arith, both, here, rest)

-- the laws

pub first_of-nil : {E : Type 0} (cmp : E → E → Ordering) (k : ℕ) → first_of cmp k [] ≡ []
first_of-nil cmp zero = refl
first_of-nil cmp (suc k) = refl

module _ {E : Type 0} (cmp : E → E → Ordering) (order : IsRanking cmp) (unit : E) (mul : E → E → E)
    (kept : KeepsRanking cmp unit mul) (reach : E → ℕ) (adds : AddsReach reach unit mul) (k : ℕ) where
  pub first_k-IsSemiring : IsSemiring (first_k cmp k unit mul reach)
  first_k-IsSemiring = record {
    addition = record {
      monoid = record {
        unit_is_element = record { ordered = tt; few = omega arith };
        product_is_element = λ a b a_in b_in. first_of-IsRankedWithin cmp order k (a ++ b);
        left_identity = λ a a_in. first_of-same cmp order k a a_in;
        right_identity = λ a a_in. ap (first_of cmp k) (append-nil a) ∙ first_of-same cmp order k a a_in;
        associative = λ a b c a_in b_in c_in.
            first_of-left cmp order k (first_of cmp k (a ++ b)) (a ++ b) c (first_of-first_of cmp order k (a ++ b))
            ∙ ap (first_of cmp k) (append_assoc a b c)
            ∙ sym (first_of-right cmp order k a (first_of cmp k (b ++ c)) (b ++ c)
            (first_of-first_of cmp order k (b ++ c)));
      };
      commutative = λ a b a_in b_in. first_of-comm cmp order k a b;
    };
    multiplication = record {
      unit_is_element = first_of-IsRankedWithin cmp order k (unit ∷ []);
      product_is_element = λ a b a_in b_in. first_of-IsRankedWithin cmp order k (products mul a b);
      left_identity = λ a a_in.
          cut_left cmp order unit mul kept k (unit ∷ []) a
          ∙ ap (first_of cmp k) (unit-products mul unit kept.left_identity a) ∙ first_of-same cmp order k a a_in;
      right_identity = λ a a_in.
          cut_right cmp order unit mul kept k a (unit ∷ [])
          ∙ ap (first_of cmp k) (products-unit mul unit kept.right_identity a) ∙ first_of-same cmp order k a a_in;
      associative = λ a b c a_in b_in c_in.
          cut_left cmp order unit mul kept k (products mul a b) c
          ∙ ap (first_of cmp k) (products-products mul kept.associative a b c)
          ∙ sym (cut_right cmp order unit mul kept k a (products mul b c));
    };
    distributes_left = λ a b c a_in b_in c_in.
        cut_right cmp order unit mul kept k a (b ++ c)
        ∙ products-split cmp order unit mul kept k a b c
        ∙ sym (first_of-append cmp order k (products mul a b) (products mul a c));
    distributes_right = λ a b c a_in b_in c_in.
        cut_left cmp order unit mul kept k (a ++ b) c
        ∙ ap (first_of cmp k) (products-append mul a b c)
        ∙ sym (first_of-append cmp order k (products mul a c) (products mul b c));
    absorbs_left = λ a a_in. first_of-nil cmp k;
    absorbs_right = λ a a_in. ap (first_of cmp k) (products-nil mul a) ∙ first_of-nil cmp k;
    zero_reach = refl;
    one_reach =
        let within = reach-first_of cmp reach k (unit ∷ []) in
        let none = adds.unit_reach in
        omega (arith, within, none);
    add_reach = λ a b a_in b_in.
        let within = reach-first_of cmp reach k (a ++ b) in
        let both = reach-append cmp reach a b in
        omega (arith, within, both);
    mul_reach = λ a b a_in b_in.
        let within = reach-first_of cmp reach k (products mul a b) in
        let both = reach-products cmp reach unit mul adds a b in
        omega (arith, within, both);
  }

-- the first k of one item

module _ {E : Type 0} (cmp : E → E → Ordering) where
  pub one_of-is_sound : IsRanking cmp → (k : ℕ) (x : E) → IsRankedWithin cmp k (first_of cmp k (x ∷ []))
  one_of-is_sound order k x = first_of-IsRankedWithin cmp order k (x ∷ [])

  pub one_of-reach : (reach : E → ℕ) (k : ℕ) (x : E) (bound : ℕ) → reach x ≤ bound
      → reach_of reach (first_of cmp k (x ∷ [])) ≤ bound
  one_of-reach reach k x bound within =
      let cut = reach-first_of cmp reach k (x ∷ []) in
      omega (arith, cut, within)
