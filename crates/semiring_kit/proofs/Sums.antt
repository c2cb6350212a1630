-- Lemmas on sums in a semiring: how products, masks and good elements go with them.
-- What needs the addition alone is in Products and Keyed of monoid_kit, at the semiring's zero and sum.
use Rattle.std.proofs.Common.{◌≡◌, ℕ, ◌+◌, ◌≤◌, max, Bool, true, false, List, [], ◌∷◌, inl, inr, refl, ap, ◌∙◌, arith}
use Rattle.monoid_kit.specs.Items.{IsIn, AllElements}
use Rattle.monoid_kit.specs.Keyed.{IsAdditive}
use Rattle.monoid_kit.proofs.Products.{product_by-is_element, only-is_element, only-mul}
use Rattle.semiring_kit.specs.Semiring.{SemiringOn, IsSemiring, IsGood, weight_bound}
use Rattle.semiring_kit.specs.Total.{total, masked}

module _ {E : Type 0} {r : SemiringOn E} (laws : IsSemiring r) where
  pub total-is_sound : {X : Type 0} (f : X → E) (xs : List X)
      → AllElements r.is_sound f xs → r.is_sound (total r f xs)
  total-is_sound f xs sound = product_by-is_element laws.addition.monoid f xs sound

  pub mul-total : {X : Type 0} (a : E) (f : X → E) (xs : List X)
      → r.is_sound a → AllElements r.is_sound f xs
      → r.mul a (total r f xs) ≡ total r (λ x. r.mul a (f x)) xs
  mul-total a f [] a_sound sound = laws.absorbs_right a a_sound
  mul-total a f (x ∷ xs) a_sound sound =
      laws.distributes_left a (f x) (total r f xs) a_sound (sound x (inl refl))
      (total-is_sound f xs (λ y y_in. sound y (inr y_in)))
      ∙ ap (r.add (r.mul a (f x))) (mul-total a f xs a_sound (λ y y_in. sound y (inr y_in)))

  pub total-mul : {X : Type 0} (f : X → E) (xs : List X) (a : E)
      → AllElements r.is_sound f xs → r.is_sound a
      → r.mul (total r f xs) a ≡ total r (λ x. r.mul (f x) a) xs
  total-mul f [] a sound a_sound = laws.absorbs_left a a_sound
  total-mul f (x ∷ xs) a sound a_sound =
      laws.distributes_right (f x) (total r f xs) a (sound x (inl refl))
      (total-is_sound f xs (λ y y_in. sound y (inr y_in))) a_sound
      ∙ ap (r.add (r.mul (f x) a)) (total-mul f xs a (λ y y_in. sound y (inr y_in)) a_sound)

  pub mul-masked : (test : Bool) (a b : E) → r.is_sound a
      → r.mul a (masked r test b) ≡ masked r test (r.mul a b)
  mul-masked true a b a_sound = refl
  mul-masked false a b a_sound = laws.absorbs_right a a_sound

  pub masked-mul : (test : Bool) (a b : E) → r.is_sound b
      → r.mul (masked r test a) b ≡ masked r test (r.mul a b)
  masked-mul true a b b_sound = refl
  masked-mul false a b b_sound = laws.absorbs_left b b_sound

  -- what is linear keeps sums: a mask, and a product with one factor fixed

  pub masked-IsAdditive : (test : Bool) → IsAdditive r.is_sound r.zero r.add (masked r test)
  masked-IsAdditive test = record {
    keeps_elements = only-is_element laws.addition.monoid test;
    keeps_unit = masked-zero test;
    keeps_products = λ a b a_sound b_sound. only-mul laws.addition.monoid test a b;
  }
    where
      masked-zero : (t : Bool) → masked r t r.zero ≡ r.zero
      masked-zero true = refl
      masked-zero false = refl

  pub masked_mul_left-IsAdditive : (test : Bool) (a : E) → r.is_sound a
      → IsAdditive r.is_sound r.zero r.add (λ b. masked r test (r.mul a b))
  masked_mul_left-IsAdditive test a a_sound =
      let mask = masked-IsAdditive test in
      record {
        keeps_elements = λ b b_sound. mask.keeps_elements (r.mul a b)
            (laws.multiplication.product_is_element a b a_sound b_sound);
        keeps_unit = ap (masked r test) (laws.absorbs_right a a_sound) ∙ mask.keeps_unit;
        keeps_products = λ b c b_sound c_sound.
            ap (masked r test) (laws.distributes_left a b c a_sound b_sound c_sound)
            ∙ mask.keeps_products (r.mul a b) (r.mul a c)
            (laws.multiplication.product_is_element a b a_sound b_sound)
            (laws.multiplication.product_is_element a c a_sound c_sound);
      }

  pub masked_mul_right-IsAdditive : (test : Bool) (b : E) → r.is_sound b
      → IsAdditive r.is_sound r.zero r.add (λ a. masked r test (r.mul a b))
  masked_mul_right-IsAdditive test b b_sound =
      let mask = masked-IsAdditive test in
      record {
        keeps_elements = λ a a_sound. mask.keeps_elements (r.mul a b)
            (laws.multiplication.product_is_element a b a_sound b_sound);
        keeps_unit = ap (masked r test) (laws.absorbs_left b b_sound) ∙ mask.keeps_unit;
        keeps_products = λ a c a_sound c_sound.
            ap (masked r test) (laws.distributes_right a c b a_sound c_sound b_sound)
            ∙ mask.keeps_products (r.mul a b) (r.mul c b)
            (laws.multiplication.product_is_element a b a_sound b_sound)
            (laws.multiplication.product_is_element c b c_sound b_sound);
      }

  -- good elements

  pub zero_is_good : IsGood r r.zero
  zero_is_good = record {
    sound = laws.addition.monoid.unit_is_element;
    within = let reach : r.reach r.zero ≡ 0 = laws.zero_reach in omega arith;
  }

  pub one_is_good : IsGood r r.one
  one_is_good = record {
    sound = laws.multiplication.unit_is_element;
    within = let reach : r.reach r.one ≡ 0 = laws.one_reach in omega arith;
  }

  pub add_is_good : (a b : E) → IsGood r a → IsGood r b → IsGood r (r.add a b)
  add_is_good a b a_good b_good = record {
    sound = laws.addition.monoid.product_is_element a b a_good.sound b_good.sound;
    within =
        let reach : r.reach (r.add a b) ≤ max (r.reach a) (r.reach b) = laws.add_reach a b a_good.sound b_good.sound in
        let a_within : r.reach a ≤ weight_bound = a_good.within in
        let b_within : r.reach b ≤ weight_bound = b_good.within in
        omega arith;
  }

  pub mul_is_good : (a b : E) → IsGood r a → IsGood r b → r.reach a + r.reach b ≤ weight_bound → IsGood r (r.mul a b)
  mul_is_good a b a_good b_good add_up = record {
    sound = laws.multiplication.product_is_element a b a_good.sound b_good.sound;
    within =
        let reach : r.reach (r.mul a b) ≤ r.reach a + r.reach b = laws.mul_reach a b a_good.sound b_good.sound in
        omega arith;
  }

  pub masked_is_good : (test : Bool) (a : E) → IsGood r a → IsGood r (masked r test a)
  masked_is_good true a a_good = a_good
  masked_is_good false a a_good = zero_is_good

  pub total_is_good : {X : Type 0} (f : X → E) (xs : List X) → AllElements (IsGood r) f xs → IsGood r (total r f xs)
  total_is_good f [] good = zero_is_good
  total_is_good f (x ∷ xs) good =
      add_is_good (f x) (total r f xs) (good x (inl refl)) (total_is_good f xs (λ y y_in. good y (inr y_in)))

  pub good_are_sound : {X : Type 0} (f : X → E) (xs : List X) → AllElements (IsGood r) f xs
      → AllElements r.is_sound f xs
  good_are_sound f xs good = λ x x_in. (good x x_in).sound

  -- a sum reaches no further than its parts
  pub total-reach : {X : Type 0} (f : X → E) (xs : List X) (bound : ℕ) → AllElements r.is_sound f xs
      → ((x : X) → IsIn x xs → r.reach (f x) ≤ bound) → r.reach (total r f xs) ≤ bound
  total-reach f [] bound sound within = let reach : r.reach r.zero ≡ 0 = laws.zero_reach in omega arith
  total-reach f (x ∷ xs) bound sound within =
      let reach : r.reach (r.add (f x) (total r f xs)) ≤ max (r.reach (f x)) (r.reach (total r f xs)) =
      laws.add_reach (f x) (total r f xs) (sound x (inl refl)) (total-is_sound f xs (λ y y_in. sound y (inr y_in))) in
      let here : r.reach (f x) ≤ bound = within x (inl refl) in
      let later : r.reach (total r f xs) ≤ bound =
      total-reach f xs bound (λ y y_in. sound y (inr y_in)) (λ y y_in. within y (inr y_in)) in
      omega arith
