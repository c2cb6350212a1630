-- Products of lists, grouped by what the lemmas need of the operation: nothing, a monoid, a commutative monoid.
-- Where the operation is a sum, they are lemmas on sums.
use Rattle.std.proofs.Common.{◌≡◌, Bool, true, false, List, [], ◌∷◌, ◌++◌, map, cond, inl, inr, refl, sym, ap, ◌∙◌}
use Rattle.std.specs.List.{filter, flat_map, fold}
use Rattle.monoid_kit.specs.Monoid.{IsMonoidOn, IsCommutativeMonoidOn}
use Rattle.monoid_kit.specs.Items.{IsIn, AllElements, pairs}
use Rattle.monoid_kit.specs.Product.{product_by, product_from_left, only}
use Rattle.monoid_kit.proofs.Items.{AllElements-flat_map, AllElements-filter, AllElements-map}

-- of any operation

module _ {E : Type 0} (unit : E) (mul : E → E → E) where
  pub product_by-same : {X : Type 0} (f g : X → E) (xs : List X)
      → ((x : X) → IsIn x xs → f x ≡ g x)
      → product_by unit mul f xs ≡ product_by unit mul g xs
  product_by-same f g [] same = refl
  product_by-same f g (x ∷ xs) same =
      ap (λ a. mul a (product_by unit mul f xs)) (same x (inl refl))
      ∙ ap (mul (g x)) (product_by-same f g xs (λ y y_in. same y (inr y_in)))

  pub product_by-map : {X Y : Type 0} (f : Y → E) (g : X → Y) (xs : List X)
      → product_by unit mul f (map g xs) ≡ product_by unit mul (λ x. f (g x)) xs
  product_by-map f g [] = refl
  product_by-map f g (x ∷ xs) = ap (mul (f (g x))) (product_by-map f g xs)

-- of a monoid

module _ {E : Type 0} {is_element : E → Type 0} {unit : E} {mul : E → E → E}
    (monoid : IsMonoidOn is_element unit mul) where
  pub product_by-is_element : {X : Type 0} (f : X → E) (xs : List X)
      → AllElements is_element f xs → is_element (product_by unit mul f xs)
  product_by-is_element f [] elements = monoid.unit_is_element
  product_by-is_element f (x ∷ xs) elements =
      monoid.product_is_element (f x) (product_by unit mul f xs) (elements x (inl refl))
      (product_by-is_element f xs (λ y y_in. elements y (inr y_in)))

  product_from_left-onto : {X : Type 0} (f : X → E) (xs : List X) (front : E)
      → is_element front → AllElements is_element f xs
      → fold (λ product x. mul product (f x)) front xs ≡ mul front (product_by unit mul f xs)
  product_from_left-onto f [] front front_in elements = sym (monoid.right_identity front front_in)
  product_from_left-onto f (x ∷ xs) front front_in elements =
      product_from_left-onto f xs (mul front (f x))
      (monoid.product_is_element front (f x) front_in (elements x (inl refl)))
      (λ y y_in. elements y (inr y_in))
      ∙ monoid.associative front (f x) (product_by unit mul f xs) front_in (elements x (inl refl))
      (product_by-is_element f xs (λ y y_in. elements y (inr y_in)))

  -- in a monoid, products from left to right are the products of lists
  pub product_from_left-product_by : {X : Type 0} (f : X → E) (xs : List X) → AllElements is_element f xs
      → product_from_left unit mul f xs ≡ product_by unit mul f xs
  product_from_left-product_by f xs elements =
      product_from_left-onto f xs unit monoid.unit_is_element elements
      ∙ monoid.left_identity (product_by unit mul f xs) (product_by-is_element f xs elements)

  pub product_by-unit : {X : Type 0} (f : X → E) (xs : List X)
      → ((x : X) → IsIn x xs → f x ≡ unit) → product_by unit mul f xs ≡ unit
  product_by-unit f [] units = refl
  product_by-unit f (x ∷ xs) units =
      ap (λ a. mul a (product_by unit mul f xs)) (units x (inl refl))
      ∙ ap (mul unit) (product_by-unit f xs (λ y y_in. units y (inr y_in)))
      ∙ monoid.left_identity unit monoid.unit_is_element

  pub product_by-append : {X : Type 0} (f : X → E) (xs ys : List X)
      → AllElements is_element f xs → AllElements is_element f ys
      → product_by unit mul f (xs ++ ys) ≡ mul (product_by unit mul f xs) (product_by unit mul f ys)
  product_by-append f [] ys xs_elements ys_elements =
      sym (monoid.left_identity (product_by unit mul f ys) (product_by-is_element f ys ys_elements))
  product_by-append f (x ∷ xs) ys xs_elements ys_elements =
      ap (mul (f x)) (product_by-append f xs ys (λ y y_in. xs_elements y (inr y_in)) ys_elements)
      ∙ sym (monoid.associative (f x) (product_by unit mul f xs) (product_by unit mul f ys)
      (xs_elements x (inl refl))
      (product_by-is_element f xs (λ y y_in. xs_elements y (inr y_in)))
      (product_by-is_element f ys ys_elements))

  pub product_by-flat_map : {X Y : Type 0} (f : Y → E) (g : X → List Y) (xs : List X)
      → ((x : X) → IsIn x xs → AllElements is_element f (g x))
      → product_by unit mul f (flat_map g xs) ≡ product_by unit mul (λ x. product_by unit mul f (g x)) xs
  product_by-flat_map f g [] elements = refl
  product_by-flat_map f g (x ∷ xs) elements =
      product_by-append f (g x) (flat_map g xs) (elements x (inl refl))
      (AllElements-flat_map is_element f g xs (λ y y_in. elements y (inr y_in)))
      ∙ ap (mul (product_by unit mul f (g x))) (product_by-flat_map f g xs (λ y y_in. elements y (inr y_in)))

  pub product_by-pairs : {X Y : Type 0} (f : X × Y → E) (xs : List X) (ys : List Y)
      → ((x : X) → IsIn x xs → (y : Y) → IsIn y ys → is_element (f (x, y)))
      → product_by unit mul f (pairs xs ys) ≡ product_by unit mul (λ x. product_by unit mul (λ y. f (x, y)) ys) xs
  product_by-pairs {X = X} f xs ys elements =
      product_by-flat_map f (λ x. map (λ y. (x, y)) ys) xs
      (λ x x_in. AllElements-map is_element f (λ y. (x, y)) ys (elements x x_in))
      ∙ product_by-same unit mul (λ x. product_by unit mul f (map (λ y. (x, y)) ys))
      (λ x. product_by unit mul (λ y. f (x, y)) ys) xs
      (λ x x_in. product_by-map unit mul f (λ y. (x, y)) ys)

  pub only-is_element : (test : Bool) (a : E) → is_element a → is_element (only unit test a)
  only-is_element true a element = element
  only-is_element false a element = monoid.unit_is_element

  pub only-mul : (test : Bool) (a b : E)
      → only unit test (mul a b) ≡ mul (only unit test a) (only unit test b)
  only-mul true a b = refl
  only-mul false a b = sym (monoid.left_identity unit monoid.unit_is_element)

  pub only-product_by : {X : Type 0} (test : Bool) (f : X → E) (xs : List X)
      → only unit test (product_by unit mul f xs) ≡ product_by unit mul (λ x. only unit test (f x)) xs
  only-product_by true f xs = refl
  only-product_by false f xs = sym (product_by-unit (λ x. unit) xs (λ x x_in. refl))

  product_by-cons_where : {X : Type 0} (test : Bool) (f : X → E) (x : X) (xs : List X) → AllElements is_element f xs
      → product_by unit mul f (cond test (x ∷ xs) xs) ≡ mul (only unit test (f x)) (product_by unit mul f xs)
  product_by-cons_where true f x xs elements = refl
  product_by-cons_where false f x xs elements =
      sym (monoid.left_identity (product_by unit mul f xs) (product_by-is_element f xs elements))

  pub product_by-filter : {X : Type 0} (test : X → Bool) (f : X → E) (xs : List X) → AllElements is_element f xs
      → product_by unit mul f (filter test xs) ≡ product_by unit mul (λ x. only unit (test x) (f x)) xs
  product_by-filter test f [] elements = refl
  product_by-filter test f (x ∷ xs) elements =
      product_by-cons_where (test x) f x (filter test xs)
      (AllElements-filter is_element f test xs (λ y y_in. elements y (inr y_in)))
      ∙ ap (mul (only unit (test x) (f x))) (product_by-filter test f xs (λ y y_in. elements y (inr y_in)))

-- of a commutative monoid

module _ {E : Type 0} {is_element : E → Type 0} {unit : E} {mul : E → E → E}
    (abelian : IsCommutativeMonoidOn is_element unit mul) where
  pub mul_middle : (a b c d : E) → is_element a → is_element b → is_element c → is_element d
      → mul (mul a b) (mul c d) ≡ mul (mul a c) (mul b d)
  mul_middle a b c d a_in b_in c_in d_in =
      let monoid = abelian.monoid in
      monoid.associative a b (mul c d) a_in b_in (monoid.product_is_element c d c_in d_in)
      ∙ ap (mul a) (sym (monoid.associative b c d b_in c_in d_in)
      ∙ ap (λ e. mul e d) (abelian.commutative b c b_in c_in)
      ∙ monoid.associative c b d c_in b_in d_in)
      ∙ sym (monoid.associative a c (mul b d) a_in c_in (monoid.product_is_element b d b_in d_in))

  pub product_by-mul : {X : Type 0} (f g : X → E) (xs : List X)
      → AllElements is_element f xs → AllElements is_element g xs
      → product_by unit mul (λ x. mul (f x) (g x)) xs ≡ mul (product_by unit mul f xs) (product_by unit mul g xs)
  product_by-mul f g [] f_elements g_elements = sym (abelian.monoid.left_identity unit abelian.monoid.unit_is_element)
  product_by-mul f g (x ∷ xs) f_elements g_elements =
      ap (mul (mul (f x) (g x)))
      (product_by-mul f g xs (λ y y_in. f_elements y (inr y_in)) (λ y y_in. g_elements y (inr y_in)))
      ∙ mul_middle (f x) (g x) (product_by unit mul f xs) (product_by unit mul g xs)
      (f_elements x (inl refl)) (g_elements x (inl refl))
      (product_by-is_element abelian.monoid f xs (λ y y_in. f_elements y (inr y_in)))
      (product_by-is_element abelian.monoid g xs (λ y y_in. g_elements y (inr y_in)))

  pub product_by-swap : {X Y : Type 0} (f : X → Y → E) (xs : List X) (ys : List Y)
      → ((x : X) → IsIn x xs → AllElements is_element (f x) ys)
      → product_by unit mul (λ x. product_by unit mul (f x) ys) xs
      ≡ product_by unit mul (λ y. product_by unit mul (λ x. f x y) xs) ys
  product_by-swap f [] ys elements = sym (product_by-unit abelian.monoid (λ y. unit) ys (λ y y_in. refl))
  product_by-swap f (x ∷ xs) ys elements =
      ap (mul (product_by unit mul (f x) ys)) (product_by-swap f xs ys (λ z z_in. elements z (inr z_in)))
      ∙ sym (product_by-mul (f x) (λ y. product_by unit mul (λ z. f z y) xs) ys (elements x (inl refl))
      (λ y y_in. product_by-is_element abelian.monoid (λ z. f z y) xs (λ z z_in. elements z (inr z_in) y y_in)))
