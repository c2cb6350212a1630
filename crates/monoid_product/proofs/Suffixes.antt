-- Lemmas on the components from a place on.
use Rattle.std.proofs.Common.{◌≡◌, ℕ, zero, suc, ◌+◌, ◌*◌, ◌/◌, ◌%◌, ◌<◌, ◌≤◌, ◌^◌, List, [], ◌∷◌, length, get_or}
use Rattle.std.proofs.Common.{drop, refl, sym, ap, ◌∙◌, add-one, drop-cons, arith}
use Rattle.std.proofs.Math.Nat.{pow-succ', mod-eq_of_lt, mul_comm, add_comm, div-div-eq-div-mul}
use Rattle.std.proofs.lemmas.Nat.{mul-le, mul-add-lt, mod_below}
use Rattle.monoid_product.specs.declared.component.Component.{Component}
use Rattle.monoid_product.specs.Component.{component_size, component_unit, component_mul}
use Rattle.monoid_product.specs.ComponentOf.{plain_component, plain_components}
use Rattle.monoid_product.specs.ComponentLaws.{component-IsMonoid, component_size-within}
use Rattle.monoid_product.specs.Product.{key_count, key_of, digits, AreDigits, product_unit, product_mul}
use Rattle.monoid_product.specs.ProductLaws.{parts-IsMonoid}
use Rattle.monoid_product.proofs.Numbers.{horner, at_most_times, times-regroup, mod-div, mod-mod, div-both, times-div}

abbrev pub size_of : Component → ℕ
size_of c = component_size (plain_component c)

abbrev pub keys_of : List Component → ℕ
keys_of parts = key_count (plain_components parts)

pub size_of-some : (c : Component) → 0 < size_of c
size_of-some c = (let below = (component-IsMonoid c).unit_is_element in omega arith)

pub keys_of-some : (parts : List Component) → 0 < keys_of parts
keys_of-some parts = (let below = (parts-IsMonoid parts).unit_is_element in omega arith)

pub keys_of-drop : (parts : List Component) (k : ℕ) → keys_of (drop k parts) ≤ keys_of parts
keys_of-drop parts zero = omega arith
keys_of-drop [] (suc k) = omega arith
keys_of-drop (c ∷ cs) (suc k) =
    (let inner = keys_of-drop cs k in
    let outer = mul-le 1 (keys_of cs) (size_of c) (keys_of cs) (size_of-some c) (omega arith) in
    omega arith)

-- so many components have at most so many keys
pub keys_of-within : (n : ℕ) (parts : List Component) → length parts ≤ n → keys_of parts ≤ 8192 ^ n
keys_of-within zero [] few = omega arith
keys_of-within zero (c ∷ cs) few = absurd (omega arith)
keys_of-within (suc n) [] few =
    rw (pow-succ' 8192 n)
    (mul-le 1 1 8192 (8192 ^ n) (omega arith) (keys_of-within n [] (omega arith)))
keys_of-within (suc n) (c ∷ cs) few =
    rw (pow-succ' 8192 n)
    (mul-le (size_of c) (keys_of cs) 8192 (8192 ^ n) (component_size-within c) (keys_of-within n cs (omega arith)))

-- the component at a place, and those after it
pub drop-item : (parts : List Component) (k : ℕ) (c : Component) → k < length parts → c ≡ get_or parts k c
    → drop k parts ≡ c ∷ drop (k + 1) parts
drop-item parts k c in_range is =
    drop-cons parts k c in_range
    ∙ ap (λ x. x ∷ drop (suc k) parts) (sym is)
    ∙ ap (λ j. c ∷ drop j parts) (sym (add-one k))

module _ (parts : List Component) (k : ℕ) (c : Component) (in_range : k < length parts) (is : c ≡ get_or parts k c)
  where
    pub keys_of-item : keys_of (drop k parts) ≡ size_of c * keys_of (drop (k + 1) parts)
    keys_of-item = ap keys_of (drop-item parts k c in_range is)

    pub keys_of-more : (keys : ℕ) → keys * keys_of (drop k parts) ≡ keys_of parts
        → keys * size_of c * keys_of (drop (k + 1) parts) ≡ keys_of parts
    keys_of-more keys so_far =
        sym (times-regroup keys (size_of c) (keys_of (drop (k + 1) parts)))
        ∙ ap (λ m. keys * m) (sym keys_of-item) ∙ so_far

    pub keys_of-more_within : (keys : ℕ) → keys * keys_of (drop k parts) ≡ keys_of parts
        → keys * size_of c ≤ keys_of parts
    keys_of-more_within keys so_far =
        (let le = at_most_times (keys * size_of c) (keys_of (drop (k + 1) parts)) (keys_of-some (drop (k + 1) parts)) in
        let all = keys_of-more keys so_far in omega arith)

    abbrev units_from : ℕ → ℕ
    units_from j = product_unit (plain_components (drop j parts))

    units_from-item : units_from k ≡ component_unit (plain_component c) * keys_of (drop (k + 1) parts) + units_from
        (k + 1)
    units_from-item = ap (λ xs. product_unit (plain_components xs)) (drop-item parts k c in_range is)

    pub product_unit-more : (key : ℕ) → key * keys_of (drop k parts) + units_from k ≡ units_from 0
        → (key * size_of c + component_unit (plain_component c)) * keys_of (drop (k + 1) parts) + units_from (k + 1)
        ≡ units_from 0
    product_unit-more key so_far =
        sym (horner key (size_of c) (component_unit (plain_component c)) (keys_of (drop (k + 1) parts))
        (units_from (k + 1)))
        ∙ ap (λ m. key * m + (component_unit (plain_component c) * keys_of (drop (k + 1) parts) + units_from (k + 1)))
        (sym keys_of-item)
        ∙ ap (λ m. key * keys_of (drop k parts) + m) (sym units_from-item) ∙ so_far

-- no component is left at the end
pub drop-all : {X : Type 0} (xs : List X) → drop (length xs) xs ≡ []
drop-all [] = refl
drop-all (x ∷ xs) = drop-all xs

-- the product of what two keys show of the components from a place on
abbrev pub product_from : List Component → ℕ → ℕ → ℕ → ℕ
product_from parts a b j =
    product_mul (plain_components (drop j parts)) (a % keys_of (drop j parts)) (b % keys_of (drop j parts))

pub product_from-none : (parts : List Component) (a b : ℕ) → product_from parts a b (length parts) ≡ 0
product_from-none parts a b =
    ap (λ xs. product_mul (plain_components xs) (a % keys_of xs) (b % keys_of xs)) (drop-all parts)

pub product_from-all : (parts : List Component) (a b : ℕ) → a < keys_of parts → b < keys_of parts
    → product_from parts a b 0 ≡ product_mul (plain_components parts) a b
product_from-all parts a b a_in b_in =
    ap (λ x. product_mul (plain_components parts) x (b % keys_of parts)) (mod-eq_of_lt a_in)
    ∙ ap (λ x. product_mul (plain_components parts) a x) (mod-eq_of_lt b_in)

module _ (parts : List Component) (k : ℕ) (c : Component) (in_range : k < length parts) (is : c ≡ get_or parts k c)
    (a b : ℕ) where
  abbrev digit_product : ℕ
  digit_product =
      component_mul (plain_component c) (a / keys_of (drop (k + 1) parts) % size_of c)
      (b / keys_of (drop (k + 1) parts) % size_of c)

  pub product_from-item : product_from parts a b k
      ≡ digit_product * keys_of (drop (k + 1) parts) + product_from parts a b (k + 1)
  product_from-item =
      ap (λ xs. product_mul (plain_components xs) (a % keys_of xs) (b % keys_of xs)) (drop-item parts k c in_range is)
      ∙ by_digits (keys_of (drop (k + 1) parts)) refl
    where
      by_digits : (later : ℕ) → later ≡ keys_of (drop (k + 1) parts)
          → component_mul (plain_component c)
          (a % (size_of c * keys_of (drop (k + 1) parts)) / keys_of (drop (k + 1) parts))
          (b % (size_of c * keys_of (drop (k + 1) parts)) / keys_of (drop (k + 1) parts)) * keys_of (drop (k + 1) parts)
          + product_mul (plain_components (drop (k + 1) parts))
          (a % (size_of c * keys_of (drop (k + 1) parts)) % keys_of (drop (k + 1) parts))
          (b % (size_of c * keys_of (drop (k + 1) parts)) % keys_of (drop (k + 1) parts))
          ≡ digit_product * keys_of (drop (k + 1) parts) + product_from parts a b (k + 1)
      by_digits later same =
          let some_later = keys_of-some (drop (k + 1) parts) in
          rw (
            mod-div (size_of c) (keys_of (drop (k + 1) parts)) (size_of-some c) some_later a,
            mod-div (size_of c) (keys_of (drop (k + 1) parts)) (size_of-some c) some_later b,
            mod-mod (size_of c) (keys_of (drop (k + 1) parts)) (size_of-some c) some_later a,
            mod-mod (size_of c) (keys_of (drop (k + 1) parts)) (size_of-some c) some_later b,
          ) refl

  pub digit_product-within : digit_product * keys_of (drop (k + 1) parts) + product_from parts a b (k + 1) < keys_of
      parts
  digit_product-within =
      let later = keys_of (drop (k + 1) parts) in
      let some_later = keys_of-some (drop (k + 1) parts) in
      let low : product_from parts a b (k + 1) < later =
      (parts-IsMonoid (drop (k + 1) parts)).product_is_element (a % later) (b % later)
      (mod_below a later some_later) (mod_below b later some_later) in
      let high : digit_product < size_of c =
      (component-IsMonoid c).product_is_element (a / later % size_of c) (b / later % size_of c)
      (mod_below (a / later) (size_of c) (size_of-some c)) (mod_below (b / later) (size_of c) (size_of-some c)) in
      let both = mul-add-lt digit_product later (product_from parts a b (k + 1)) (size_of c) high low in
      let turned = mul_comm later (size_of c) in
      let item = keys_of-item parts k c in_range is in
      let le = keys_of-drop parts k in
      omega arith

  pub div-item : (x : ℕ) → x / keys_of (drop (k + 1) parts) / size_of c ≡ x / keys_of (drop k parts)
  div-item x =
      div-both (size_of c) (keys_of (drop (k + 1) parts)) (size_of-some c) (keys_of-some (drop (k + 1) parts)) x
      ∙ ap (λ m. x / m) (sym (keys_of-item parts k c in_range is))

-- one component more, from the last on: `i` is the place after that of the component
pub record TakesOneMore (parts : List Component) (a b k later a_rest b_rest key size digit : ℕ) : Type 0 where
  pub later_is : later * size ≡ keys_of (drop k parts)
  pub later_within : later * size ≤ keys_of parts
  pub digit_within : digit * later ≤ keys_of parts
  pub key_within : key + digit * later ≤ keys_of parts
  pub a_rest_is : a_rest / size ≡ a / (later * size)
  pub b_rest_is : b_rest / size ≡ b / (later * size)
  pub key_is : key + digit * later ≡ product_from parts a b k

module _ (parts : List Component) (k i : ℕ) (c : Component) (in_range : k < length parts) (is : c ≡ get_or parts k c)
    (next : i ≡ k + 1) (a b later a_rest b_rest key size digit : ℕ) where
  pub takes_one_more : later ≡ keys_of (drop i parts) → a_rest ≡ a / later → b_rest ≡ b / later
      → key ≡ product_from parts a b i → size ≡ size_of c
      → digit ≡ component_mul (plain_component c) (a_rest % size) (b_rest % size)
      → TakesOneMore parts a b k later a_rest b_rest key size digit
  takes_one_more later_is a_is b_is key_is size_is digit_is =
      let after : later ≡ keys_of (drop (k + 1) parts) = later_is ∙ ap (λ j. keys_of (drop j parts)) next in
      let item = keys_of-item parts k c in_range is in
      let all : later * size ≡ keys_of (drop k parts) =
      ap (λ x. x * size) after ∙ ap (λ x. keys_of (drop (k + 1) parts) * x) size_is
      ∙ mul_comm (keys_of (drop (k + 1) parts)) (size_of c) ∙ sym item in
      let le = keys_of-drop parts k in
      let digit_same : digit ≡ digit_product parts k c in_range is a b =
      digit_is
      ∙ ap (λ x. component_mul (plain_component c) (x % size) (b_rest % size)) (a_is ∙ ap (λ x. a / x) after)
      ∙ ap (λ x. component_mul (plain_component c) (a / keys_of (drop (k + 1) parts) % size) (x % size))
      (b_is ∙ ap (λ x. b / x) after)
      ∙ ap (λ x. component_mul (plain_component c) (a / keys_of (drop (k + 1) parts) % x)
      (b / keys_of (drop (k + 1) parts) % x)) size_is in
      let key_same : key ≡ product_from parts a b (k + 1) = key_is ∙ ap (product_from parts a b) next in
      let sum : key + digit * later ≡ product_from parts a b k =
      add_comm key (digit * later)
      ∙ ap (λ x. x * later + key) digit_same
      ∙ ap (λ x. digit_product parts k c in_range is a b * x + key) after
      ∙ ap (λ x. digit_product parts k c in_range is a b * keys_of (drop (k + 1) parts) + x) key_same
      ∙ sym (product_from-item parts k c in_range is a b) in
      let within = digit_product-within parts k c in_range is a b in
      let from = product_from-item parts k c in_range is a b in
      record {
        later_is = all;
        later_within = omega arith;
        digit_within = omega arith;
        key_within = omega arith;
        a_rest_is = ap (λ x. x / size) a_is ∙ div-div-eq-div-mul a later size;
        b_rest_is = ap (λ x. x / size) b_is ∙ div-div-eq-div-mul b later size;
        key_is = sum;
      }

-- one digit more, from the first on
module _ (parts : List Component) (k : ℕ) (c : Component) (in_range : k < length parts) (is : c ≡ get_or parts k c)
    (ds : List ℕ) (digit_in_range : k < length ds) where
  key_of-item : key_of (plain_components (drop k parts)) (drop k ds)
      ≡ get_or ds k 0 * keys_of (drop (k + 1) parts) + key_of (plain_components (drop (k + 1) parts)) (drop (k + 1) ds)
  key_of-item =
      ap (λ xs. key_of (plain_components xs) (drop k ds)) (drop-item parts k c in_range is)
      ∙ ap (λ xs. key_of (plain_components (c ∷ drop (k + 1) parts)) xs)
      (drop-cons ds k 0 digit_in_range ∙ ap (λ j. get_or ds k 0 ∷ drop j ds) (sym (add-one k)))

  pub key_of-more : (key : ℕ)
      → key * keys_of (drop k parts) + key_of (plain_components (drop k parts)) (drop k ds) ≡ key_of
      (plain_components parts) ds
      → (key * size_of c + get_or ds k 0) * keys_of (drop (k + 1) parts)
      + key_of (plain_components (drop (k + 1) parts)) (drop (k + 1) ds) ≡ key_of (plain_components parts) ds
  key_of-more key so_far =
      let later = keys_of (drop (k + 1) parts) in
      let rest = key_of (plain_components (drop (k + 1) parts)) (drop (k + 1) ds) in
      sym (horner key (size_of c) (get_or ds k 0) later rest)
      ∙ ap (λ m. key * m + (get_or ds k 0 * later + rest)) (sym (keys_of-item parts k c in_range is))
      ∙ ap (λ m. key * keys_of (drop k parts) + m) (sym key_of-item) ∙ so_far

-- a key that a digit was added to is at most the whole key
pub horner-within : (key s d k r whole : ℕ) → 0 < k → (key * s + d) * k + r ≡ whole → key * s + d ≤ whole
horner-within key s d k r whole some same = (let le = at_most_times (key * s + d) k some in omega arith)

pub AreDigits-length : (parts : List Component) (ds : List ℕ) → AreDigits (plain_components parts) ds
    → length ds ≡ length parts
AreDigits-length [] [] are = refl
AreDigits-length [] (d ∷ ds) are = absurd are
AreDigits-length (c ∷ cs) [] are = absurd are
AreDigits-length (c ∷ cs) (d ∷ ds) are = ap suc (AreDigits-length cs ds are.1)

-- the digits of the rest
pub record RestAfter (parts : List Component) (k place whole later rest : ℕ) : Type 0 where
  pub later_is : later ≡ keys_of (drop k parts)
  pub is_key : rest < later
  pub digit : (j : ℕ) → k + j ≡ place
      → get_or (digits (plain_components (drop k parts)) rest) j 0 ≡ get_or (digits (plain_components parts) whole)
      place 0

module _ (parts : List Component) (k : ℕ) (c : Component) (in_range : k < length parts) (is : c ≡ get_or parts k c)
    (place whole later rest size : ℕ) (size_is : size ≡ size_of c)
    (so_far : RestAfter parts k place whole later rest) where
  pub later-item : later / size ≡ keys_of (drop (k + 1) parts)
  later-item =
      ap (λ x. later / x) size_is ∙ ap (λ x. x / size_of c) (so_far.later_is ∙ keys_of-item parts k c in_range is)
      ∙ times-div (size_of c) (keys_of (drop (k + 1) parts)) (size_of-some c) (keys_of-some (drop (k + 1) parts))

  pub later-item_some : 0 < later / size
  later-item_some = (let some_later = keys_of-some (drop (k + 1) parts) in let same = later-item in omega arith)

  digits-item : digits (plain_components (drop k parts)) rest
      ≡ (rest / keys_of (drop (k + 1) parts)) ∷ digits (plain_components (drop (k + 1) parts))
      (rest % keys_of (drop (k + 1) parts))
  digits-item = ap (λ xs. digits (plain_components xs) rest) (drop-item parts k c in_range is)

  pub RestAfter-more : k < place → RestAfter parts (k + 1) place whole (later / size) (rest % (later / size))
  RestAfter-more before = record {
    later_is = later-item;
    is_key = mod_below rest (later / size) later-item_some;
    digit = λ j at.
        ap (λ x. get_or (digits (plain_components (drop (k + 1) parts)) (rest % x)) j 0) later-item
        ∙ ap (λ xs. get_or xs (suc j) 0) (sym digits-item)
        ∙ so_far.digit (suc j) (omega arith);
  }

  pub digit-here : k ≡ place → rest / (later / size) ≡ get_or (digits (plain_components parts) whole) place 0
  digit-here here =
      ap (λ x. rest / x) later-item
      ∙ ap (λ xs. get_or xs 0 0) (sym digits-item)
      ∙ so_far.digit 0 (omega arith)

pub same_place : (parts : List Component) (i k : ℕ) (c : Component) → k ≡ i → c ≡ get_or parts i c
    → c ≡ get_or parts k c
same_place parts i k c same is = is ∙ ap (λ j. get_or parts j c) (sym same)

pub parts-product_unit : (parts : List Component) → product_unit (plain_components parts) < keys_of parts
parts-product_unit parts = (parts-IsMonoid parts).unit_is_element
