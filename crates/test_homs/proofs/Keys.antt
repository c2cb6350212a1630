-- What the key of a candidate decides: its digits are the products of the tests, and each decides its test.
use Rattle.std.proofs.Common.{◌≡◌, ℕ, ◌+◌, ◌*◌, ◌<◌, ◌≤◌, ◌==◌, Bool, true, false, List, [], ◌∷◌, map, length}
use Rattle.std.proofs.Common.{get_or, All, inl, inr, refl, sym, subst, ap, ◌∙◌, arith}
use Rattle.std.specs.List.{list_any, range_with_len}
use Rattle.std.specs.List.Sorted.{IsPermutation}
use Rattle.std.proofs.lemmas.Bool.Decides.{nat_tests}
use Rattle.std.proofs.lemmas.List.Sorted.{length_permutation, list_any-IsPermutation}
use Rattle.std.proofs.lemmas.List.{length-map}
use Rattle.std.proofs.lemmas.List.Elements.{All-head, All-tail, All-cons, All-map}
use Rattle.std.proofs.lemmas.List.FromFn.{get_or-map-range_with_len, length-range_with_len}
use Rattle.std.proofs.lemmas.Nat.{mul-add-lt}
use Rattle.std.proofs.Math.Nat.{mul_comm}
use Rattle.monoid_kit.specs.Items.{IsIn, AllElements}
use Rattle.monoid_kit.specs.Product.{product_by}
use Rattle.monoid_kit.proofs.Items.{AllElements-map}
use Rattle.monoid_kit.proofs.Products.{product_by-is_element, product_by-same}
use Rattle.monoid_product.specs.Component.{PlainComponent, component_size, component_unit, component_mul}
use Rattle.monoid_product.specs.Product.{AreDigits, key_of, digits, digit_products, product_mul, product_unit}
use Rattle.monoid_product.specs.Product.{key_count}
use Rattle.monoid_product.specs.declared.product.TheConstants.{PART_LIMIT}
use Rattle.monoid_product.proofs.Digits.{digits-key_of, key_of-is_key}
use Rattle.shape_gen.specs.declared.mark.Mark.{Mark}
use Rattle.gta_checked.specs.Plain.{PlainChecked}
use Rattle.gta_checked.specs.PlainRows.{PlainRows}
use Rattle.gta_meaning.specs.InRange.{IsInRange, IsMarkInRange}
use Rattle.gta_meaning.specs.Tests.{verdict}
use Rattle.test_homs.specs.Hom.{Hom, IsHomOf, letter_product}
use Rattle.test_homs.specs.Homs.{PlainTests, accepts}
use Rattle.test_homs.specs.Homs as homs
use Rattle.test_homs.specs.Joined.{AreJoinable, HasLetters, components, digits_at}
use Rattle.test_homs.specs.Joined.{key_at, outcome_of, outcomes_of, key_accepted, joined}
use Rattle.test_homs.specs.Prepared.{PlainPrepared, prepared_of}
use Rattle.test_homs.proofs.Numbers.{by_test, in-range, map-range-same}
use Rattle.test_homs.proofs.Letters.{letter-at, letter-below, length-letters_of, accept-at}

All-IsIn : {A : Type 0} (P : A → Type 0) (xs : List A) → All P xs → (x : A) → IsIn x xs → P x
All-IsIn P [] all x x_in = absurd x_in
All-IsIn P (y ∷ ys) all x (inl same) = subst P (sym same) (All-head P y ys all)
All-IsIn P (y ∷ ys) all x (inr later) = All-IsIn P ys (All-tail P y ys all) x later

place-below : (row label count labels : ℕ) → row < count → label < labels → row * labels + label < count * labels
place-below row label count labels row_in label_in =
    subst (λ places. row * labels + label < places) (mul_comm labels count)
    (mul-add-lt row labels label count row_in label_in)

-- tests that each are decided by a hom, by their numbers
module _ (rows : PlainRows) (labels : ℕ) (hom : ℕ → Hom) where
  abbrev plain : ℕ → PlainPrepared
  plain t = prepared_of rows labels t (hom t)

  abbrev part : ℕ → PlainComponent
  part t = (hom t).component

  abbrev parts : List ℕ → List PlainComponent
  parts ts = components (map plain ts)

  abbrev letter : Mark → ℕ → ℕ
  letter m t = (hom t).letter rows m.row m.label

  abbrev product : List Mark → ℕ → ℕ
  product c t = letter_product (hom t) rows c

  pub key_count-parts : (ts : List ℕ)
      → key_count (parts ts) ≡ product_by 1 (λ a b. a * b) (λ t. component_size (part t)) ts
  key_count-parts [] = refl
  key_count-parts (t ∷ ts) = ap (λ keys. component_size (part t) * keys) (key_count-parts ts)

  units-map : (ts : List ℕ) → map component_unit (parts ts) ≡ map (λ t. component_unit (part t)) ts
  units-map [] = refl
  units-map (t ∷ ts) = ap (λ us. component_unit (part t) ∷ us) (units-map ts)

  digit_products-map : (f g : ℕ → ℕ) (ts : List ℕ)
      → digit_products (parts ts) (map f ts) (map g ts) ≡ map (λ t. component_mul (part t) (f t) (g t)) ts
  digit_products-map f g [] = refl
  digit_products-map f g (t ∷ ts) = ap (λ ds. component_mul (part t) (f t) (g t) ∷ ds) (digit_products-map f g ts)

  digits_at-letters : (m : Mark) → IsMarkInRange rows.count labels m → (ts : List ℕ)
      → digits_at (map plain ts) (m.row * labels + m.label) ≡ map (letter m) ts
  digits_at-letters m m_in [] = refl
  digits_at-letters m m_in (t ∷ ts) =
      ap (λ d. d ∷ digits_at (map plain ts) (m.row * labels + m.label))
      (letter-at (hom t) rows labels m.row m.label m_in.row m_in.label)
      ∙ ap (λ ds. letter m t ∷ ds) (digits_at-letters m m_in ts)

  HasLetters-map : (ts : List ℕ) → All (HasLetters (rows.count * labels)) (map plain ts)
  HasLetters-map [] = λ k test below. absurd (omega arith)
  HasLetters-map (t ∷ ts) =
      All-cons (HasLetters (rows.count * labels)) (plain t) (map plain ts) (length-letters_of (hom t) rows labels)
      (HasLetters-map ts)

  module _ (passes : ℕ → List Mark → Bool) where
    abbrev Is : ℕ → Type 0
    Is t = IsHomOf rows labels (passes t) (hom t)

    AreDigits-map : (f : ℕ → ℕ) → ((t : ℕ) → Is t → f t < component_size (part t))
        → (ts : List ℕ) → All Is ts → AreDigits (parts ts) (map f ts)
    AreDigits-map f below [] all = tt
    AreDigits-map f below (t ∷ ts) all =
        (below t (All-head Is t ts all), AreDigits-map f below ts (All-tail Is t ts all))

    letters-AreDigits : (m : Mark) (ts : List ℕ) → All Is ts → AreDigits (parts ts) (map (letter m) ts)
    letters-AreDigits m ts all = AreDigits-map (letter m) (λ t is. is.letters m.row m.label) ts all

    product-below : (c : List Mark) (t : ℕ) → Is t → product c t < component_size (part t)
    product-below c t is =
        product_by-is_element is.monoid (λ m. letter m t) c (λ m m_in. is.letters m.row m.label)

    products-AreDigits : (c : List Mark) (ts : List ℕ) → All Is ts → AreDigits (parts ts) (map (product c) ts)
    products-AreDigits c ts all = AreDigits-map (product c) (product-below c) ts all

    places-AreDigits : (place : ℕ) (ts : List ℕ) → All Is ts → AreDigits (parts ts) (digits_at (map plain ts) place)
    places-AreDigits place [] all = tt
    places-AreDigits place (t ∷ ts) all =
        let is = All-head Is t ts all in
        let unit_in = is.monoid.unit_is_element in (
          letter-below (hom t) rows labels is.letters (omega arith) place,
          places-AreDigits place ts (All-tail Is t ts all),
        )

    -- each digit decides its test
    outcome-decides : (c : List Mark) → IsInRange rows.count labels c → (ts : List ℕ) → All Is ts → (k : ℕ)
        → list_any (λ t. t == k) ts ≡ true → outcome_of (map plain ts) (map (product c) ts) k ≡ passes k c
    outcome-decides c in_range [] all k found = absurd cc
    outcome-decides c in_range (t ∷ ts) all k found =
        by_test (t == k) (λ here.
        let is = All-head Is t ts all in
        rw here (accept-at (hom t) (product c t) (product-below c t is) ∙ is.decides c in_range
        ∙ ap (λ n. passes n c) (grind (arith, nat_tests))))
        (λ off. rw off (outcome-decides c in_range ts (All-tail Is t ts all) k (rw off at found)))

    outcomes-decide : (c : List Mark) → IsInRange rows.count labels c → (n : ℕ) (ts : List ℕ) → All Is ts
        → IsPermutation (range_with_len 0 n) ts
        → outcomes_of (map plain ts) (map (product c) ts) ≡ map (λ k. passes k c) (range_with_len 0 n)
    outcomes-decide c in_range n ts all permuted =
        let outcome = outcome_of (map plain ts) (map (product c) ts) in
        let count : length (map plain ts) ≡ n =
        length-map ts plain ∙ length_permutation (range_with_len 0 n) ts permuted ∙ length-range_with_len 0 n in
        ap (λ m. map outcome (range_with_len 0 m)) count
        ∙ map-range-same outcome (λ k. passes k c) 0 n
        (λ k low below. outcome-decides c in_range ts all k
        (sym (list_any-IsPermutation (λ t. t == k) (range_with_len 0 n) ts permuted) ∙ in-range 0 n k low below))

    module _ (ts : List ℕ) (all : All Is ts) where
      pub are_joinable : length ts ≤ PART_LIMIT → All (λ t. t < length ts) ts
          → AreJoinable (rows.count * labels) (map plain ts)
      are_joinable few numbers = record {
        few = omega (arith, length-map ts plain);
        numbers = subst (λ n. All (λ (test : PlainPrepared). test.number < n) (map plain ts))
            (sym (length-map ts plain))
            (All-map (λ (test : PlainPrepared). test.number < length ts) plain ts numbers);
        letters = HasLetters-map ts;
        digits = λ place. places-AreDigits place ts all;
      }

      -- the product of letters is the key of the products
      product-letters : (c : List Mark)
          → product_by (product_unit (parts ts)) (product_mul (parts ts)) (λ m. key_of (parts ts) (map (letter m) ts)) c
          ≡ key_of (parts ts) (map (product c) ts)
      product-letters [] = ap (key_of (parts ts)) (units-map ts)
      product-letters (m ∷ ms) =
          let here = digits-key_of (parts ts) (map (letter m) ts) (letters-AreDigits m ts all) in
          let rest = digits-key_of (parts ts) (map (product ms) ts) (products-AreDigits ms ts all) in
          let later = digits (parts ts) (key_of (parts ts) (map (product ms) ts)) in
          ap (product_mul (parts ts) (key_of (parts ts) (map (letter m) ts))) (product-letters ms)
          ∙ ap (λ ds. key_of (parts ts) (digit_products (parts ts) ds later)) here
          ∙ ap (λ ds. key_of (parts ts) (digit_products (parts ts) (map (letter m) ts) ds)) rest
          ∙ ap (key_of (parts ts)) (digit_products-map (letter m) (product ms) ts)

      abbrev whole : PlainChecked → PlainTests
      whole checked = joined checked (rows.count * labels) labels (map plain ts)

      key-at : (checked : PlainChecked) (m : Mark) → IsMarkInRange rows.count labels m
          → get_or (whole checked).letters (m.row * labels + m.label) 0 ≡ key_of (parts ts) (map (letter m) ts)
      key-at checked m m_in =
          let place = m.row * labels + m.label in
          get_or-map-range_with_len (key_at (map plain ts)) 0 (rows.count * labels) place place 0
          (place-below m.row m.label rows.count labels m_in.row m_in.label) (omega arith)
          ∙ ap (key_of (parts ts)) (digits_at-letters m m_in ts)

      pub joined-decides : (checked : PlainChecked) (n : ℕ) → IsPermutation (range_with_len 0 n) ts → (c : List Mark)
          → IsInRange rows.count labels c
          → accepts (whole checked) (homs.key_of (whole checked) labels c)
          ≡ verdict checked.keep checked.named (map (λ k. passes k c) (range_with_len 0 n))
      joined-decides checked n permuted c in_range =
          let ds = map (product c) ts in
          let are_digits = products-AreDigits c ts all in
          let key = key_of (parts ts) ds in
          let letters = product_by-same (product_unit (parts ts)) (product_mul (parts ts))
          (λ (m : Mark). get_or (whole checked).letters (m.row * labels + m.label) 0)
          (λ (m : Mark). key_of (parts ts) (map (letter m) ts)) c
          (λ m m_in. key-at checked m (All-IsIn (IsMarkInRange rows.count labels) c in_range.each m m_in)) in
          ap (accepts (whole checked)) (letters ∙ product-letters c)
          ∙ get_or-map-range_with_len (key_accepted checked (map plain ts)) 0 (key_count (parts ts)) key key false
          (key_of-is_key (parts ts) ds are_digits) (omega arith)
          ∙ ap (λ ks. verdict checked.keep checked.named (outcomes_of (map plain ts) ks))
          (digits-key_of (parts ts) ds are_digits)
          ∙ ap (verdict checked.keep checked.named) (outcomes-decide c in_range n ts all permuted)

      pub keys-are_keys : (checked : PlainChecked)
          → AllElements (λ key. key < key_count (parts ts)) (λ key. key) (whole checked).letters
      keys-are_keys checked =
          AllElements-map (λ key. key < key_count (parts ts)) (λ key. key) (key_at (map plain ts))
          (range_with_len 0 (rows.count * labels))
          (λ place _. key_of-is_key (parts ts) (digits_at (map plain ts) place) (places-AreDigits place ts all))
