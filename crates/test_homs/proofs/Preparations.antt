-- The prepared tests, in any order: their keys decide what passes, and how many keys there are.
use Rattle.std.proofs.Common.{◌≡◌, ℕ, ◌<◌, ◌≤◌, ◌*◌, Bool, List, None, All, length, map}
use Rattle.std.proofs.Common.{refl, sym, subst, ap, ◌∙◌, arith}
use Rattle.std.specs.List.{range_with_len}
use Rattle.std.specs.List.Sorted.{IsPermutation}
use Rattle.std.proofs.lemmas.List.{length-map}
use Rattle.std.proofs.lemmas.List.FromFn.{length-map-range_with_len, length-range_with_len}
use Rattle.std.proofs.lemmas.List.Sorted.{All-permutation, IsPermutation-map, length_permutation}
use Rattle.monoid_kit.specs.Product.{product_by}
use Rattle.monoid_kit.proofs.Products.{product_by-map}
use Rattle.monoid_product.specs.declared.component.Component.{Component}
use Rattle.monoid_product.specs.declared.product.TheConstants.{PART_LIMIT}
use Rattle.monoid_product.specs.Component.{PlainComponent}
use Rattle.monoid_product.specs.ComponentOf.{plain_component, plain_components}
use Rattle.monoid_product.specs.Product as products
use Rattle.shape_gen.specs.declared.mark.Mark.{Mark}
use Rattle.gta_checked.specs.PlainRows.{PlainRows}
use Rattle.gta_checked.specs.Plain.{PlainChecked}
use Rattle.gta_checked.specs.Within.{IsWithinLimits}
use Rattle.gta_meaning.specs.InRange.{label_count}
use Rattle.gta_meaning.specs.Tests.{outcomes, passes_test, verdict}
use Rattle.test_homs.specs.declared.prepared.Prepared.{Prepared}
use Rattle.test_homs.specs.Hom.{Hom, IsHomOf}
use Rattle.test_homs.specs.Homs.{PlainTests, ArePrepared}
use Rattle.test_homs.specs.Joined.{AreJoinable, components, key_at, key_accepted, joined}
use Rattle.test_homs.specs.Kinds.{hom_of}
use Rattle.test_homs.specs.Negatives.{first_negative}
use Rattle.test_homs.specs.Prepared.{PlainPrepared, no_test, plain_prepared, prepared_test, prepared_tests}
use Rattle.test_homs.specs.Prepared.{test_at}
use Rattle.test_homs.specs.Sizes.{key_count, test_size}
use Rattle.test_homs.proofs.Keys.{are_joinable, joined-decides, key_count-parts, keys-are_keys}
use Rattle.test_homs.proofs.KindLaws.{homs_of-AreHoms}
use Rattle.test_homs.proofs.Lists.{map-through}
use Rattle.test_homs.proofs.Numbers.{All-range, numbered}
use Rattle.test_homs.proofs.Orders.{IsReordered, product-permuted, reordered}

module _ (checked : PlainChecked) (rows : PlainRows) where
  abbrev numbers : List ℕ
  numbers = range_with_len 0 (length checked.tests)

  abbrev hom_at : ℕ → Hom
  hom_at number = hom_of checked (test_at checked number)

  abbrev passes_at : ℕ → List Mark → Bool
  passes_at number marks = passes_test checked rows marks (test_at checked number)

  abbrev IsHomFor : ℕ → Type 0
  IsHomFor number = IsHomOf rows (label_count checked) (passes_at number) (hom_at number)

  abbrev pub joined_tests : List PlainPrepared → PlainTests
  joined_tests tests = joined checked (rows.count * label_count checked) (label_count checked) tests

  -- the tests of the specification, prepared in any order
  abbrev pub AreItsTests : List PlainPrepared → Type 0
  AreItsTests tests = IsReordered (prepared_test checked rows) numbers tests

  pub its_tests : (before after : List Prepared) → map plain_prepared before ≡ prepared_tests checked rows
      → IsPermutation before after → AreItsTests (map plain_prepared after)
  its_tests before after same permuted =
      reordered (prepared_test checked rows) numbers (map plain_prepared after)
      (subst (λ (tests : List PlainPrepared). IsPermutation tests (map plain_prepared after)) same
      (IsPermutation-map plain_prepared before after permuted))

  -- the number of keys, as the product of the tests' monoids counts them
  pub key_count-components : (tests : List PlainPrepared) → AreItsTests tests → (parts : List PlainComponent)
      → parts ≡ components tests → products.key_count parts ≡ key_count checked
  key_count-components tests its parts same =
      ap products.key_count (same ∙ ap components its.is)
      ∙ key_count-parts rows (label_count checked) hom_at its.items
      ∙ product-permuted numbers its.items its.permuted (λ number. test_size checked (test_at checked number))
      ∙ sym (product_by-map 1 (λ a b. a * b) (test_size checked) (test_at checked) numbers)
      ∙ ap (product_by 1 (λ a b. a * b) (test_size checked)) (numbered checked.tests no_test)

  pub its_tests-length : (tests : List PlainPrepared) → AreItsTests tests → length tests ≡ length checked.tests
  its_tests-length tests its =
      ap length its.is ∙ length-map its.items (prepared_test checked rows)
      ∙ length_permutation numbers its.items its.permuted ∙ length-range_with_len 0 (length checked.tests)

  -- no more than a product may have
  pub its_tests-few : IsWithinLimits checked → (tests : List PlainPrepared) → AreItsTests tests
      → (parts : List Component) → plain_components parts ≡ components tests → length parts ≤ PART_LIMIT
  its_tests-few within tests its parts same =
      let few = within.few_tests in
      omega (
        arith,
        ap length same,
        length-map parts plain_component,
        length-map tests (λ (test : PlainPrepared). test.component),
        its_tests-length tests its,
      )

  module _ (within : IsWithinLimits checked) (none : first_negative checked rows ≡ None) where
    homs : (tests : List ℕ) → IsPermutation numbers tests → All IsHomFor tests
    homs tests permuted =
        All-permutation IsHomFor numbers tests permuted
        (All-range IsHomFor (length checked.tests)
        (λ number below. homs_of-AreHoms checked rows within none number no_test below))

    pub its_tests-AreJoinable : (tests : List PlainPrepared) → AreItsTests tests
        → AreJoinable (rows.count * label_count checked) tests
    its_tests-AreJoinable tests its =
        let few = within.few_tests in
        let count = length checked.tests in
        let same : count ≡ length its.items =
        sym (length_permutation numbers its.items its.permuted ∙ length-range_with_len 0 count) in
        let below = All-permutation (λ number. number < count) numbers its.items its.permuted
        (All-range (λ number. number < count) count (λ number less. less)) in
        subst (AreJoinable (rows.count * label_count checked)) (sym its.is)
        (are_joinable rows (label_count checked) hom_at passes_at its.items (homs its.items its.permuted)
        (omega (arith, same)) (subst (λ n. All (λ number. number < n) its.items) same below))

    outcomes_are : (marks : List Mark) → map (λ number. passes_at number marks) numbers ≡ outcomes checked rows marks
    outcomes_are marks =
        sym (map-through (passes_test checked rows marks) (test_at checked) numbers)
        ∙ ap (map (passes_test checked rows marks)) (numbered checked.tests no_test)

    in_order-ArePrepared : (tests : List ℕ) → IsPermutation numbers tests
        → ArePrepared checked rows (joined_tests (map (prepared_test checked rows) tests))
    in_order-ArePrepared tests permuted =
        let labels = label_count checked in
        let prepared = map (prepared_test checked rows) tests in
        let its : AreItsTests prepared = record { items = tests; permuted = permuted; is = refl } in
        let are_homs = homs tests permuted in
        record {
          size = key_count-components prepared its (components prepared) refl;
          labels = refl;
          count = length-map-range_with_len (key_at prepared) 0 (rows.count * labels);
          keys = keys-are_keys rows labels hom_at passes_at tests are_homs checked;
          accept = length-map-range_with_len (key_accepted checked prepared) 0
              (products.key_count (components prepared));
          decides = λ marks in_range.
              joined-decides rows labels hom_at passes_at tests are_homs checked (length checked.tests) permuted marks
              in_range
              ∙ ap (verdict checked.keep checked.named) (outcomes_are marks);
        }

    pub its_tests-ArePrepared : (tests : List PlainPrepared) → AreItsTests tests
        → ArePrepared checked rows (joined_tests tests)
    its_tests-ArePrepared tests its =
        subst (λ (prepared : List PlainPrepared). ArePrepared checked rows (joined_tests prepared)) (sym its.is)
        (in_order-ArePrepared its.items its.permuted)
