-- Tests put together: keys with a digit for each of them.
use Rattle.std.specs.Prelude.{◌≡◌, ℕ, ◌<◌, ◌≤◌, ◌==◌, Bool, false, if◌then◌else◌, List, ◌∷◌}
use Rattle.std.specs.Prelude.{All, length, map, slice_index_or}
use Rattle.std.specs.List.{range_with_len}
use Rattle.monoid_product.specs.Component.{PlainComponent}
use Rattle.monoid_product.specs.Product.{AreDigits, key_count, key_of, digits}
use Rattle.monoid_product.specs.declared.product.TheConstants.{PART_LIMIT}
use Rattle.gta_checked.specs.Plain.{PlainChecked}
use Rattle.gta_meaning.specs.Tests.{verdict}
use Rattle.test_homs.specs.Homs.{PlainTests}
use Rattle.test_homs.specs.Prepared.{PlainPrepared}

-- the monoids of the tests, in their order
abbrev pub components : List PlainPrepared → List PlainComponent
components tests = map (λ test. test.component) tests

-- the letter that each test has at a place
abbrev pub digits_at : List PlainPrepared → ℕ → List ℕ
digits_at tests place = map (λ test. slice_index_or test.letters place 0) tests

-- so many letters of each
abbrev pub HasLetters : ℕ → PlainPrepared → Type 0
HasLetters count test = length test.letters ≡ count

-- each has the number of one of so many
abbrev pub AreNumbered : List PlainPrepared → Type 0
AreNumbered tests = All (λ test. test.number < length tests) tests

-- few tests, with so many letters each, all of them elements
pub record AreJoinable (count : ℕ) (tests : List PlainPrepared) : Type 0 where
  pub few : length tests ≤ PART_LIMIT
  pub numbers : AreNumbered tests
  pub letters : All (HasLetters count) tests
  pub digits : (place : ℕ) → AreDigits (components tests) (digits_at tests place)

-- the key of these letters
abbrev pub key_at : List PlainPrepared → ℕ → ℕ
key_at tests place = key_of (components tests) (digits_at tests place)

-- whether the test of a number accepts its digit
abbrev pub outcome_of : List PlainPrepared → List ℕ → ℕ → Bool
outcome_of (test ∷ tests) (digit ∷ later) number =
    if test.number == number then slice_index_or test.accept digit false else outcome_of tests later number
outcome_of _ _ _ = false

-- what each test comes to by its digit, in the order of their numbers, which is that of the lines
abbrev pub outcomes_of : List PlainPrepared → List ℕ → List Bool
outcomes_of tests digits = map (outcome_of tests digits) (range_with_len 0 (length tests))

-- the verdict of what the tests come to by the digits of a key
abbrev pub key_accepted : PlainChecked → List PlainPrepared → ℕ → Bool
key_accepted checked tests key =
    verdict checked.keep checked.named (outcomes_of tests (digits (components tests) key))

abbrev pub accepted_keys : PlainChecked → List PlainPrepared → List Bool
accepted_keys checked tests = map (key_accepted checked tests) (range_with_len 0 (key_count (components tests)))

-- tests with so many letters, together
abbrev pub joined : PlainChecked → ℕ → ℕ → List PlainPrepared → PlainTests
joined checked count labels tests = record {
  parts = components tests;
  labels = labels;
  letters = map (key_at tests) (range_with_len 0 count);
  accept = accepted_keys checked tests;
}
