-- Letters and keys of tests, and what a candidate's key decides.
use Rattle.std.specs.Prelude.{◌≡◌, ℕ, ◌+◌, ◌*◌, ◌<◌, Bool, false, List, length, slice_index_or}
use Rattle.monoid_kit.specs.Items.{AllElements}
use Rattle.monoid_kit.specs.Product.{product_by}
use Rattle.monoid_product.specs.Component.{PlainComponent}
use Rattle.monoid_product.specs.Product as products
use Rattle.monoid_product.specs.Product.{product_mul, product_unit}
use Rattle.shape_gen.specs.declared.mark.Mark.{Mark}
use Rattle.gta_checked.specs.PlainRows.{PlainRows}
use Rattle.gta_checked.specs.Plain.{PlainChecked}
use Rattle.gta_meaning.specs.InRange.{IsInRange, label_count}
use Rattle.gta_meaning.specs.Tests.{passes}
use Rattle.test_homs.specs.Sizes.{key_count}

-- the monoids of the tests, whose product the keys are multiplied in; how many labels there are; a letter
-- for each row and label; and which keys are accepted
pub record PlainTests : Type 0 where
  pub parts : List PlainComponent
  pub labels : ℕ
  pub letters : List ℕ
  pub accept : List Bool

-- the key of a candidate: the product of its marks' letters, in their order
abbrev pub key_of : PlainTests → ℕ → List Mark → ℕ
key_of tests labels c =
    product_by (product_unit tests.parts) (product_mul tests.parts)
    (λ m. slice_index_or tests.letters (m.row * labels + m.label) 0) c

abbrev pub accepts : PlainTests → ℕ → Bool
accepts tests key = slice_index_or tests.accept key false

-- a candidate passes exactly where its key is accepted
abbrev pub Decides : PlainChecked → PlainRows → PlainTests → Type 0
Decides checked rows tests =
    (c : List Mark) → IsInRange rows.count (label_count checked) c
    → accepts tests (key_of tests (label_count checked) c) ≡ passes checked rows c

-- letters for all rows and labels, accepted keys, and what they decide
pub record ArePrepared (checked : PlainChecked) (rows : PlainRows) (tests : PlainTests) : Type 0 where
  pub size : products.key_count tests.parts ≡ key_count checked
  pub labels : tests.labels ≡ label_count checked
  pub count : length tests.letters ≡ rows.count * label_count checked
  pub keys : AllElements (λ key. key < products.key_count tests.parts) (λ key. key) tests.letters
  pub accept : length tests.accept ≡ products.key_count tests.parts
  pub decides : Decides checked rows tests
