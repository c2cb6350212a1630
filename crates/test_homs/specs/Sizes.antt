-- How many keys the tests of a specification have.
use Rattle.std.specs.Prelude.{ℕ, ◌*◌}
use Rattle.monoid_kit.specs.Product.{product_by}
use Rattle.monoid_product.specs.Component.{component_size}
use Rattle.gta_checked.specs.Plain.{PlainTest, PlainChecked}
use Rattle.test_homs.specs.Kinds.{hom_of}

-- how many elements a test's monoid has
abbrev pub test_size : PlainChecked → PlainTest → ℕ
test_size checked test = component_size (hom_of checked test).component

-- the product of the sizes of all tests
abbrev pub key_count : PlainChecked → ℕ
key_count checked = product_by 1 (λ a b. a * b) (test_size checked) checked.tests
