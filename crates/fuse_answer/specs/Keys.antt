-- Keys in any monoid that decide which candidates pass.
use Rattle.std.specs.Prelude.{◌≡◌, ℕ, ◌*◌, ◌<◌, Bool, List, length, slice_index_or}
use Rattle.monoid_kit.specs.Items.{AllElements}
use Rattle.monoid_kit.specs.Product.{product_by}
use Rattle.shape_gen.specs.declared.mark.Mark.{Mark}
use Rattle.fuse_core.specs.Letters.{place_of}
use Rattle.fuse_core.specs.Plans.{accepts}
use Rattle.gta_checked.specs.PlainRows.{PlainRows}
use Rattle.gta_checked.specs.Plain.{PlainChecked}
use Rattle.gta_meaning.specs.InRange.{IsInRangeOf, label_count}
use Rattle.gta_meaning.specs.Tests.{passes}

-- the product of the keys of a candidate's marks, in their order
abbrev pub product_of_keys : ℕ → (ℕ → ℕ → ℕ) → List ℕ → ℕ → List Mark → ℕ
product_of_keys unit times keys labels c =
    product_by unit times (λ m. slice_index_or keys (place_of labels m) 0) c

-- a key for each row and label, and which keys are accepted: a candidate passes exactly where the
-- product of its marks' keys is accepted
pub record DecidePassing (checked : PlainChecked) (rows : PlainRows) (size unit : ℕ)
    (times : ℕ → ℕ → ℕ) (keys : List ℕ) (accept : List Bool) : Type 0 where
  pub count : length keys ≡ rows.count * label_count checked
  pub keys_are_elements : AllElements (λ key. key < size) (λ key. key) keys
  pub one_a_key : length accept ≡ size
  pub decides : (c : List Mark) → IsInRangeOf checked rows c
      → accepts accept (product_of_keys unit times keys (label_count checked) c) ≡ passes checked rows c
