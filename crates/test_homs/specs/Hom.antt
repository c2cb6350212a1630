-- Tests that are decided by the product of letters.
use Rattle.std.specs.Prelude.{◌≡◌, ℕ, ◌<◌, Bool, List}
use Rattle.monoid_kit.specs.Product.{product_by}
use Rattle.monoid_product.specs.Component.{PlainComponent, IsMonoidComponent}
use Rattle.monoid_product.specs.Component.{component_size, component_unit, component_mul}
use Rattle.shape_gen.specs.declared.mark.Mark.{Mark}
use Rattle.gta_checked.specs.PlainRows.{PlainRows}
use Rattle.gta_meaning.specs.InRange.{IsInRange}

-- a monoid, the letter of a table's row with a label, and which elements are accepted
pub record Hom : Type 0 where
  pub component : PlainComponent
  pub letter : PlainRows → ℕ → ℕ → ℕ
  pub accepts : ℕ → Bool

-- the product of the letters of a candidate's marks, in their order
abbrev pub letter_product : Hom → PlainRows → List Mark → ℕ
letter_product hom rows marks =
    product_by (component_unit hom.component) (component_mul hom.component)
    (λ mark. hom.letter rows mark.row mark.label) marks

-- the one law: letters are elements of a monoid, and a candidate passes exactly where the product of its letters
-- is accepted
pub record IsHomOf (rows : PlainRows) (labels : ℕ) (passes : List Mark → Bool) (hom : Hom) : Type 0 where
  pub monoid : IsMonoidComponent hom.component
  pub letters : (row label : ℕ) → hom.letter rows row label < component_size hom.component
  pub decides : (marks : List Mark) → IsInRange rows.count labels marks
      → hom.accepts (letter_product hom rows marks) ≡ passes marks
