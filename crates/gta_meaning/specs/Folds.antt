-- The product of a fold in its table.
use Rattle.std.specs.Prelude.{ℕ, List, Option, Some, None}
use Rattle.std.specs.List.{find}
use Rattle.monoid_kit.specs.Product.{product_from_left}
use Rattle.monoid_kit.specs.Table.{PlainTable, table_mul}
use Rattle.shape_gen.specs.declared.mark.Mark.{Mark}
use Rattle.gta_checked.specs.PlainRows.{PlainRows}
use Rattle.gta_checked.specs.Plain.{PlainPick}
use Rattle.gta_meaning.specs.Values.{holds}

-- the element of a pick, or the unit where there is none
abbrev pub element_of : ℕ → Option PlainPick → ℕ
element_of unit None = unit
element_of unit (Some pick) = pick.element

-- the element of the first pick whose condition holds at a row with a label, else the unit
abbrev pub picked : PlainRows → ℕ → List PlainPick → ℕ → ℕ → ℕ
picked rows unit picks row label = element_of unit (find (λ pick. holds rows row label pick.cond) picks)

-- the product in a table, from left to right and beginning with its unit, of the elements that the marks pick
abbrev pub folded : PlainRows → PlainTable → List PlainPick → List Mark → ℕ
folded rows table picks marks =
    product_from_left table.unit (table_mul table) (λ mark. picked rows table.unit picks mark.row mark.label) marks
