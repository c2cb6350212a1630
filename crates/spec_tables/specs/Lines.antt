-- The lines of one table, and the products that they give its elements.
use Rattle.std.specs.Prelude.{ℕ, List, [], ◌∷◌, Option, if◌then◌else◌}
use Rattle.std.specs.List.{flat_map}
use Rattle.std.specs.Str.{bytes_eq}
use Rattle.gta_spec.specs.Parts.{KindTree, PartTree, TableTree, Times, TimesTree}
use Rattle.spec_tables.specs.Tables.{numbers_if, only_one}

abbrev pub line_of : List ℕ → KindTree → List TimesTree
line_of table (Times part) = if bytes_eq part.table table then part ∷ [] else []
line_of table _ = []

-- the lines `times` of a table, in their order
abbrev pub lines_of : List PartTree → List ℕ → List TimesTree
lines_of parts table = flat_map (λ part. line_of table part.kind) parts

abbrev pub products_by : List ℕ → TimesTree → List (List (List ℕ))
products_by element line = if bytes_eq line.element element then line.products ∷ [] else []

-- the products that lines of one table give an element
abbrev pub products_for : List ℕ → List TimesTree → List (List (List ℕ))
products_for element lines = flat_map (products_by element) lines

-- the numbers of the products that lines of one table give an element, which has one of them
abbrev pub row_on : List TimesTree → TableTree → List ℕ → Option (List ℕ)
row_on lines table element = numbers_if table.elements (only_one (products_for element lines))
