-- The tables of a specification, with their elements and products by number.
use Rattle.std.specs.Prelude.{ℕ, Bool, ◌&&◌, List, [], ◌∷◌, map, length, ◌==◌, if◌then◌else◌}
use Rattle.std.specs.Prelude.{Option, Some, None, unwrap_or}
use Rattle.std.specs.List.{flat_map, list_all, list_any, position_or_len}
use Rattle.std.specs.Str.{bytes_eq}
use Rattle.monoid_kit.specs.Table.{PlainTable}
use Rattle.gta_spec.specs.Parts.{TableTree, KindTree, Table, Times, PartTree}
use Rattle.gta_checked.specs.Plain.{NamedTable}

-- the number of a name among these, from 0
abbrev pub number_of : List (List ℕ) → List ℕ → ℕ
number_of names x = position_or_len (λ name. bytes_eq name x) names

-- whether a name is one of these
abbrev pub is_one_of : List (List ℕ) → List ℕ → Bool
is_one_of names x = list_any (λ name. bytes_eq name x) names

abbrev pub table_parts : KindTree → List TableTree
table_parts (Table part) = part ∷ []
table_parts _ = []

-- the lines `table`, in their order
abbrev pub tables_in : List PartTree → List TableTree
tables_in parts = flat_map (λ part. table_parts part.kind) parts

-- the products that a line `times` gives an element of a table
abbrev pub products_on : List ℕ → List ℕ → KindTree → List (List (List ℕ))
products_on table element (Times part) =
    if bytes_eq part.table table && bytes_eq part.element element then part.products ∷ [] else []
products_on table element _ = []

-- the products of an element, line by line
abbrev pub products_of : List PartTree → List ℕ → List ℕ → List (List (List ℕ))
products_of parts table element = flat_map (λ part. products_on table element part.kind) parts

-- the numbers of as many products as there are elements. Each product is an element: other names are unknown
-- ones, which are told before
abbrev pub numbers_in : List (List ℕ) → List (List ℕ) → Option (List ℕ)
numbers_in elements products =
    if length products == length elements && list_all (is_one_of elements) products
    then Some (map (number_of elements) products) else None

-- the only item of a list; none where there is no item, or more than one
abbrev pub only_one : {A : Type 0} → List A → Option A
only_one [] = None
only_one (x ∷ []) = Some x
only_one (x ∷ y ∷ xs) = None

-- the item of an option as a list
abbrev pub option_list : {A : Type 0} → Option A → List A
option_list None = []
option_list (Some x) = x ∷ []

abbrev pub numbers_if : List (List ℕ) → Option (List (List ℕ)) → Option (List ℕ)
numbers_if elements None = None
numbers_if elements (Some products) = numbers_in elements products

-- the numbers of the products of an element, which has one line
abbrev pub row_of : List PartTree → TableTree → List ℕ → Option (List ℕ)
row_of parts table element = numbers_if table.elements (only_one (products_of parts table.name element))

-- the products by the numbers of the elements, element by element
abbrev pub products_by_number : List PartTree → TableTree → PlainTable
products_by_number parts table = record {
  size = length table.elements;
  unit = number_of table.elements table.unit;
  cells = flat_map (λ element. unwrap_or (row_of parts table element) []) table.elements;
}

abbrev pub named_table : List PartTree → TableTree → NamedTable
named_table parts table = record {
  name = table.name;
  elements = table.elements;
  products = products_by_number parts table;
}
