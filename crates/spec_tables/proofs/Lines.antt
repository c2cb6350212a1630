-- The lines of one table among all lines, and the products that they give its elements.
use Rattle.std.proofs.Common.{◌≡◌, ℕ, ◌+◌, ◌<◌, ◌&&◌, true, false, List, [], ◌∷◌, ◌++◌, map, length, take, drop}
use Rattle.std.proofs.Common.{get_or, cond, refl, ap, ◌∙◌}
use Rattle.std.specs.Str.{bytes_eq}
use Rattle.std.proofs.lemmas.List.{append-nil, map-append}
use Rattle.std.proofs.lemmas.Grind.{flat_map-append}
use Rattle.gta_spec.specs.Parts.{PartTree, TimesTree, KindTree, Columns, Labels, Measure, Table, Times, Automaton}
use Rattle.gta_spec.specs.Parts.{Step, Generate, Test, Named, Keep, Aggregate, TableTree}
use Rattle.spec_tables.proofs.Fronts.{split_at}
use Rattle.spec_tables.specs.Tables.{numbers_if, only_one, products_of, products_on, row_of}
use Rattle.spec_tables.specs.Lines.{line_of, lines_of, products_by, products_for, row_on}

-- a line gives the same products among its table's as among all
of_one : (table element : List ℕ) (kind : KindTree)
    → products_for element (line_of table kind) ≡ products_on table element kind
of_one table element (Times part) =
    elim (bytes_eq part.table table) as (λ t. products_for element (cond t (part ∷ []) [])
    ≡ cond (t && bytes_eq part.element element) (part.products ∷ []) []) [
      | true ↦ append-nil (products_by element part)
      | false ↦ refl
    ]
of_one table element (Columns items) = refl
of_one table element (Labels names) = refl
of_one table element (Measure part) = refl
of_one table element (Table part) = refl
of_one table element (Automaton part) = refl
of_one table element (Step part) = refl
of_one table element (Generate shape) = refl
of_one table element (Test test) = refl
of_one table element (Named name test) = refl
of_one table element (Keep keep) = refl
of_one table element (Aggregate goal) = refl

products_for-lines_of : (table element : List ℕ) (parts : List PartTree)
    → products_for element (lines_of parts table) ≡ products_of parts table element
products_for-lines_of table element [] = refl
products_for-lines_of table element (part ∷ parts) =
    flat_map-append (products_by element) (line_of table part.kind) (lines_of parts table)
    ∙ rw (of_one table element part.kind, products_for-lines_of table element parts) refl

-- the row on a table's lines is its row
pub row_on-lines_of : (lines : List TimesTree) (parts : List PartTree) (table : TableTree) (element : List ℕ)
    → lines ≡ lines_of parts table.name → row_on lines table element ≡ row_of parts table element
row_on-lines_of lines parts table element is =
    ap (λ (ps : List (List (List ℕ))). numbers_if table.elements (only_one ps))
    (ap (products_for element) is ∙ products_for-lines_of table.name element parts)

module _ {A : Type 0} (tree : A → TimesTree) (element : List ℕ) (lines : List A) (i : ℕ) (d : A)
    (below : i < length lines) (is : d ≡ get_or lines i d) where
  -- the lines before a line, the line, and those behind it
  pub products_for-split : products_for element (map tree lines)
      ≡ products_for element (map tree (take i lines))
      ++ (products_by element (tree d) ++ products_for element (map tree (drop (i + 1) lines)))
  products_for-split =
      ap (λ (ls : List A). products_for element (map tree ls)) (split_at lines i d below is)
      ∙ ap (products_for element) (map-append tree (take i lines) (d ∷ drop (i + 1) lines))
      ∙ flat_map-append (products_by element) (map tree (take i lines)) (map tree (d ∷ drop (i + 1) lines))
