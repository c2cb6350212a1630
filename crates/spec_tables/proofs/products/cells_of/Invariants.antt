use Rattle.std.proofs.Common.{◌≡◌, [], None, map, take}
use Rattle.std.specs.Prelude.{not, is_some, unwrap_or}
use Rattle.std.specs.List.{find, flat_map}
use Rattle.gta_spec.specs.Parts.{part_tree, table_tree}
use Rattle.spec_tables.specs.Tables.{row_of}
use Rattle.spec_tables.proofs.products.cells_of.Given as goal

abbrev pub invariant-loop-number : goal.invariant-loop-number
invariant-loop-number l = record {
  square : find (λ element. not (is_some (row_of (map part_tree l.parts) (table_tree l.table) element)))
      (take l.number l.table.elements.items) ≡ None;
  so_far : l.cells.items
      ≡ flat_map (λ element. unwrap_or (row_of (map part_tree l.parts) (table_tree l.table) element) [])
      (take l.number l.table.elements.items);
}
