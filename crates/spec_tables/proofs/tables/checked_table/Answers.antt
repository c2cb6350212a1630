use Rattle.std.proofs.Common.{map}
use Rattle.gta_spec.specs.Parts.{part_tree, table_tree}
use Rattle.spec_tables.proofs.Rows.{square-IsTable}
use Rattle.spec_tables.proofs.tables.checked_table.Goals as goal

pub lawful_table-requires : goal.lawful_table-requires
lawful_table-requires c =
    let square = rw c.in-Cells.is at c.in_ok-cells.ensures in
    record {
      table = square-IsTable (map part_tree c.args.parts.now) (table_tree c.args.table.now) c.in-Cells.cells.items
          c.requires.ready square.0 square.1;
    }
