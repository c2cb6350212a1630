use Rattle.std.proofs.Common.{◌≡◌, None, map, take}
use Rattle.std.specs.List.{filter_map}
use Rattle.gta_spec.specs.Parts.{part_tree}
use Rattle.gta_checked.specs.Plain.{plain_named}
use Rattle.spec_tables.specs.Tables.{named_table, tables_in}
use Rattle.spec_tables.specs.Faults.{fault_of, first_told}
use Rattle.spec_tables.proofs.tables.checked_tables.Given as goal

abbrev pub invariant-loop-part : goal.invariant-loop-part
invariant-loop-part l = record {
  told : l.first
      ≡ first_told (filter_map (fault_of (map part_tree l.parts))
      (tables_in (map part_tree (take l.part-index l.parts))));
  tables : l.first ≡ None → map plain_named l.tables.items
      ≡ map (named_table (map part_tree l.parts)) (tables_in (map part_tree (take l.part-index l.parts)));
}
