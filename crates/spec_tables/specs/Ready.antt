-- What the lines of tables are known to keep before their products are looked at.
use Rattle.std.specs.Prelude.{◌≡◌, ◌≤◌, true, length}
use Rattle.monoid_kit.specs.declared.table.TheConstants.{GREATEST_TABLE}
use Rattle.gta_spec.specs.Parts.{TableTree}
use Rattle.spec_tables.specs.Tables.{is_one_of}

-- there are some elements and not too many, and the unit is one of them
pub record IsReadyTable (table : TableTree) : Type 0 where
  pub some : 1 ≤ length table.elements
  pub few : length table.elements ≤ GREATEST_TABLE
  pub unit : is_one_of table.elements table.unit ≡ true
