-- The tables that monoids, and tables still to be checked, hold.
use Rattle.monoid_kit.specs.declared.table.RawTable.{RawTable}
use Rattle.monoid_kit.specs.declared.table.TableMonoid.{TableMonoid}
use Rattle.monoid_kit.specs.Table.{PlainTable}

-- the table that the monoid is given by
abbrev pub plain_table : TableMonoid → PlainTable
plain_table monoid = record { size = monoid.size; unit = monoid.unit; cells = monoid.cells }

-- the table that is still to be checked
abbrev pub plain_raw : RawTable → PlainTable
plain_raw raw = record { size = raw.size; unit = raw.unit; cells = raw.cells.items }
