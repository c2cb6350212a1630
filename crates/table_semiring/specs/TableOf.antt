-- The tables that semirings, and tables still to be checked, hold.
use Rattle.table_semiring.specs.declared.table.RawSemiring.{RawSemiring}
use Rattle.table_semiring.specs.declared.table.TableSemiring.{TableSemiring}
use Rattle.table_semiring.specs.Table.{PlainRaw}

-- the tables that the semiring is given by
abbrev pub plain_table : TableSemiring → PlainRaw
plain_table kit = record { size = kit.size; zero = kit.zero; one = kit.one; plus = kit.plus; mult = kit.mult }

-- the tables that are still to be checked
abbrev pub plain_raw : RawSemiring → PlainRaw
plain_raw raw = record { size = raw.size; zero = raw.zero; one = raw.one; plus = raw.plus.items; mult = raw.mult.items }
