use Rattle.gta_checked.specs.declared.resolved.Table.{Table}
use Rattle.spec_tables.proofs.NumberOf.{number_at_mapped}
use Rattle.gta_types.proofs.resolving.table_number.Goals as goal

pub returns-then-eq : goal.returns-then-eq
returns-then-eq c =
    let hit = rw (c.bytes.ensures, c.bytes-in-loop-number.ensures) at c.if-eq.ensures in
    number_at_mapped (λ (table : Table). table.name) c.args.tables.now c.args.name.now c.loop-number.number
    c.index-tables-number.result c.loop-number.invariant c.loop-number-test.true c.index-tables-number.is hit
