use Rattle.std.proofs.Common.{Bor}
use Rattle.gta_spec.specs.declared.parts.AutomatonPart.{AutomatonPart}
use Rattle.spec_tables.proofs.NumberOf.{number_at_mapped}
use Rattle.gta_types.proofs.resolving.automaton_number.Goals as goal

pub returns-then-eq : goal.returns-then-eq
returns-then-eq c =
    let hit = rw (c.bytes.ensures, c.bytes-in-loop-number.ensures) at c.if-eq.ensures in
    number_at_mapped (λ (line : Bor AutomatonPart). line.now.name) c.args.automata.now c.args.name.now
    c.loop-number.number c.index-automata-number.result c.loop-number.invariant c.loop-number-test.true
    c.index-automata-number.is hit
