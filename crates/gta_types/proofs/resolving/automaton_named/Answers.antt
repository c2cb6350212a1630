use Rattle.std.proofs.Common.{◌≡◌, Bor, sym, ap, arith}
use Rattle.gta_spec.specs.declared.parts.AutomatonPart.{AutomatonPart}
use Rattle.gta_spec.specs.Parts.{automaton_tree}
use Rattle.spec_automata.specs.Ready.{IsReadyAutomaton}
use Rattle.gta_types.specs.Resolved.{AutomatonNames, automaton_names}
use Rattle.gta_types.proofs.Automata.{named_here, none_named_more, one_of_all}
use Rattle.gta_types.proofs.resolving.automaton_named.Goals as goal

abbrev names : Bor AutomatonPart → AutomatonNames
names line = automaton_names (automaton_tree line.now)

pub returns-then-eq-clause-ready : goal.returns-then-eq-clause-ready
returns-then-eq-clause-ready c =
    let ready = rw (sym c.as_slice-automaton-items.ensures.value) at c.args.lists.now.automata_ready in
    one_of_all IsReadyAutomaton (λ (line : Bor AutomatonPart). automaton_tree line.now)
    c.as_slice-automaton-items.result.now c.loop-automaton.automaton-index c.automaton-item.result ready
    (omega arith) c.automaton-item.is

pub returns-then-eq-clause-named : goal.returns-then-eq-clause-named
returns-then-eq-clause-named c =
    let hit = rw (c.bytes.ensures, c.bytes-in-loop-automaton.ensures) at c.if-eq.ensures in
    sym (rw c.as_slice-automaton-items.ensures.value at
    (named_here names c.args.name.now c.as_slice-automaton-items.result.now c.loop-automaton.automaton-index
    c.automaton-item.result (omega arith) c.automaton-item.is c.loop-automaton.invariant (sym hit)))

pub loop-automaton-preserved : goal.loop-automaton-preserved
loop-automaton-preserved c =
    let other = rw (c.bytes.ensures, c.bytes-in-loop-automaton.ensures) at c.if-eq.ensures in
    none_named_more names c.args.name.now c.as_slice-automaton-items.result.now c.loop-automaton.automaton-index
    c.automaton-item.result (omega arith) c.automaton-item.is c.loop-automaton.invariant (sym other)
