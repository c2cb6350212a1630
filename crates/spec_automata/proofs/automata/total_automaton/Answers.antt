use Rattle.std.proofs.Common.{◌≡◌, map, sym, ap, subst, arith}
use Rattle.std.specs.Prelude.{option_map}
use Rattle.auto_monoid.specs.Auto.{PlainAuto, IsAuto}
use Rattle.gta_spec.specs.Parts.{part_tree, automaton_tree}
use Rattle.spec_automata.specs.declared.fault.AutomataFault.TheVariants.{NotTotal}
use Rattle.spec_automata.specs.Automata.{automaton_of}
use Rattle.spec_automata.proofs.Total.{total-IsAuto, auto_same}
use Rattle.spec_automata.proofs.automata.total_automaton.Goals as goal

pub returns-in-Total : goal.returns-in-Total
returns-in-Total c =
    let parts = map part_tree c.args.parts.now in
    let automaton = automaton_tree c.args.automaton.now in
    let total = rw c.in-Total.is at c.in_ok-moves.ensures in
    let made : PlainAuto = record {
      states = c.len.result;
      start = c.number_in.result;
      letters = c.len-in-Total.result;
      moves = c.in-Total.moves.items;
    } in
    let same : made ≡ automaton_of parts automaton =
    auto_same parts automaton c.len.result c.number_in.result c.len-in-Total.result c.in-Total.moves.items
    (omega (arith, c.len.ensures)) (rw c.as_slice.ensures.value at c.number_in.ensures.number)
    (omega (arith, c.len-in-Total.ensures)) total.1 in (
      ap (option_map (NotTotal automaton.name)) total.0,
      same,
      subst IsAuto (sym same) (total-IsAuto parts automaton c.requires.ready total.0),
    )
