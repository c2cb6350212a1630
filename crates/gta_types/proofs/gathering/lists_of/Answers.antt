use Rattle.std.proofs.Common.{◌≡◌, Bor, map, refl, sym, ap, ◌∙◌}
use Rattle.std.proofs.lemmas.Simd.{map-map}
use Rattle.gta_spec.specs.declared.parts.AutomatonPart.{AutomatonPart}
use Rattle.gta_spec.specs.Parts.{automaton_tree, part_tree}
use Rattle.spec_automata.specs.Automata.{automata_in}
use Rattle.gta_types.specs.Resolved.{automaton_names}
use Rattle.gta_types.proofs.gathering.lists_of.Goals as goal

pub returns-clause-names : goal.returns-clause-names
returns-clause-names c =
    let lines = c.in_ok-columns.field-0.automata.items in
    let gathered = c.in_ok-columns.ensures in
    let automata : map (λ (line : Bor AutomatonPart). automaton_names (automaton_tree line.now)) lines
    ≡ map automaton_names (automata_in (map part_tree c.args.parts.now)) =
    sym (map-map automaton_names (λ (line : Bor AutomatonPart). automaton_tree line.now) lines)
    ∙ ap (map automaton_names) gathered.automata in
    rw (gathered.columns, gathered.labels, gathered.measures, gathered.tests, automata, c.requires.tables) refl
