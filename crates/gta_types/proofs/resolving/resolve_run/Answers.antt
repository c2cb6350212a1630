use Rattle.std.proofs.Common.{◌≡◌, Bor, map, refl}
use Rattle.std.proofs.lemmas.Simd.{map-map}
use Rattle.gta_spec.specs.declared.parts.AutomatonPart.{AutomatonPart}
use Rattle.gta_spec.specs.Parts.{automaton_tree}
use Rattle.spec_tables.specs.Tables.{number_of}
use Rattle.gta_types.specs.Resolved.{AutomatonNames, automaton_names, automaton_named, letters_listed, states_listed}
use Rattle.gta_types.specs.Lists.{environment_of}
use Rattle.gta_types.proofs.resolving.resolve_run.Goals as goal

pub returns : goal.returns
returns c =
    let lists = c.args.lists.now in
    let lines = lists.automata.items in
    let number : c.automaton_number.result
    ≡ number_of (map (λ (line : Bor AutomatonPart). line.now.name) lines) c.args.name.now =
    rw c.as_slice.ensures.value at c.automaton_number.ensures in
    let named = c.automaton_named-automaton.ensures.named in
    let letters : c.letters_of.result.now
    ≡ letters_listed (automaton_named (environment_of lists).automata c.args.name.now) =
    rw named at c.letters_of.ensures.letters in
    let states : c.states_of.result.now
    ≡ states_listed (automaton_named (environment_of lists).automata c.args.name.now) =
    rw named at c.states_of.ensures.states in
    let names : map (λ (a : AutomatonNames). a.name)
    (map (λ (line : Bor AutomatonPart). automaton_names (automaton_tree line.now)) lines)
    ≡ map (λ (line : Bor AutomatonPart). line.now.name) lines =
    map-map (λ (a : AutomatonNames). a.name)
    (λ (line : Bor AutomatonPart). automaton_names (automaton_tree line.now)) lines in
    let picks = rw letters at c.in_ok-resolve_picks.ensures in
    let accept = rw states at c.in_ok-numbers_of.ensures in
    rw (names, number, picks, accept) refl
