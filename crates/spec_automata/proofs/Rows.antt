-- The lines `automaton`, line by line.
use Rattle.std.proofs.Common.{◌≡◌, ℕ, ◌+◌, ◌<◌, List, [], ◌∷◌, ◌++◌, map, length, get_or, take, drop, refl, ap, ◌∙◌}
use Rattle.std.proofs.Common.{subst}
use Rattle.std.specs.List.{flat_map}
use Rattle.std.proofs.lemmas.List.{append-nil, map-append}
use Rattle.std.proofs.lemmas.Grind.{flat_map-append}
use Rattle.gta_spec.specs.declared.parts.Part.{Part}
use Rattle.gta_spec.specs.declared.parts.PartKind.{PartKind}
use Rattle.gta_spec.specs.declared.parts.PartKind.TheVariants as kinds
use Rattle.gta_spec.specs.declared.parts.AutomatonPart.{AutomatonPart}
use Rattle.gta_spec.specs.WellFormed.{EachFits}
use Rattle.gta_spec.specs.Parts.{PartTree, AutomatonTree, part_tree, kind_tree, automaton_tree}
use Rattle.spec_tables.proofs.Fronts.{map_take_next, split_at}
use Rattle.spec_automata.specs.Automata.{automaton_parts, automata_in}
use Rattle.spec_automata.specs.Ready.{IsReadyAutomaton}

on : PartTree → List AutomatonTree
on part = automaton_parts part.kind

pub automata_in-next : (parts : List Part) (i : ℕ) (d : Part) → i < length parts → d ≡ get_or parts i d
    → automata_in (map part_tree (take (i + 1) parts))
    ≡ automata_in (map part_tree (take i parts)) ++ automaton_parts (kind_tree d.kind)
unfolding on
automata_in-next parts i d below is =
    ap (flat_map on) (map_take_next part_tree parts i d below is)
    ∙ flat_map-append on (map part_tree (take i parts)) (part_tree d ∷ [])
    ∙ ap (λ ts. automata_in (map part_tree (take i parts)) ++ ts) (append-nil (automaton_parts (kind_tree d.kind)))

each_behind : (ts us : List AutomatonTree) → EachFits IsReadyAutomaton (ts ++ us) → EachFits IsReadyAutomaton us
each_behind [] us fits = fits
each_behind (t ∷ ts) us fits = each_behind ts us fits.1

pub automaton_ready : (parts : List Part) (i : ℕ) (d : Part) (automaton : AutomatonPart)
    → EachFits IsReadyAutomaton (automata_in (map part_tree parts))
    → i < length parts → d ≡ get_or parts i d → d.kind ≡ kinds.Automaton automaton
    → IsReadyAutomaton (automaton_tree automaton)
unfolding on
automaton_ready parts i d automaton fits below is is_automaton =
    let split = ap (λ (ps : List Part). automata_in (map part_tree ps)) (split_at parts i d below is)
    ∙ ap (flat_map on) (map-append part_tree (take i parts) (d ∷ drop (i + 1) parts))
    ∙ flat_map-append on (map part_tree (take i parts)) (map part_tree (d ∷ drop (i + 1) parts)) in
    let back = each_behind (automata_in (map part_tree (take i parts)))
    (automata_in (map part_tree (d ∷ drop (i + 1) parts)))
    (subst (EachFits IsReadyAutomaton) split fits) in
    let here : EachFits IsReadyAutomaton
    (automaton_tree automaton ∷ automata_in (map part_tree (drop (i + 1) parts))) = rw is_automaton at back in
    here.0

pub no_automaton_line : (kind : PartKind) → ((part : AutomatonPart) → kind ≡ kinds.Automaton part → ⊥)
    → automaton_parts (kind_tree kind) ≡ []
no_automaton_line (kinds.Columns items) other = refl
no_automaton_line (kinds.Labels names) other = refl
no_automaton_line (kinds.Measure part) other = refl
no_automaton_line (kinds.Table part) other = refl
no_automaton_line (kinds.Times part) other = refl
no_automaton_line (kinds.Automaton part) other = absurd (other part refl)
no_automaton_line (kinds.Step part) other = refl
no_automaton_line (kinds.Generate shape) other = refl
no_automaton_line (kinds.Test part) other = refl
no_automaton_line (kinds.Named name part) other = refl
no_automaton_line (kinds.Keep part) other = refl
no_automaton_line (kinds.Aggregate part) other = refl
