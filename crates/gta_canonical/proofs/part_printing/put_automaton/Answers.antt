use Rattle.std.proofs.Common.{◌≡◌, ◌++◌, ◌∷◌, [], append_assoc}
use Rattle.std.proofs.lemmas.List.{append-nil}
use Rattle.std.specs.Prelude.{codes}
use Rattle.gta_spec.specs.Symbols.{Later, Word}
use Rattle.gta_spec.specs.Parts.{automaton_tree, Automaton}
use Rattle.gta_canonical.specs.Canonical.{spaced, line_text, names_front, kind_front}
use Rattle.gta_canonical.proofs.Fronts.{names_splits, started_front, started_splits, joined}
use Rattle.gta_canonical.proofs.part_printing.put_automaton.Goals as goal

pub returns : goal.returns
returns c =
    let part = c.args.part.now in
    let first : c.put_name-2.new.out.items
    ≡ c.args.out.now.items ++ line_text (started_front part.name part.states.items part.start []) =
    rw (
      c.in_ok-put_name-2.ensures,
      c.in_ok-put_spaced.ensures,
      c.in_ok-put_listed.ensures,
      c.in_ok-put_name.ensures,
      c.in_ok-extend_from_slice.ensures.items,
      c.deref.ensures.value,
      names_splits part.states.items (spaced (Later (codes "start")) ∷ spaced (Word part.start) ∷ []),
    )
    (simp (append_assoc, append-nil)) in
    let parts : line_text (kind_front (Automaton (automaton_tree part)) [])
    ≡ line_text (started_front part.name part.states.items part.start [])
    ++ line_text (spaced (Word (codes "letters")) ∷ names_front c.deref-2.result.now []) =
    rw c.deref-2.ensures.value
    (started_splits part.name part.states.items part.start
    (spaced (Later (codes "letters")) ∷ names_front part.letters.items [])) in
    joined c.put_listed-2.result c.args.out.now.items c.put_name-2.new.out.items c.put_listed-2.new.out.items _ _ _
    c.put_listed-2.ensures first parts
