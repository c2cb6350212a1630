use Rattle.std.proofs.Common.{◌≡◌, ◌++◌, ◌∷◌, [], map, append_assoc}
use Rattle.std.proofs.lemmas.List.{append-nil}
use Rattle.std.specs.Prelude.{codes}
use Rattle.gta_spec.specs.Symbols.{Word}
use Rattle.gta_spec.specs.Parts.{pick_tree}
use Rattle.gta_canonical.specs.Canonical.{spaced, line_text, names_front, picks_front}
use Rattle.gta_canonical.proofs.Fronts.{picked_splits, joined}
use Rattle.gta_canonical.proofs.part_printing.put_picked.Goals as goal

pub returns : goal.returns
returns c =
    let picks = map pick_tree c.args.picks.now in
    let first : c.put_picks.new.out.items ≡ c.args.out.now.items ++ line_text
    (spaced (Word c.args.name.now) ∷ spaced (Word (codes "by")) ∷ picks_front picks []) =
    rw (c.in_ok-put_picks.ensures, c.in_ok-put_spaced.ensures, c.in_ok-put_name.ensures)
    (simp (append_assoc, append-nil)) in
    joined c.put_listed.result c.args.out.now.items c.put_picks.new.out.items c.put_listed.new.out.items _ _ _
    c.put_listed.ensures first
    (picked_splits c.args.name.now picks (spaced (Word (codes "accept")) ∷ names_front c.args.accept.now []))
