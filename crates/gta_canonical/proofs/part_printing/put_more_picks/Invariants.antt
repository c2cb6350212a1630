use Rattle.std.proofs.Common.{◌++◌, [], drop, map}
use Rattle.gta_spec.specs.Parts.{pick_tree}
use Rattle.gta_canonical.specs.Canonical.{line_text, fronts, next_pick_front}
use Rattle.gta_canonical.proofs.Fronts.{Written}
use Rattle.gta_canonical.proofs.part_printing.put_more_picks.Given as goal

abbrev pub invariant-loop-pick : goal.invariant-loop-pick
invariant-loop-pick l = Written next_pick_front l.out.items (map pick_tree (drop l.pick-index l.picks))
    (l.initial.out.items ++ line_text (fronts next_pick_front (map pick_tree l.picks) []))
