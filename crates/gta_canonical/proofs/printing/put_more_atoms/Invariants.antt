use Rattle.std.proofs.Common.{◌++◌, [], drop}
use Rattle.gta_canonical.specs.Canonical.{line_text, fronts, and_front}
use Rattle.gta_canonical.proofs.Fronts.{Written}
use Rattle.gta_canonical.proofs.printing.put_more_atoms.Given as goal

abbrev pub invariant-loop-atom : goal.invariant-loop-atom
invariant-loop-atom l = Written and_front l.out.items (drop l.atom-index l.atoms)
    (l.initial.out.items ++ line_text (fronts and_front l.atoms []))
