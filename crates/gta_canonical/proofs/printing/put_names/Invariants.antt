use Rattle.std.proofs.Common.{◌++◌, [], drop}
use Rattle.gta_canonical.specs.Canonical.{line_text, fronts, name_front}
use Rattle.gta_canonical.proofs.Fronts.{Written}
use Rattle.gta_canonical.proofs.printing.put_names.Given as goal

abbrev pub invariant-loop-name : goal.invariant-loop-name
invariant-loop-name l = Written name_front l.out.items (drop l.name-index l.names)
    (l.initial.out.items ++ line_text (fronts name_front l.names []))
