use Rattle.std.proofs.Common.{◌++◌, [], drop}
use Rattle.gta_canonical.specs.Canonical.{line_text, fronts, item_front}
use Rattle.gta_canonical.proofs.Fronts.{Written}
use Rattle.gta_canonical.proofs.printing.put_items.Given as goal

abbrev pub invariant-loop-item : goal.invariant-loop-item
invariant-loop-item l = Written item_front l.out.items (drop l.item-index l.items)
    (l.initial.out.items ++ line_text (fronts item_front l.items []))
