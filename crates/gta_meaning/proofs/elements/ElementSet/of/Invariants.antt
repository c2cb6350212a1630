use Rattle.std.proofs.Common.{◌≡◌, take, length}
use Rattle.gta_meaning.specs.Elements.{HasElements}
use Rattle.gta_meaning.proofs.elements.ElementSet.of.Given as goal

-- the flags of the elements so far are up
abbrev pub invariant-loop-element : goal.invariant-loop-element
invariant-loop-element l = record {
  count : length l.flags.items ≡ l.size;
  so_far : HasElements (take l.element-index l.elements) l.flags.items;
}
