use Rattle.std.proofs.Common.{◌≡◌, ◌≤◌, length}
use Rattle.auto_monoid.specs.AutoOf.{plain_auto}
use Rattle.auto_monoid.specs.Numbering.{discovered}
use Rattle.auto_monoid.proofs.Found.{IsClosedTo}
use Rattle.auto_monoid.proofs.discovery.discover.Given as goal

abbrev pub invariant-loop-element : goal.invariant-loop-element
invariant-loop-element l = record {
  so_far : l.functions.items ≡ discovered (plain_auto l.auto') l.element;
  closed : IsClosedTo (plain_auto l.auto') l.element l.functions.items;
  reached : l.element ≤ length l.functions.items;
  few : length l.functions.items ≤ 64;
}
