use Rattle.std.proofs.Common.{◌≡◌, ◌++◌, map}
use Rattle.std.specs.Vec.Iter.{into_iter_items}
use Rattle.fuse_answer.specs.Ranks.{printed}
use Rattle.fuse_answer.proofs.best_ranked.as_printed.Given as goal

abbrev pub invariant-loop-entry : goal.invariant-loop-entry
invariant-loop-entry l = record {
  can_next : (goal.iterator-loop-entry).can_next l.entry-iterator;
  is_finite : (goal.iterator-loop-entry).is_finite l.entry-iterator;
  rest : l.fn.best ≡ l.yielded ++ into_iter_items l.entry-iterator;
  so_far : l.all.items ≡ map (printed l.ranks) l.yielded;
}
