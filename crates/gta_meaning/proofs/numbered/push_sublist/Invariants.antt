use Rattle.std.proofs.Common.{◌≡◌, ◌-◌, ◌<◌, ◌++◌, [], length}
use Rattle.std.specs.Prelude.{slice_index_or}
use Rattle.shape_gen.specs.Candidates.{sublists}
use Rattle.gta_meaning.proofs.numbered.push_sublist.Given as goal

abbrev pub invariant-loop-row : goal.invariant-loop-row
invariant-loop-row l = record {
  behind : l.behind ≡ length (sublists l.row (l.rows - l.row));
  in_range : l.number < l.behind;
  so_far : l.fn.marks.items ++ slice_index_or (sublists 0 l.rows) l.fn.number []
      ≡ l.marks.items ++ slice_index_or (sublists l.row (l.rows - l.row)) l.number [];
}
