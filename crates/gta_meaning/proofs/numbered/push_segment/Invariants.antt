use Rattle.std.proofs.Common.{◌≡◌, ◌-◌, ◌<◌, ◌++◌, [], length}
use Rattle.std.specs.Prelude.{slice_index_or}
use Rattle.shape_gen.specs.Candidates.{segments}
use Rattle.gta_meaning.proofs.numbered.push_segment.Given as goal

abbrev pub invariant-loop-first : goal.invariant-loop-first
invariant-loop-first l = record {
  in_range : l.number < length (segments l.first (l.rows - l.first));
  so_far : l.fn.marks.items ++ slice_index_or (segments 0 l.rows) l.fn.number []
      ≡ l.marks.items ++ slice_index_or (segments l.first (l.rows - l.first)) l.number [];
}
