use Rattle.std.proofs.Common.{◌≡◌, length, min}
use Rattle.shape_gen.specs.Candidates.{assignments}
use Rattle.shape_gen.specs.Extents.{mark_count}
use Rattle.shape_gen.specs.declared.counting.TheConstants.{EXTENT_CAP}
use Rattle.shape_gen.proofs.counting.assignment_extent.Given as goal

abbrev pub invariant-loop-row : goal.invariant-loop-row
invariant-loop-row l = record {
  candidates : l.candidates ≡ min (length (assignments l.fn.labels 0 l.row)) EXTENT_CAP;
  marks : l.marks ≡ min (mark_count (assignments l.fn.labels 0 l.row)) EXTENT_CAP;
}
