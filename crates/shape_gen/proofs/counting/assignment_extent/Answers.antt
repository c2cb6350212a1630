use Rattle.std.proofs.Common.{arith, refl, ◌∙◌, ◌≡◌, ◌+◌, length, min}
use Rattle.shape_gen.specs.Candidates.{assignments}
use Rattle.shape_gen.specs.Extents.{mark_count}
use Rattle.shape_gen.specs.declared.counting.TheConstants.{EXTENT_CAP}
use Rattle.shape_gen.proofs.Counts.{assignments-length-more, assignments-marks-more, cut-product}
use Rattle.shape_gen.proofs.counting.assignment_extent.Goals as goal

pub loop-row-preserved : goal.loop-row-preserved
loop-row-preserved c =
    let labels = c.args.labels in
    let count = length (assignments labels 0 c.loop-row.row) in
    let marks = mark_count (assignments labels 0 c.loop-row.row) in
    let longer : c.saturating_add.result ≡ min (marks + count) EXTENT_CAP =
    omega (arith, c.saturating_add.ensures, c.loop-row.invariant.marks, c.loop-row.invariant.candidates) in
    let multiplied = rw c.from-labels.ensures at c.saturating_mul-candidates.ensures in
    let multiplied_marks = rw c.from-labels.ensures at c.saturating_mul-marks.ensures in
    record {
      candidates =
          multiplied
          ∙ cut-product EXTENT_CAP labels count c.loop-row.candidates c.requires.some_label
          c.loop-row.invariant.candidates
          ∙ rw (assignments-length-more labels c.loop-row.row) refl;
      marks =
          multiplied_marks
          ∙ cut-product EXTENT_CAP labels (marks + count) c.saturating_add.result c.requires.some_label longer
          ∙ rw (assignments-marks-more labels c.loop-row.row) refl;
    }
