use Rattle.std.proofs.Common.{arith}
use Rattle.shape_gen.proofs.Counts.{sublists-length-more, sublists-marks-more}
use Rattle.shape_gen.proofs.counting.sublist_extent.Goals as goal

pub loop-row-preserved : goal.loop-row-preserved
loop-row-preserved c =
    let lengths = sublists-length-more c.loop-row.row in
    let marks = sublists-marks-more c.loop-row.row in
    record { candidates = omega (arith, lengths); marks = omega (arith, marks) }
