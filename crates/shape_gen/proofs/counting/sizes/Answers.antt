use Rattle.std.proofs.Common.{arith}
use Rattle.shape_gen.proofs.Counts.{candidates_of_ends-length, candidates_of_ends-marks}
use Rattle.shape_gen.proofs.Counts.{candidates_of_segments-length, candidates_of_segments-marks}
use Rattle.shape_gen.proofs.counting.sizes.Goals as goal

pub returns-in-Prefixes-clause-candidates : goal.returns-in-Prefixes-clause-candidates
returns-in-Prefixes-clause-candidates c =
    let count = candidates_of_ends-length c.args.shape c.args.rows c.args.labels c.in-Prefixes.is in omega
    (arith, count)

pub returns-in-Prefixes-clause-marks : goal.returns-in-Prefixes-clause-marks
returns-in-Prefixes-clause-marks c =
    let count = candidates_of_ends-marks c.args.shape c.args.rows c.args.labels c.in-Prefixes.is in omega (arith, count)

pub returns-in-Segments-clause-candidates : goal.returns-in-Segments-clause-candidates
returns-in-Segments-clause-candidates c =
    rw c.in-Segments.is (let count = candidates_of_segments-length c.args.rows c.args.labels in omega (arith, count))

pub returns-in-Segments-clause-marks : goal.returns-in-Segments-clause-marks
returns-in-Segments-clause-marks c =
    rw c.in-Segments.is (let count = candidates_of_segments-marks c.args.rows c.args.labels in omega (arith, count))
