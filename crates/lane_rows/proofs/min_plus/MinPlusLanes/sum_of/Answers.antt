use Rattle.std.proofs.Common.{FitsSigned, w64, ap, ◌∙◌, rules}
use Rattle.std.proofs.lemmas.Int.{to_z-of_z}
use Rattle.lane_rows.specs.MaxLanes.{opposite_of_lane}
use Rattle.lane_rows.proofs.MinLanes.{opposites-IsWithin, least-total}
use Rattle.lane_rows.proofs.min_plus.MinPlusLanes.sum_of.Goals as goal

pub returns-clause-shows : goal.returns-clause-shows
returns-clause-shows c =
    let fits : FitsSigned w64 c.greatest.result = search rules in
    ap opposite_of_lane (to_z-of_z w64 c.greatest.result fits ∙ c.greatest.ensures)
    ∙ least-total c.args.lanes.now (opposites-IsWithin c.args.lanes.now c.requires)
