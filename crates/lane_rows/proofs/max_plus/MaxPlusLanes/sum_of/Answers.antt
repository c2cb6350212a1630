use Rattle.std.proofs.Common.{FitsSigned, w64, ap, ◌∙◌, rules}
use Rattle.std.proofs.lemmas.Int.{to_z-of_z}
use Rattle.lane_rows.specs.MaxLanes.{weight_of_lane}
use Rattle.lane_rows.proofs.MaxLanes.{goods-IsWithin, greatest-total}
use Rattle.lane_rows.proofs.max_plus.MaxPlusLanes.sum_of.Goals as goal

pub returns-clause-shows : goal.returns-clause-shows
returns-clause-shows c =
    let fits : FitsSigned w64 c.greatest.result = search rules in
    ap weight_of_lane (to_z-of_z w64 c.greatest.result fits ∙ c.greatest.ensures)
    ∙ greatest-total c.args.lanes.now (goods-IsWithin c.args.lanes.now c.requires)
