use Rattle.std.proofs.Common.{subst, sym, ◌∙◌}
use Rattle.semiring_kit.specs.Semiring.{IsGood}
use Rattle.semiring_kit.proofs.Sums.{one_is_good}
use Rattle.lane_rows.proofs.DenseRows.{sum-IsLifted}
use Rattle.lane_rows.proofs.lift.DenseKitLift.add_row.Goals as goal

pub returns : goal.returns
returns g c =
    let kit = c.args.self.now.kit in
    let laws = g.met.S.Semiring.laws kit in
    let one = c.lane_of.result in
    let is = c.lane_of.ensures.shows ∙ c.in_ok-one.ensures in
    sum-IsLifted laws (g.S.Lanes.is_lane kit) (g.S.Lanes.shows kit) one c.args.row.now c.args.other.now c.lift.new.into
    (record {
      sound = c.lane_of.ensures.is_lane;
      good = subst (IsGood (g.S.Semiring.ring kit)) (sym is)
          (one_is_good laws);
    })
    is c.requires.same_length c.requires.row_is_good c.requires.other_is_good c.lift.ensures.are_lanes
    c.lift.ensures.values
