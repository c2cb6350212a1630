use Rattle.std.proofs.Common.{All, subst, sym, arith}
use Rattle.lane_rows.specs.TruthLanes.{IsBit}
use Rattle.lane_rows.proofs.TruthLanes.{lifted-are_bits, lifted-truth, unlifted-truth}
use Rattle.lane_rows.proofs.truth_lanes.TruthLanes.lift.Goals as goal

pub returns-then-by-eq0-clause-values : goal.returns-then-by-eq0-clause-values
returns-then-by-eq0-clause-values c =
    unlifted-truth c.args.by c.args.into.now c.args.from.now c.if-by-eq0.true c.requires.same_length

pub returns-clause-are_lanes : goal.returns-clause-are_lanes
returns-clause-are_lanes c = subst (All IsBit) (sym c.lift_or.ensures) (lifted-are_bits c.args.into.now c.args.from.now)

pub returns-clause-values : goal.returns-clause-values
returns-clause-values c =
    let bit = c.requires.by_is_good.sound in
    let some = c.if-by-eq0.false in
    lifted-truth c.args.by c.args.into.now c.args.from.now c.lift_or.new.into (omega arith) c.lift_or.ensures
