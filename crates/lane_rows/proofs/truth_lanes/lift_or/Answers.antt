use Rattle.std.proofs.Common.{◌≤◌, get_or, subst, sym, ◌∙◌, arith}
use Rattle.lane_rows.specs.TruthLanes.{either}
use Rattle.lane_rows.proofs.Zips.{zip2-here, zip2-more}
use Rattle.lane_rows.proofs.TruthLanes.{max-either}
use Rattle.lane_rows.proofs.truth_lanes.lift_or.Goals as goal

pub loop-i-preserved : goal.loop-i-preserved
loop-i-preserved c =
    let i = c.loop-i.i in
    let here = zip2-here either i c.args.into.now c.loop-i.into c.args.from.now 0 c.requires.same_length (omega arith)
    c.loop-i.invariant in
    let into_bit = subst (λ lane. lane ≤ 1) (sym here) (c.requires.into_are_bits i 0 (omega arith)) in
    zip2-more either i c.args.into.now c.loop-i.into c.args.from.now 0 0 _
    c.requires.same_length (omega arith) c.loop-i.invariant
    (c.max.ensures ∙ max-either (get_or c.loop-i.into i 0) (get_or c.args.from.now i 0) into_bit
    (let same = c.requires.same_length in c.requires.from_are_bits i 0 (omega arith)))
