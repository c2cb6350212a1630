use Rattle.std.proofs.Common.{pos, to_z, of_z, w64, FitsSigned, get_or, rules, ◌∙◌, arith}
use Rattle.std.proofs.lemmas.Int.{to_z-of_z}
use Rattle.lane_rows.specs.MaxLanes.{raised}
use Rattle.lane_rows.proofs.MaxLanes.{raised-read}
use Rattle.lane_rows.proofs.Zips.{zip2-more}
use Rattle.lane_rows.proofs.max_lanes.lift_max.Goals as goal

pub loop-i-preserved : goal.loop-i-preserved
loop-i-preserved c =
    let i = c.loop-i.i in
    let x = get_or c.loop-i.into i (pos 0) in
    let y = get_or c.args.from.now i (pos 0) in
    let x_fits : FitsSigned w64 x = search rules in
    let y_fits : FitsSigned w64 y = search rules in
    let fits : FitsSigned w64 c.raised.result = search rules in
    zip2-more (raised (to_z w64 (of_z w64 c.args.weight))) i c.args.into.now c.loop-i.into c.args.from.now (pos 0)
    (pos 0) _
    c.requires.same_length (omega arith) c.loop-i.invariant
    (to_z-of_z w64 c.raised.result fits ∙ c.raised.ensures
    ∙ raised-read (to_z w64 (of_z w64 c.args.weight)) x y x_fits y_fits)
