use Rattle.std.proofs.Common.{arith}
use Rattle.lane_rows.proofs.DenseRows.{single-shown}
use Rattle.lane_rows.proofs.dense_kit.DenseKitMapKit.single.Goals as goal

pub returns-clause-value : goal.returns-clause-value
returns-clause-value g c k =
    let kit = c.args.self.now.kit in
    let size = c.in_ok-row.ensures.fits.has_size in
    let key_in = c.requires.key_is_element in
    single-shown (g.met.S.Semiring.laws kit) (g.S.Lanes.is_lane kit) (g.S.Lanes.shows kit) c.in_ok-row.row.items
    c.args.key c.lane_of.result
    c.args.elem k (omega arith) c.lane_of.ensures.shows c.in_ok-row.ensures.value
