use Rattle.lane_rows.proofs.DenseRows.{none-shown, filled-replicate}
use Rattle.lane_rows.proofs.dense_kit.DenseKitMapKit.none.Goals as goal

pub returns-clause-value : goal.returns-clause-value
returns-clause-value g c k =
    let kit = c.args.self.now.kit in
    none-shown (g.met.S.Semiring.laws kit) (g.S.Lanes.is_lane kit) (g.S.Lanes.shows kit) c.absent.result c.size.result
    c.resize.new.self.items k c.absent.ensures.zero
    (filled-replicate c.new-row.result.items c.resize.new.self.items c.size.result _ c.absent.result
    c.new-row.ensures.items c.new-row.ensures.len c.in_ok-resize.ensures.items)
