use Rattle.std.proofs.Common.{subst}
use Rattle.monoid_kit.specs.Items.{IsIn}
use Rattle.monoid_kit.proofs.Items.{IsIn-read}
use Rattle.key_map.proofs.Slots.{fits-good}
use Rattle.key_map.proofs.sparse_kit.SparseKitMapKit.copy.Goals as goal

pub copy_slot-requires : goal.copy_slot-requires
copy_slot-requires g c =
    let slot = c.slot-item.result in
    fits-good (g.S.Semiring.ring c.args.self.now.kit) 0 (g.M.Monoid.size c.args.self.now.keys) c.args.map.now.items
    c.requires slot
    (subst (IsIn slot) c.deref-slot-items.ensures.value
    (IsIn-read c.deref-slot-items.result.now c.loop-slot.slot-index slot c.loop-slot-test.true c.slot-item.is))
