use Rattle.std.proofs.Common.{◌+◌, take, subst, sym, arith}
use Rattle.monoid_kit.proofs.Items.{IsIn-read}
use Rattle.key_map.specs.Slots.{FitsSlots}
use Rattle.key_map.proofs.Merges.{fits-more, fits-all}
use Rattle.key_map.proofs.collect.SparseKitCollect.ascend.Goals as goal

pub loop-slot-preserved : goal.loop-slot-preserved
loop-slot-preserved g c =
    let slot = c.slot-item.result in
    let slot_in = IsIn-read c.args.slots.now c.loop-slot.slot-index slot c.loop-slot-test.true c.slot-item.is in
    let key_in = c.requires.keys slot slot_in in
    record {
      within = omega (arith, key_in);
      fits = subst (λ top. FitsSlots (g.S.Semiring.ring c.args.self.now.kit) 0 (top + 1)
          (take (c.loop-slot.slot-index + 1) c.args.slots.now)) (sym c.from-low.ensures)
          (fits-more (g.met.S.Semiring.laws c.args.self.now.kit) c.loop-slot.low c.args.slots.now
          c.loop-slot.slot-index slot
          c.loop-slot-test.true c.slot-item.is c.loop-slot.invariant.fits (omega arith)
          (c.requires.elems slot slot_in));
    }

pub returns : goal.returns
returns g c =
    fits-all (g.met.S.Semiring.laws c.args.self.now.kit) c.loop-slot.low (g.M.Monoid.size c.args.self.now.keys)
    c.args.slots.now
    c.loop-slot.slot-index c.loop-slot-test.false c.loop-slot.invariant.within c.loop-slot.invariant.fits
