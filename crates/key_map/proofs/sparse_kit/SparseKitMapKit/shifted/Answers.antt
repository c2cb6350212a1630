use Rattle.std.proofs.Common.{◌<◌, ap, subst, sym, ◌∙◌, arith}
use Rattle.std.proofs.lemmas.Result.{IfOk-weaker}
use Rattle.monoid_kit.specs.Items.{IsIn}
use Rattle.monoid_kit.proofs.Items.{IsIn-read}
use Rattle.semiring_kit.specs.Semiring.{IsGood}
use Rattle.key_map.specs.Slots.{key_of, elem_of}
use Rattle.key_map.proofs.Slots.{fits-keys, fits-good}
use Rattle.key_map.proofs.Shifts.{shift-reach, shift-key, shift-good, shifting-more, shifting-all}
use Rattle.key_map.proofs.sparse_kit.SparseKitMapKit.shifted.Goals as goal

pub product-requires : goal.product-requires
product-requires g c =
    let ring = g.S.Semiring.ring c.args.self.now.kit in
    let size = g.M.Monoid.size c.args.self.now.keys in
    let map = c.args.map.now.items in
    let slot = c.slot-item.result in
    let slot_in = subst (IsIn slot) c.deref-slot-items.ensures.value
    (IsIn-read c.deref-slot-items.result.now c.loop-slot.slot-index slot c.loop-slot-test.true c.slot-item.is) in
    record {
      left_is_element = c.requires.key_is_element;
      right_is_element = fits-keys ring 0 size map c.requires.fits slot slot_in;
      left_is_good = c.requires.elem_is_good;
      right_is_good = fits-good ring 0 size map c.requires.fits slot slot_in;
      reaches_add_up = shift-reach (g.met.S.Semiring.laws c.args.self.now.kit)
          (g.met.M.Monoid.laws c.args.self.now.keys)
          c.args.key c.args.elem.now map c.requires.key_is_element c.requires.elem_is_good c.requires.fits
          c.requires.reaches_add_up slot slot_in;
    }

pub put-requires-clause-is_element : goal.put-requires-clause-is_element
put-requires-clause-is_element g c =
    let slot = c.slot-item.result in
    let slot_in = subst (IsIn slot) c.deref-slot-items.ensures.value
    (IsIn-read c.deref-slot-items.result.now c.loop-slot.slot-index slot c.loop-slot-test.true c.slot-item.is) in
    subst (λ key. key < g.M.Monoid.size c.args.self.now.keys) (sym (ap key_of c.in_ok-product.ensures.product))
    (shift-key (g.met.S.Semiring.laws c.args.self.now.kit) (g.met.M.Monoid.laws c.args.self.now.keys)
    c.args.key c.args.elem.now c.args.map.now.items c.requires.key_is_element c.requires.elem_is_good c.requires.fits
    c.requires.reaches_add_up slot slot_in)

pub put-requires-clause-is_good : goal.put-requires-clause-is_good
put-requires-clause-is_good g c =
    let slot = c.slot-item.result in
    let slot_in = subst (IsIn slot) c.deref-slot-items.ensures.value
    (IsIn-read c.deref-slot-items.result.now c.loop-slot.slot-index slot c.loop-slot-test.true c.slot-item.is) in
    subst (IsGood (g.S.Semiring.ring c.args.self.now.kit)) (sym (ap elem_of c.in_ok-product.ensures.product))
    (shift-good (g.met.S.Semiring.laws c.args.self.now.kit) (g.met.M.Monoid.laws c.args.self.now.keys)
    c.args.key c.args.elem.now c.args.map.now.items c.requires.key_is_element c.requires.elem_is_good c.requires.fits
    c.requires.reaches_add_up slot slot_in)

pub loop-slot-preserved : goal.loop-slot-preserved
loop-slot-preserved g c =
    record {
      shifting = rw c.deref-slot-items.ensures.value
          (shifting-more (g.met.S.Semiring.laws c.args.self.now.kit) (g.met.M.Monoid.laws c.args.self.now.keys)
          c.args.key c.args.elem.now c.args.map.now.items c.requires.key_is_element c.requires.elem_is_good
          c.requires.fits
          c.requires.reaches_add_up c.loop-slot.slot-index c.slot-item.result c.in_ok-product.product
          c.loop-slot.slots.items c.put.new.slots.items
          (rw c.deref-slot-items.ensures.value at c.loop-slot-test.true)
          (rw c.deref-slot-items.ensures.value at c.slot-item.is)
          c.in_ok-product.ensures.product
          (rw c.deref-slot-items.ensures.value at c.loop-slot.invariant.shifting) c.in_ok-put.ensures);
      cost =
          let step = c.in_ok-product.ensures.cost in
          let before = c.loop-slot.invariant.cost in
          omega (arith, step, before);
    }

pub returns-clause-value : goal.returns-clause-value
returns-clause-value g c =
    let ring = g.S.Semiring.ring c.args.self.now.kit in
    IfOk-weaker c.collect.result _ _
    (λ map sums k. sums k
    ∙ shifting-all (g.met.S.Semiring.laws c.args.self.now.kit) (g.met.M.Monoid.laws c.args.self.now.keys)
    c.args.key c.args.elem.now c.args.map.now.items c.requires.key_is_element c.requires.elem_is_good c.requires.fits
    c.requires.reaches_add_up c.loop-slot.slot-index c.loop-slot.slots.items
    (rw c.deref-slot-items.ensures.value at c.loop-slot-test.false)
    (rw c.deref-slot-items.ensures.value at c.loop-slot.invariant.shifting) k)
    c.collect.ensures.value
