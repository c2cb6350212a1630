use Rattle.std.proofs.Common.{nat_eq, arith, ap, sym, subst}
use Rattle.monoid_kit.proofs.Items.{IsIn-read}
use Rattle.semiring_kit.specs.Semiring.{IsGood}
use Rattle.semiring_kit.specs.Total.{masked}
use Rattle.semiring_kit.proofs.Sums.{mul_is_good, masked_is_good}
use Rattle.key_map.specs.Slots.{key_of, elem_of, product_at}
use Rattle.key_map.proofs.Rows.{gathered-none, gathered-more, gathered-all}
use Rattle.key_map.proofs.gather.SparseKitGather.gather_products.Goals as goal

pub product-requires : goal.product-requires
product-requires g c =
    let slot = c.slot-item.result in
    let slot_in = IsIn-read c.args.right.now c.loop-slot.slot-index slot c.loop-slot-test.true c.slot-item.is in
    record {
      left_is_element = c.requires.left_is_element;
      right_is_element = c.requires.right_are_elements slot slot_in;
      left_is_good = c.requires.left_is_good;
      right_is_good = c.requires.right_are_good slot slot_in;
      reaches_add_up = c.requires.reaches_add_up slot slot_in;
    }

pub gather-requires : goal.gather-requires
gather-requires g c =
    let monoid = g.met.M.Monoid.laws c.args.self.now.keys in
    let laws = g.met.S.Semiring.laws c.args.self.now.kit in
    let left = c.args.left.now in
    let slot = c.slot-item.result in
    let slot_in = IsIn-read c.args.right.now c.loop-slot.slot-index slot c.loop-slot-test.true c.slot-item.is in
    let product_key = monoid.product_is_element left.key slot.key c.requires.left_is_element
    (c.requires.right_are_elements slot slot_in) in
    let product_good = mul_is_good laws left.elem slot.elem c.requires.left_is_good
    (c.requires.right_are_good slot slot_in)
    (c.requires.reaches_add_up slot slot_in) in
    record {
      key_is_in_row =
          let key = ap key_of c.in_ok-product.ensures.product in
          let same = c.loop-slot.invariant.gathered.same_length in
          let size = c.requires.row_has_size in
          omega (arith, product_key);
      row_is_good = c.loop-slot.invariant.gathered.values_are_good;
      elem_is_good = subst (IsGood (g.S.Semiring.ring c.args.self.now.kit))
          (sym (ap elem_of c.in_ok-product.ensures.product)) product_good;
    }

pub loop-slot-init : goal.loop-slot-init
loop-slot-init g c = record {
  gathered = gathered-none (g.met.S.Semiring.laws c.args.self.now.kit) c.args.row.now.items c.requires.row_is_good;
  few = omega arith;
  cost = omega arith;
}

pub loop-slot-preserved : goal.loop-slot-preserved
loop-slot-preserved g c =
    let ring = g.S.Semiring.ring c.args.self.now.kit in
    let times = g.M.Monoid.mul c.args.self.now.keys in
    let laws = g.met.S.Semiring.laws c.args.self.now.kit in
    let left = c.args.left.now in
    let slot = c.slot-item.result in
    record {
      gathered = gathered-more laws (λ slot k. product_at ring times left slot k) c.args.right.now
          c.loop-slot.slot-index slot
          (λ k. masked ring (nat_eq c.in_ok-product.product.key k) c.in_ok-product.product.elem)
          c.args.row.now.items c.loop-slot.row.items c.gather.new.row.items
          c.requires.row_is_good
          (λ other other_in k. (masked_is_good laws (nat_eq (times left.key other.key) k)
          (ring.mul left.elem other.elem)
          (mul_is_good laws left.elem other.elem c.requires.left_is_good
          (c.requires.right_are_good other other_in) (c.requires.reaches_add_up other other_in))).sound)
          c.loop-slot-test.true c.slot-item.is
          (λ k. ap (λ product. masked ring (nat_eq (key_of product) k) (elem_of product))
          c.in_ok-product.ensures.product)
          c.loop-slot.invariant.gathered c.in_ok-gather.ensures.gathered;
      few =
          let added = c.in_ok-gather.ensures.few in
          let before = c.loop-slot.invariant.few in
          omega arith;
      cost =
          let step = c.in_ok-product.ensures.cost in
          let before = c.loop-slot.invariant.cost in
          omega arith;
    }

pub returns : goal.returns
returns g c =
    let ring = g.S.Semiring.ring c.args.self.now.kit in
    let times = g.M.Monoid.mul c.args.self.now.keys in
    record {
      gathered = gathered-all (g.met.S.Semiring.laws c.args.self.now.kit)
          (λ slot k. product_at ring times c.args.left.now slot k)
          c.args.right.now c.loop-slot.slot-index c.args.row.now.items c.loop-slot.row.items
          c.loop-slot-test.false
          c.loop-slot.invariant.gathered;
      few =
          let before = c.loop-slot.invariant.few in
          let end = c.loop-slot.auto.slot-index-end in
          omega arith;
      cost =
          let before = c.loop-slot.invariant.cost in
          let end = c.loop-slot.auto.slot-index-end in
          omega arith;
    }
