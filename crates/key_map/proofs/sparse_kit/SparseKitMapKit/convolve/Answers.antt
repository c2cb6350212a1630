use Rattle.std.proofs.Common.{◌≡◌, ℕ, ◌+◌, ◌*◌, ◌≤◌, length, arith, refl, ap, subst, sym, ◌∙◌}
use Rattle.std.proofs.Math.Nat.{mul-le-mul_left}
use Rattle.std.proofs.lemmas.Result.{IfOk-weaker}
use Rattle.monoid_kit.specs.Items.{IsIn}
use Rattle.monoid_kit.proofs.Items.{IsIn-read}
use Rattle.key_map.specs.Convolution.{convolution}
use Rattle.key_map.specs.Slots.{value_in, products_at, FitsSlots}
use Rattle.key_map.specs.Rows.{slots_from}
use Rattle.key_map.proofs.Slots.{fits-keys, fits-good, slots_from-empty}
use Rattle.key_map.proofs.Rows.{gathered-none, gathered-more, gathered-all}
use Rattle.key_map.proofs.Maps.{empty-length, empty-IsGoodRow, keys-below, given-good, reaches-at_slots}
use Rattle.key_map.proofs.Maps.{products-are_sound, gathered-convolution, convolution-is_sound, slots-fit}
use Rattle.key_map.proofs.Maps.{slots-value}
use Rattle.key_map.proofs.sparse_kit.SparseKitMapKit.convolve.Goals as goal

pub gather_products-requires : goal.gather_products-requires
gather_products-requires g c =
    let ring = g.S.Semiring.ring c.args.self.now.kit in
    let laws = g.met.S.Semiring.laws c.args.self.now.kit in
    let size = g.M.Monoid.size c.args.self.now.keys in
    let a = c.args.a.now.items in
    let b = c.args.b.now.items in
    let left = c.left-item.result in
    let left_in = subst (IsIn left) c.deref-left-items.ensures.value
    (IsIn-read c.deref-left-items.result.now c.loop-left.left-index left c.loop-left-test.true c.left-item.is) in
    let empty = rw c.size.ensures at c.in_ok-row.ensures in
    record {
      row_has_size = c.loop-left.invariant.gathered.same_length ∙ empty-length ring size c.in_ok-row.row.items empty;
      row_is_good = c.loop-left.invariant.gathered.values_are_good;
      left_is_element = fits-keys ring 0 size a c.requires.left_fits left left_in;
      right_are_elements = keys-below ring size b c.deref.result.now c.deref.ensures.value c.requires.right_fits;
      left_is_good = fits-good ring 0 size a c.requires.left_fits left left_in;
      right_are_good = given-good ring size b c.deref.result.now c.deref.ensures.value c.requires.right_fits;
      reaches_add_up = λ right right_in.
          reaches-at_slots laws size a b c.requires.left_fits c.requires.right_fits c.requires.reaches_add_up left
          left_in
          right (subst (IsIn right) c.deref.ensures.value right_in);
    }

pub loop-left-init : goal.loop-left-init
loop-left-init g c =
    let ring = g.S.Semiring.ring c.args.self.now.kit in
    let laws = g.met.S.Semiring.laws c.args.self.now.kit in
    let size = g.M.Monoid.size c.args.self.now.keys in
    let row = c.in_ok-row.row.items in
    let empty = rw c.size.ensures at c.in_ok-row.ensures in
    record {
      gathered = gathered-none laws row (empty-IsGoodRow ring size row empty);
      few = let none = ap (λ r. length (slots_from 0 r)) empty
          ∙ ap length (slots_from-empty 0 size) in omega (arith, none);
      cost = omega arith;
    }

pub loop-left-preserved : goal.loop-left-preserved
loop-left-preserved g c =
    let ring = g.S.Semiring.ring c.args.self.now.kit in
    let laws = g.met.S.Semiring.laws c.args.self.now.kit in
    let times = g.M.Monoid.mul c.args.self.now.keys in
    let size = g.M.Monoid.size c.args.self.now.keys in
    let a = c.args.a.now.items in
    let b = c.args.b.now.items in
    let row = c.in_ok-row.row.items in
    let i = c.loop-left.left-index in
    let empty = rw c.size.ensures at c.in_ok-row.ensures in
    let products = rw c.deref.ensures.value at c.in_ok-gather_products.ensures.gathered in
    record {
      gathered = gathered-more laws (λ left k. products_at ring times left b k)
          c.deref-left-items.result.now i c.left-item.result
          (products_at ring times c.left-item.result b)
          row c.loop-left.row.items c.gather_products.new.row.items
          (empty-IsGoodRow ring size row empty)
          (λ left left_in k. products-are_sound laws size a b c.requires.left_fits c.requires.right_fits times left
          (subst (IsIn left) c.deref-left-items.ensures.value left_in) k)
          c.loop-left-test.true c.left-item.is (λ k. refl)
          c.loop-left.invariant.gathered products;
      few =
          let before = c.loop-left.invariant.few in
          let more = c.in_ok-gather_products.ensures.few in
          let long = ap length c.deref.ensures.value in
          omega arith;
      cost =
          let before = c.loop-left.invariant.cost in
          let more = c.in_ok-gather_products.ensures.cost in
          let long = ap length c.deref.ensures.value in
          omega arith;
    }

pub returns-in_err-gather_products-clause-cost : goal.returns-in_err-gather_products-clause-cost
returns-in_err-gather_products-clause-cost g c =
    let a = c.args.a.now.items in
    let b = c.args.b.now.items in
    let before = c.loop-left.invariant.cost in
    let more = c.gather_products.ensures.cost in
    let long = ap length c.deref.ensures.value in
    let all = ap length c.deref-left-items.ensures.value in
    let within = c.loop-left-test.true in
    let next : c.loop-left.left-index + 1 ≤ length a = omega arith in
    omega (arith, mul-le-mul_left (length b) next)

pub slots_of-requires : goal.slots_of-requires
slots_of-requires g c =
    let ring = g.S.Semiring.ring c.args.self.now.kit in
    let long = empty-length ring c.size.result c.in_ok-row.row.items c.in_ok-row.ensures in
    let same = c.loop-left.invariant.gathered.same_length in
    let fits = c.size.type_inv in
    omega arith

pub returns : goal.returns
returns g c =
    let ring = g.S.Semiring.ring c.args.self.now.kit in
    let laws = g.met.S.Semiring.laws c.args.self.now.kit in
    let times = g.M.Monoid.mul c.args.self.now.keys in
    let size = g.M.Monoid.size c.args.self.now.keys in
    let a = c.args.a.now.items in
    let b = c.args.b.now.items in
    let row = c.in_ok-row.row.items in
    let new = c.loop-left.row.items in
    let i = c.loop-left.left-index in
    let empty = rw c.size.ensures at c.in_ok-row.ensures in
    let gathered = rw c.deref-left-items.ensures.value at
    (gathered-all laws (λ left k. products_at ring times left b k)
    c.deref-left-items.result.now i row new c.loop-left-test.false c.loop-left.invariant.gathered) in
    let convolved = gathered-convolution laws size a b c.requires.left_fits c.requires.right_fits times row new
    gathered in
    let added = convolution ring size times (value_in ring.zero a) (value_in ring.zero b) in
    record {
      fits = IfOk-weaker c.slots_of.result (λ slots. slots.items ≡ slots_from 0 new)
          (λ slots. FitsSlots ring 0 size slots.items)
          (λ slots is. subst (FitsSlots ring 0 size) (sym is) (slots-fit laws size row new added empty convolved))
          c.slots_of.ensures;
      value = IfOk-weaker c.slots_of.result (λ slots. slots.items ≡ slots_from 0 new)
          (λ slots. (k : ℕ) → value_in ring.zero slots.items k ≡ added k)
          (λ slots is k. ap (λ items. value_in ring.zero items k) is
          ∙ slots-value laws size row new added empty convolved k
          (convolution-is_sound laws size a b c.requires.left_fits c.requires.right_fits times k)) c.slots_of.ensures;
      kept =
          let before = c.loop-left.invariant.few in
          let all = ap length c.deref-left-items.ensures.value in
          let end = c.loop-left.auto.left-index-end in
          let within : i ≤ length a = omega arith in
          IfOk-weaker c.slots_of.result (λ slots. slots.items ≡ slots_from 0 new)
          (λ slots. length slots.items ≤ length a * length b)
          (λ slots is. let count = ap length is in omega (arith, count, before, mul-le-mul_left (length b) within))
          c.slots_of.ensures;
      cost =
          let before = c.loop-left.invariant.cost in
          let all = ap length c.deref-left-items.ensures.value in
          let end = c.loop-left.auto.left-index-end in
          let within : i ≤ length a = omega arith in
          omega (arith, mul-le-mul_left (length b) within);
    }
