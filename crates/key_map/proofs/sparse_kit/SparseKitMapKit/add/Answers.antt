use Rattle.std.proofs.Common.{length, ap, arith}
use Rattle.key_map.proofs.Slots.{fits-good}
use Rattle.key_map.proofs.Merges.{merging-start, merging-step, merging-end, next_of, none_left}
use Rattle.key_map.proofs.sparse_kit.SparseKitMapKit.add.Goals as goal

pub least_slot-requires : goal.least_slot-requires
least_slot-requires g c =
    let ring = g.S.Semiring.ring c.args.self.now.kit in
    let size = g.M.Monoid.size c.args.self.now.keys in
    let merging = c.loop-sums.invariant in
    record {
      left_are_good = fits-good ring merging.low size c.loop-sums.left.now merging.left_fits;
      right_are_good = fits-good ring merging.low size c.loop-sums.right.now merging.right_fits;
    }

pub loop-sums-init : goal.loop-sums-init
loop-sums-init g c =
    let laws = g.met.S.Semiring.laws c.args.self.now.kit in
    let size = g.M.Monoid.size c.args.self.now.keys in
    rw (c.in_ok-sums.ensures.items, c.as_slice-left.ensures.value, c.as_slice-right.ensures.value)
    (merging-start laws size c.args.a.now.items c.args.b.now.items c.requires.left_fits c.requires.right_fits)

pub loop-sums-preserved : goal.loop-sums-preserved
loop-sums-preserved g c =
    let laws = g.met.S.Semiring.laws c.args.self.now.kit in
    let size = g.M.Monoid.size c.args.self.now.keys in
    let a = c.args.a.now.items in
    let b = c.args.b.now.items in
    let left = c.loop-sums.left.now in
    let right = c.loop-sums.right.now in
    let sums = c.loop-sums.sums.items in
    let next = next_of laws size a b c.requires.left_fits c.requires.right_fits sums left right c.loop-sums.invariant
    c.in_ok-slot.field-0 c.in_ok-slot.ensures c.in-Some.slot c.in-Some.is in
    rw (c.in_ok-push.ensures.items, c.after_key-left.ensures, c.after_key-right.ensures)
    (merging-step laws size a b c.requires.left_fits c.requires.right_fits sums left right c.in-Some.slot _ _
    c.loop-sums.invariant next)

pub loop-sums-smaller : goal.loop-sums-smaller
loop-sums-smaller g c =
    let laws = g.met.S.Semiring.laws c.args.self.now.kit in
    let size = g.M.Monoid.size c.args.self.now.keys in
    let next = next_of laws size c.args.a.now.items c.args.b.now.items c.requires.left_fits c.requires.right_fits
    c.loop-sums.sums.items c.loop-sums.left.now c.loop-sums.right.now c.loop-sums.invariant
    c.in_ok-slot.field-0 c.in_ok-slot.ensures c.in-Some.slot c.in-Some.is in
    let fewer = next.fewer in
    let left = ap length c.after_key-left.ensures in
    let right = ap length c.after_key-right.ensures in
    omega arith

pub returns : goal.returns
returns g c =
    let laws = g.met.S.Semiring.laws c.args.self.now.kit in
    let size = g.M.Monoid.size c.args.self.now.keys in
    let a = c.args.a.now.items in
    let b = c.args.b.now.items in
    let merging = c.loop-sums.invariant in
    let none = none_left laws size a b c.requires.left_fits c.requires.right_fits c.loop-sums.sums.items
    c.loop-sums.left.now
    c.loop-sums.right.now merging c.in_ok-slot.field-0 c.in_ok-slot.ensures c.in_default.is in
    let all = merging-end laws size a b c.requires.left_fits c.requires.right_fits c.loop-sums.sums.items
    c.loop-sums.left.now
    c.loop-sums.right.now merging none.0 none.1 in
    record { fits = all.0; value = all.1; kept = all.2 }
