use Rattle.std.proofs.Common.{sym, ◌∙◌, ap, length, vec_len, arith}
use Rattle.std.proofs.lemmas.Bool.{eqb-true}
use Rattle.key_map.specs.Slots.{value_in}
use Rattle.key_map.specs.SlotLaws.{value_in_is_good}
use Rattle.key_map.proofs.Slots.{fits-good}
use Rattle.key_map.proofs.Gathers.{no_item}
use Rattle.key_map.proofs.Merges.{merging-start, merging-step, merging-end, next_of, none_left}
use Rattle.key_map.proofs.sparse_kit.SparseKitMapKit.sum.Goals as goal

pub take_least-requires : goal.take_least-requires
take_least-requires g c =
    let ring = g.S.Semiring.ring c.args.self.now.kit in
    let size = g.M.Monoid.size c.args.self.now.keys in
    let merging = c.loop-right.invariant in
    record {
      left_are_good = fits-good ring merging.low size c.loop-right.left.items merging.left_fits;
      right_are_good = fits-good ring merging.low size c.loop-right.right.items merging.right_fits;
    }

pub loop-right-init : goal.loop-right-init
loop-right-init g c =
    let laws = g.met.S.Semiring.laws c.args.self.now.kit in
    let size = g.M.Monoid.size c.args.self.now.keys in
    rw (c.in_ok-sums.ensures.items, c.from-left.ensures.0, c.from-right.ensures.0)
    (merging-start laws size c.args.a.items c.args.b.items c.requires.left_fits c.requires.right_fits)

pub loop-right-preserved : goal.loop-right-preserved
loop-right-preserved g c =
    let laws = g.met.S.Semiring.laws c.args.self.now.kit in
    let size = g.M.Monoid.size c.args.self.now.keys in
    let left = c.loop-right.left.items in
    let right = c.loop-right.right.items in
    let sums = c.loop-right.sums.items in
    let next = next_of laws size c.args.a.items c.args.b.items c.requires.left_fits c.requires.right_fits sums left
    right
    c.loop-right.invariant c.in_ok-slot.field-0 c.in_ok-slot.ensures.least c.in-Some.slot c.in-Some.is in
    rw (
      c.in_ok-push.ensures.items,
      rw c.in-Some.is at c.in_ok-slot.ensures.left,
      rw c.in-Some.is at
          c.in_ok-slot.ensures.right,
    )
    (merging-step laws size c.args.a.items c.args.b.items c.requires.left_fits c.requires.right_fits sums left right
    c.in-Some.slot _ _
    c.loop-right.invariant next)

pub loop-right-smaller : goal.loop-right-smaller
loop-right-smaller g c =
    let laws = g.met.S.Semiring.laws c.args.self.now.kit in
    let size = g.M.Monoid.size c.args.self.now.keys in
    let next = next_of laws size c.args.a.items c.args.b.items c.requires.left_fits c.requires.right_fits
    c.loop-right.sums.items c.loop-right.left.items c.loop-right.right.items c.loop-right.invariant
    c.in_ok-slot.field-0 c.in_ok-slot.ensures.least c.in-Some.slot c.in-Some.is in
    let fewer = next.fewer in
    let left = ap length (rw c.in-Some.is at c.in_ok-slot.ensures.left) in
    let right = ap length (rw c.in-Some.is at c.in_ok-slot.ensures.right) in
    omega arith

pub returns-then-is_empty-clause-value : goal.returns-then-is_empty-clause-value
returns-then-is_empty-clause-value g c k =
    let ring = g.S.Semiring.ring c.args.self.now.kit in
    let laws = g.met.S.Semiring.laws c.args.self.now.kit in
    let size = g.M.Monoid.size c.args.self.now.keys in
    let b = c.args.b.items in
    let zero = eqb-true (vec_len c.args.a) 0 (sym c.is_empty.ensures ∙ c.if-is_empty.true) in
    let none = no_item c.args.a.items (omega (arith, zero)) in
    sym (laws.addition.monoid.left_identity (value_in ring.zero b k)
    (value_in_is_good laws 0 size b k c.requires.right_fits).sound)
    ∙ ap (λ slots. ring.add (value_in ring.zero slots k) (value_in ring.zero b k)) (sym none)

pub returns : goal.returns
returns g c =
    let laws = g.met.S.Semiring.laws c.args.self.now.kit in
    let size = g.M.Monoid.size c.args.self.now.keys in
    let a = c.args.a.items in
    let b = c.args.b.items in
    let merging = c.loop-right.invariant in
    let none = none_left laws size a b c.requires.left_fits c.requires.right_fits c.loop-right.sums.items
    c.loop-right.left.items
    c.loop-right.right.items merging c.in_ok-slot.field-0 c.in_ok-slot.ensures.least c.in_default.is in
    let all = merging-end laws size a b c.requires.left_fits c.requires.right_fits c.loop-right.sums.items
    c.loop-right.left.items
    c.loop-right.right.items merging none.0 none.1 in
    record { fits = all.0; value = all.1; kept = all.2 }
