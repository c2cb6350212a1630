use Rattle.std.proofs.Common.{◌≡◌, ℕ, ◌+◌, ap, sym, subst, inr, arith}
use Rattle.steal_deal.specs.declared.view.View.{View}
use Rattle.steal_deal.specs.Hands.{BlocksSeen, HandSeen}
use Rattle.steal_deal.specs.Draws.{GivesLeaf, FindsNone}
use Rattle.steal_deal.proofs.Drawing.{draw_allowed}
use Rattle.steal_deal.proofs.Giving.{gives_leaf, gives_none}
use Rattle.steal_deal.proofs.Partitions.{place_below}
use Rattle.steal_deal.proofs.Seen.{dealt_inside, flag_down}
use Rattle.steal_deal.proofs.hand.Hand.steal.Goals as goal

pub fetch_add-place-requires : goal.fetch_add-place-requires
fetch_add-place-requires c =
    let hand = c.self.inside in
    let blocks = c.blocks-2.inside in
    let rule = c.blocks-2.invariant in
    let dealt = dealt_inside _ _ _ _ c.blocks-2.view_is c.self.view_is c.requires.dealt in
    let workers : blocks.partition.workers ≡ c.args.blocks.now.partition.workers = ap
    (λ (b : BlocksSeen). b.partition.workers) c.blocks-2.view_is in
    let in_range = c.requires.block in
    let words = rule.words in
    let few = rule.few_workers in (
      dealt.table,
      omega arith,
      draw_allowed _ hand.seat.id hand.seat.me c.args.from blocks.table.shared.key blocks.partition rule.key_is
          (sym dealt.partition)
          (flag_down hand.number hand.met hand.seat.me.0 c.self.invariant c.args.from (omega arith)
          c.if-self-from.false)
          (omega arith) few rule.small_count,
    )

pub overflow_add-result : goal.overflow_add-result
overflow_add-result c =
    let rule = c.blocks-2.invariant in
    let small = rule.small_count in
    let begin = c.block_begin.ensures in
    let size = c.block_size.ensures in
    let place = c.from.ensures in
    let inside = c.if-place-from.true in
    let workers : c.blocks-2.inside.partition.workers ≡ c.args.blocks.now.partition.workers = ap
    (λ (b : BlocksSeen). b.partition.workers) c.blocks-2.view_is in
    let in_range = c.requires.block in
    let below = place_below c.blocks-2.inside.partition c.args.from c.fetch_add-place.result (omega arith)
    (omega arith) in
    omega arith

pub returns-then-place-from-clause-draw : goal.returns-then-place-from-clause-draw
returns-then-place-from-clause-draw c =
    let hand = c.self.inside in
    let p = c.blocks-2.inside.partition in
    let rule = c.blocks-2.invariant in
    let few = rule.few_workers in
    let size = c.block_size.ensures in
    let place = c.from.ensures in
    let found = c.if-place-from.true in
    let dealt = dealt_inside _ _ _ _ c.blocks-2.view_is c.self.view_is c.requires.dealt in
    let workers : p.workers ≡ c.args.blocks.now.partition.workers = ap (λ (b : BlocksSeen). b.partition.workers)
    c.blocks-2.view_is in
    let in_range = c.requires.block in
    subst (λ (v : View). GivesLeaf v c.args.from (c.block_begin.result + c.fetch_add-place.result)
    c.fetch_add-place.new.seat.me.0) (ap (λ (h : HandSeen). h.view) c.self.view_is)
    (gives_leaf p hand.seat.me.0 _ c.args.from c.fetch_add-place.result (sym dealt.partition)
    (flag_down hand.number hand.met hand.seat.me.0 c.self.invariant c.args.from (omega arith) c.if-self-from.false)
    (omega arith) c.fetch_add-place.ensures.2 _
    (ap (λ (n : ℕ). n + c.fetch_add-place.result) c.block_begin.ensures) (omega arith))

pub returns-clause-draw : goal.returns-clause-draw
returns-clause-draw c =
    let hand = c.self.inside in
    let p = c.blocks-2.inside.partition in
    let rule = c.blocks-2.invariant in
    let few = rule.few_workers in
    let size = c.block_size.ensures in
    let place = c.from.ensures in
    let past = c.if-place-from.false in
    let dealt = dealt_inside _ _ _ _ c.blocks-2.view_is c.self.view_is c.requires.dealt in
    let workers : p.workers ≡ c.args.blocks.now.partition.workers = ap (λ (b : BlocksSeen). b.partition.workers)
    c.blocks-2.view_is in
    let in_range = c.requires.block in
    inr (subst (λ (v : View). FindsNone v c.args.from c.fetch_add-place.new.seat.me.0)
    (ap (λ (h : HandSeen). h.view) c.self.view_is)
    (gives_none p hand.seat.me.0 _ c.args.from c.fetch_add-place.result (sym dealt.partition)
    (flag_down hand.number hand.met hand.seat.me.0 c.self.invariant c.args.from (omega arith) c.if-self-from.false)
    (omega arith) c.fetch_add-place.ensures.2 (omega arith)))
