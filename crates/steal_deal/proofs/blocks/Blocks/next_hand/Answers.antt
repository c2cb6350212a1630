use Rattle.std.proofs.Common.{◌≡◌, arith, ap}
use Rattle.steal_deal.specs.Hands.{HandSeen}
use Rattle.steal_deal.proofs.Seen.{dealt_inside}
use Rattle.steal_deal.proofs.Splitting.{split_keeps}
use Rattle.steal_deal.proofs.blocks.Blocks.next_hand.Goals as goal

pub split_seat-seat-requires : goal.split_seat-seat-requires
split_seat-seat-requires c =
    let dealt = dealt_inside _ _ _ _ c.self.view_is c.last.view_is c.requires.dealt in
    let rule = c.self.invariant in
    let some_workers = rule.some_workers in
    let words = rule.words in
    let spare : c.last.inside.seat.me.0.spare ≡ c.args.last.now.view.spare = ap (λ (h : HandSeen). h.view.spare)
    c.last.view_is in
    let asked = c.requires.spare in (
      dealt.table,
      omega arith,
      split_keeps c.self.inside.table.shared.key c.last.inside.seat.id c.last.inside.seat.me.0 (omega arith),
    )
