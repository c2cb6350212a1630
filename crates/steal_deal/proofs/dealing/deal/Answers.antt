use Rattle.std.proofs.Common.{◌≡◌, ap, sym, subst, ◌∙◌, arith}
use Rattle.steal_deal.specs.declared.partition.Partition.{Partition}
use Rattle.steal_deal.specs.Partition.{block_begin}
use Rattle.steal_deal.specs.Hands.{BlocksSeen}
use Rattle.steal_deal.proofs.Partitions.{block_begin-last}
use Rattle.steal_deal.proofs.Hands.{next_is_parent, one_more_hand, all_hands, new_hands_are_dealt}
use Rattle.steal_deal.proofs.dealing.deal.Goals as goal

pub loop-preserved : goal.loop-preserved
loop-preserved c = record {
  last = c.replace.ensures.after
      ∙ next_is_parent _ _ _ c.loop.invariant.last _ _ c.blocks-2.view_is c.next_hand-next.ensures.next;
  hands = one_more_hand _ _ _ c.loop.invariant.last _ _ _ _ c.blocks-2.view_is
      (c.replace.ensures.value ∙ c.next_hand-next.ensures.kept) c.loop.invariant.hands c.in_ok-push.ensures.items;
}

pub returns-clause-whole : goal.returns-clause-whole
returns-clause-whole c = subst (λ (p : Partition). block_begin p c.args.workers ≡ c.args.count)
    (sym c.in_ok-blocks.ensures.blocks)
    (block_begin-last (record { count = c.args.count; workers = c.args.workers }) c.requires.some_workers)

pub returns-clause-hands : goal.returns-clause-hands
returns-clause-hands c =
    let stop = c.loop-test.false in
    let within = c.loop.auto.counter-end in
    let some_workers = c.requires.some_workers in
    let workers : c.blocks-2.inside.partition.workers ≡ c.args.workers =
    ap (λ (b : BlocksSeen). b.partition.workers) c.blocks-2.view_is
    ∙ ap (λ (p : Partition). p.workers) c.in_ok-blocks.ensures.blocks in
    all_hands _ _ _ c.loop.invariant.last _ _ _ c.blocks-2.view_is (omega arith) c.loop.invariant.hands
    c.in_ok-push-2.ensures.items

pub returns-clause-dealt : goal.returns-clause-dealt
returns-clause-dealt c = new_hands_are_dealt _ _ (returns-clause-hands c)
