use Rattle.std.proofs.Common.{◌≡◌, ◌∙◌, ◌+◌, ◌∷◌, [], length, length-append, get_or, refl, sym, subst, ap, arith}
use Rattle.steal_deal.specs.declared.partition.Partition.{Partition}
use Rattle.worker_pool.specs.Turns.{LeafEnds}
use Rattle.worker_pool.proofs.Bounds.{leaf_within}
use Rattle.worker_pool.proofs.Taking.{dealt_with_leaf, dealt_still, few_taken}
use Rattle.worker_pool.proofs.WorkerTurns.{with_leaf, after_no_leaf}
use Rattle.worker_pool.proofs.stepping.begin.Goals as goal

pub overflow_add-worker : goal.overflow_add-worker
overflow_add-worker g c =
    let took = c.in-Leaf.ensures.next in
    let partition = c.draw.ensures.dealt.partition ∙ sym c.requires.at_work.hand.partition in
    let few = few_taken c.draw.new.hand.view
    (dealt_with_leaf c.args.worker.now.hand.view c.draw.new.hand.view c.in-Leaf.number partition took
    c.requires.at_work.dealt) in
    let more : length c.draw.new.hand.view.taken ≡ length c.args.worker.now.hand.view.taken + 1 =
    ap (λ ys. length ys) took.joins ∙ length-append c.args.worker.now.hand.view.taken (c.in-Leaf.number ∷ []) in
    omega (
      arith,
      ap (λ (p : Partition). p.count) c.draw.ensures.dealt.partition,
      c.leaf_interval-lo.ensures.few,
      c.requires.at_work.leaves_are,
      c.requires.site.leaves,
      ap (λ bs. length bs) c.bounds.ensures.bounds,
    )

pub returns-in-Leaf-clause-at_work : goal.returns-in-Leaf-clause-at_work
returns-in-Leaf-clause-at_work g c = record {
  ready = c.leaf.ensures.ready;
  plan_is = c.leaf.ensures.same.plan ∙ c.requires.at_work.plan_is;
  hand = c.draw.ensures.dealt;
  dealt = dealt_with_leaf c.args.worker.now.hand.view c.draw.new.hand.view c.in-Leaf.number
      (c.draw.ensures.dealt.partition ∙ sym c.requires.at_work.hand.partition) c.in-Leaf.ensures.next
      c.requires.at_work.dealt;
  leaves_are = (
      let more : length c.draw.new.hand.view.taken ≡ length c.args.worker.now.hand.view.taken + 1 =
      ap (λ ys. length ys) c.in-Leaf.ensures.next.joins
      ∙ length-append c.args.worker.now.hand.view.taken (c.in-Leaf.number ∷ []) in
      omega (arith, c.requires.at_work.leaves_are)
      );
}

pub pair-requires-clause-at_work : goal.pair-requires-clause-at_work
pair-requires-clause-at_work g c = λ κs low. record {
  ready = c.requires.at_work.ready;
  plan_is = c.requires.at_work.plan_is;
  hand = c.draw.ensures.dealt;
  dealt = dealt_still c.args.worker.now.hand.view c.draw.new.hand.view
      (c.draw.ensures.dealt.partition ∙ sym c.requires.at_work.hand.partition)
      c.in-Empty.ensures.next.taken c.requires.at_work.dealt;
  leaves_are = c.requires.at_work.leaves_are ∙ ap (λ ys. length ys) (sym c.in-Empty.ensures.next.taken);
}

pub leaf-requires-clause-within : goal.leaf-requires-clause-within
leaf-requires-clause-within g c =
    let cut = c.args.site.now.cut.now in
    let hi : c.leaf_interval-lo.result.1 ≡ get_or cut (c.in-Leaf.number + 1) 0 = c.leaf_interval-lo.ensures.hi
    ∙ ap (λ bs. get_or bs (c.in-Leaf.number + 1) 0) c.bounds.ensures.bounds in
    omega (
      arith,
      (leaf_within (g.F.Fused.rows c.args.site.now.plan.now) cut c.requires.site.cut c.in-Leaf.number (omega (
        arith,
        c.in-Leaf.ensures.next.below,
        ap (λ (p : Partition). p.count) c.requires.at_work.hand.partition,
        c.requires.site.leaves,
      ))).1,
    )

pub returns-in-Leaf-clause-turn : goal.returns-in-Leaf-clause-turn
returns-in-Leaf-clause-turn g c =
    let cut = c.args.site.now.cut.now in
    let number = c.in-Leaf.number in
    let lo : c.leaf_interval-lo.result.0 ≡ get_or cut number 0 = c.leaf_interval-lo.ensures.lo
    ∙ ap (λ bs. get_or bs number 0) c.bounds.ensures.bounds in
    let hi : c.leaf_interval-lo.result.1 ≡ get_or cut (number + 1) 0 = c.leaf_interval-lo.ensures.hi
    ∙ ap (λ bs. get_or bs (number + 1) 0) c.bounds.ensures.bounds in
    with_leaf g.F.Fused.rows g.F.Fused.stands cut c.args.worker.now _ number c.leaf.result refl
    c.in-Leaf.ensures.next.joins c.leaf.ensures.undrained
    (subst (λ lo. LeafEnds g.F.Fused.rows g.F.Fused.stands c.args.worker.now.seat lo (get_or cut (number + 1) 0)
    c.leaf.result c.leaf.new.seat) lo
    (subst (λ hi. LeafEnds g.F.Fused.rows g.F.Fused.stands c.args.worker.now.seat c.leaf_interval-lo.result.0 hi
    c.leaf.result c.leaf.new.seat) hi
    c.leaf.ensures.turn))

pub returns-in-Empty-clause-turn : goal.returns-in-Empty-clause-turn
returns-in-Empty-clause-turn g c =
    after_no_leaf g.F.Fused.rows g.F.Fused.stands c.args.site.now.cut.now c.args.worker.now _ c.draw.new.hand
    c.pair.result c.in-Empty.ensures.next.taken
    c.pair.ensures.turn
