use Rattle.std.proofs.Common.{◌≡◌, ◌∙◌, refl, ap, sym, arith}
use Rattle.steal_deal.specs.declared.partition.Partition.{Partition}
use Rattle.worker_pool.proofs.Taking.{leaf_taken, looked_further, own_looked}
use Rattle.worker_pool.proofs.drawing.draw.Goals as goal

pub returns-in-Leaf-clause-next : goal.returns-in-Leaf-clause-next
returns-in-Leaf-clause-next c =
    leaf_taken c.args.hand.now.view c.args.hand.now.view c.pop.new.self.view c.args.hand.now.view.number
    c.in-Leaf.number refl refl refl c.in-Leaf.ensures.draw

pub loop-from-init : goal.loop-from-init
loop-from-init c = record {
  dealt = c.pop.ensures.dealt;
  looks = own_looked c.args.hand.now.view c.pop.new.self.view c.args.hand.now.view.number c.pop.result
      c.in_default.not-Leaf c.pop.ensures.draw;
}

pub returns-in-Leaf-steal-clause-next : goal.returns-in-Leaf-steal-clause-next
returns-in-Leaf-steal-clause-next c =
    let looks = c.loop-from.invariant.looks in
    leaf_taken c.args.hand.now.view c.loop-from.hand.view c.steal.new.self.view c.loop-from.from
    c.in-Leaf-steal.number looks.taken looks.number looks.partition
    c.in-Leaf-steal.ensures.draw

pub loop-from-preserved : goal.loop-from-preserved
loop-from-preserved c = record {
  dealt = c.steal.ensures.dealt;
  looks = looked_further c.args.hand.now.view c.loop-from.hand.view c.steal.new.self.view c.loop-from.from
      c.steal.result c.loop-from.invariant.looks
      c.in_default-steal.not-Leaf c.steal.ensures.draw;
}

pub returns-clause-next : goal.returns-clause-next
returns-clause-next c =
    let looks = c.loop-from.invariant.looks in
    let workers : c.loop-from.hand.view.partition.workers ≡ c.workers-from-end.result =
    ap (λ (p : Partition). p.workers) c.loop-from.invariant.dealt.partition ∙ sym c.workers-from-end.ensures in
    record {
      taken = looks.taken;
      met = λ b below. looks.met b (omega (arith, workers, c.loop-from-test.false));
      number = looks.number;
    }
