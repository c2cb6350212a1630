use Rattle.std.proofs.Common.{[], ◌∷◌, ◌++◌, ap, sym, subst, ◌∙◌, append_assoc, arith}
use Rattle.std.specs.List.{All, flat_map}
use Rattle.std.proofs.lemmas.List.{flat_map_more}
use Rattle.std.proofs.lemmas.List.Elements.{All-append}
use Rattle.worker_pool.specs.Walk.{IsGood}
use Rattle.worker_pool.specs.Jobs.{IsGoodDone}
use Rattle.worker_pool.proofs.Sharing.{all_here, all_gone_over}
use Rattle.worker_pool.proofs.solving.with_pockets.Goals as goal

pub loop-worker-preserved : goal.loop-worker-preserved
loop-worker-preserved g c =
    let here = c.loop-worker.invariant.rest ∙ ap (λ ds. c.loop-worker.yielded ++ ds) c.in-Some.ensures.steps.0 in
    let good = all_here (IsGoodDone g.F.Fused.rows g.F.Fused.stands c.args.plan.now) c.args.done.items
    c.loop-worker.yielded _ c.in-Some.worker here c.requires.done in
    record {
      can_next = tt;
      is_finite = tt;
      rest = here ∙ sym (append_assoc c.loop-worker.yielded (c.in-Some.worker ∷ []) _);
      all = (
          c.in_ok-append.ensures.items ∙ ap (λ ps. ps ++ c.in-Some.worker.pocket.items) c.loop-worker.invariant.all
          ∙ flat_map_more (λ d. d.pocket.items) c.args.pieces.items c.loop-worker.yielded c.in-Some.worker
          );
      good = subst (λ ps. All (IsGood (g.F.Fused.rows c.args.plan.now) (g.F.Fused.stands c.args.plan.now)) ps)
          (sym c.in_ok-append.ensures.items)
          (All-append (IsGood (g.F.Fused.rows c.args.plan.now) (g.F.Fused.stands c.args.plan.now))
          c.loop-worker.pieces.items c.in-Some.worker.pocket.items c.loop-worker.invariant.good good);
    }

pub returns-clause-all : goal.returns-clause-all
returns-clause-all g c =
    let none = c.in-None.ensures.steps.0 in
    let ok = c.loop-worker.worker-iterator.rest.ok in
    c.loop-worker.invariant.all
    ∙ ap (λ ds. c.args.pieces.items ++ flat_map (λ d. d.pocket.items) ds)
    (sym (all_gone_over c.args.done.items c.loop-worker.yielded _ c.loop-worker.invariant.rest (omega arith)))
