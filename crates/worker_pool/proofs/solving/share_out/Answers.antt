use Rattle.std.proofs.Common.{◌≡◌, ◌+◌, ◌-◌, [], ◌∷◌, ◌++◌, length, ap, sym, subst, ◌∙◌, append_assoc, length-append}
use Rattle.std.proofs.Common.{arith}
use Rattle.std.specs.List.{All}
use Rattle.std.proofs.lemmas.List.Elements.{All-push}
use Rattle.worker_pool.specs.Jobs.{IsJob, MayShare}
use Rattle.worker_pool.proofs.Sharing.{next_below, next_is, all_given, still_shares, is_job}
use Rattle.worker_pool.proofs.solving.share_out.Goals as goal

pub overflow_add-worker : goal.overflow_add-worker
overflow_add-worker g c =
    let here = c.loop-hand.invariant.rest ∙ ap (λ hs. c.loop-hand.yielded ++ hs) c.in-Some.ensures.steps.0 in
    omega (
      arith,
      c.loop-hand.invariant.counted,
      next_below c.args.blocks.now c.args.hands.items c.loop-hand.yielded
          c.requires.hands _ c.in-Some.hand here,
      c.requires.few_workers,
    )

pub share-old-requires-clause-spare : goal.share-old-requires-clause-spare
share-old-requires-clause-spare g c =
    let here = c.loop-hand.invariant.rest ∙ ap (λ hs. c.loop-hand.yielded ++ hs) c.in-Some.ensures.steps.0 in
    omega (
      arith,
      c.loop-hand.invariant.counted,
      next_below c.args.blocks.now c.args.hands.items c.loop-hand.yielded
          c.requires.hands _ c.in-Some.hand here,
      c.loop-hand.invariant.seat.spare_is,
    )

pub loop-hand-preserved : goal.loop-hand-preserved
loop-hand-preserved g c =
    let here = c.loop-hand.invariant.rest ∙ ap (λ hs. c.loop-hand.yielded ++ hs) c.in-Some.ensures.steps.0 in
    let less : c.args.blocks.now.partition.workers - c.loop-hand.worker - 1 ≡ c.args.blocks.now.partition.workers -
    (c.loop-hand.worker + 1) = omega arith in
    record {
      can_next = tt;
      is_finite = tt;
      rest = here ∙ sym (append_assoc c.loop-hand.yielded (c.in-Some.hand ∷ []) _);
      counted = omega (arith, c.loop-hand.invariant.counted, length-append c.loop-hand.yielded (c.in-Some.hand ∷ []));
      seat = still_shares c.args.board.now c.args.plan.now (c.args.blocks.now.partition.workers - c.loop-hand.worker)
          c.loop-hand.seat c.loop-hand.invariant.seat
          c.share-old.result.0 c.share-old.ensures.old _ less;
      each = (
          ap (λ js. length js) c.in_ok-push.ensures.items ∙ length-append c.loop-hand.jobs.items _
          ∙ ap (λ n. n + 1) c.loop-hand.invariant.each
          ∙ sym (length-append c.loop-hand.yielded (c.in-Some.hand ∷ []))
          );
      jobs = subst (λ js. All (IsJob c.args.board.now c.args.plan.now c.args.blocks.now) js)
          (sym c.in_ok-push.ensures.items)
          (All-push (IsJob c.args.board.now c.args.plan.now c.args.blocks.now) c.loop-hand.jobs.items _
          c.loop-hand.invariant.jobs
          (is_job c.args.board.now c.args.plan.now (c.args.blocks.now.partition.workers - c.loop-hand.worker)
          c.loop-hand.seat c.loop-hand.invariant.seat
          c.args.blocks.now c.share-old.result.1 c.in-Some.hand (length c.loop-hand.yielded) (c.loop-hand.worker + 1)
          c.share-old.ensures.new
          (next_is c.args.blocks.now c.args.hands.items c.loop-hand.yielded c.requires.hands _ c.in-Some.hand here)
          (omega (arith, c.loop-hand.invariant.counted))));
    }

pub returns-clause-seat : goal.returns-clause-seat
returns-clause-seat g c =
    let none = c.in-None.ensures.steps.0 in
    let ok = c.loop-hand.hand-iterator.rest.ok in
    let given = all_given c.args.blocks.now c.args.hands.items c.loop-hand.yielded c.requires.hands _
    c.loop-hand.invariant.rest (omega arith) in
    let left : c.args.blocks.now.partition.workers - c.loop-hand.worker ≡ 0 = omega
    (arith, c.loop-hand.invariant.counted) in
    subst (λ n. MayShare c.args.board.now c.args.plan.now n c.loop-hand.seat) left c.loop-hand.invariant.seat

pub returns-clause-each_hand : goal.returns-clause-each_hand
returns-clause-each_hand g c =
    let none = c.in-None.ensures.steps.0 in
    let ok = c.loop-hand.hand-iterator.rest.ok in
    let given = all_given c.args.blocks.now c.args.hands.items c.loop-hand.yielded c.requires.hands _
    c.loop-hand.invariant.rest (omega arith) in
    c.loop-hand.invariant.each ∙ given
