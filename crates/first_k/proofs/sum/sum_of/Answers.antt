-- Each candidate is the next one, and the merge of all is the first k of all.
use Rattle.std.proofs.Common.{◌≡◌, ◌∙◌, arith}
use Rattle.first_k.specs.Merged.{merged}
use Rattle.first_k.specs.declared.sum.Source.TheVariants.{Left, Right, End}
use Rattle.first_k.proofs.Merges.{next_is, merge_left, merge_right, merge_end, merge_full, merged-first_of}
use Rattle.first_k.proofs.sum.sum_of.Goals as goal
use Rattle.first_k.proofs.sum.sum_of.Goals.{else-merging-test, then-merging-test+in-End}

pub merging-preserved-in_ok-push-in-Left : goal.merging-preserved-in_ok-push-in-Left
merging-preserved-in_ok-push-in-Left g c =
    let items = g.Q.Queue.items in
    let order = g.R.Ranked.order c.args.ranked.now in
    record {
      few = omega arith;
      so_far =
          rw (c.in_ok-push-in-Left.ensures.items, c.in_ok-push-in-Left.ensures.len)
          (merge_left order c.args.k c.merging.sum.len c.merging.sum.items
          (items c.merging.a) (items c.merging.b) _ c.merging.invariant.so_far _ _ (omega arith)
          c.in_ok-take-in-Left.ensures
          (next_is order (items c.merging.a) (items c.merging.b) _ _ Left c.peek.ensures c.peek-in-merging.ensures
          c.in-Left.ensures));
    }

pub merging-preserved : goal.merging-preserved
merging-preserved g c =
    let items = g.Q.Queue.items in
    let order = g.R.Ranked.order c.args.ranked.now in
    record {
      few = omega arith;
      so_far =
          rw (c.in_ok-push-in-Right.ensures.items, c.in_ok-push-in-Right.ensures.len)
          (merge_right order c.args.k c.merging.sum.len c.merging.sum.items
          (items c.merging.a) (items c.merging.b) _ c.merging.invariant.so_far _ _ (omega arith)
          c.in_ok-take-in-Right.ensures
          (next_is order (items c.merging.a) (items c.merging.b) _ _ Right c.peek.ensures c.peek-in-merging.ensures
          c.in-Right.ensures));
    }

pub returns : goal.returns
returns g c =
    let items = g.Q.Queue.items in
    let order = g.R.Ranked.order c.args.ranked.now in
    c.of.ensures
    ∙ let all : c.merging.sum.items
    ≡ merged order c.args.k (items c.args.a) (items c.args.b) =
    elim c.merging-test.branch [
      | else-merging-test w ↦
          merge_full order c.args.k c.merging.sum.len c.merging.sum.items
          (items c.merging.a) (items c.merging.b) _ c.merging.invariant.so_far
          (omega (arith, w.merging-test.false))
      | then-merging-test+in-End w ↦
          merge_end order c.args.k c.merging.sum.len c.merging.sum.items
          (items c.merging.a) (items c.merging.b) _ c.merging.invariant.so_far
          (next_is order (items c.merging.a) (items c.merging.b) _ _ End w.peek.ensures w.peek-in-merging.ensures
          w.in-End.ensures)
    ] in
    all
    ∙ merged-first_of order (g.met.R.Ranked.ranking c.args.ranked.now) c.args.k
    (items c.args.a) (items c.args.b) c.requires.left_in_order c.requires.right_in_order
