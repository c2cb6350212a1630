use Rattle.std.proofs.Common.{◌≡◌, ◌-◌, ◌≤◌, ◌++◌, vec_len}
use Rattle.first_k.specs.Merged.{merged}
use Rattle.first_k.proofs.sum.sum_of.Given as goal

-- what was taken, and the rest merged, are both queues merged
abbrev pub invariant-merging : goal.invariant-merging
invariant-merging g l =
    let items = g.Q.Queue.items in
    let order = g.R.Ranked.order l.ranked in
    record {
      few : vec_len l.sum ≤ l.k;
      so_far : l.sum.items ++ merged order (l.k - vec_len l.sum) (items l.a) (items l.b)
          ≡ merged order l.k (items l.initial.a) (items l.initial.b);
    }

abbrev pub decreases-merging : goal.decreases-merging
decreases-merging g l = l.k - vec_len l.sum
