use Rattle.std.proofs.Common.{rules, arith, of_calls, nat_lt}
use Rattle.std.proofs.lemmas.List.Sorted.{IsPartitionPoint-from_clause, IsPartitionedBy-ltb}
use Rattle.board_core.proofs.PlaceLemmas.{place_unique, non_decreasing}
use Rattle.board_core.proofs.places.place.Goals as goal

pub returns-clause-index : goal.returns-clause-index
returns-clause-index g c =
    let xs = c.args.intervals.now.items in
    place_unique g.I.Interval.lo c.args.lo xs c.partition_point.result c.requires
    (omega (arith, c.args.intervals.now.ok, c.partition_point.ensures.bound))
    (IsPartitionPoint-from_clause (λ x. nat_lt (g.I.Interval.lo x) c.args.lo) xs c.partition_point.result
    c.partition_point.ensures.partitioned
    (IsPartitionedBy-ltb g.I.Interval.lo xs c.args.lo (non_decreasing g.I.Interval.lo xs c.requires))
    (λ a r f k. search (rules, of_calls)))
