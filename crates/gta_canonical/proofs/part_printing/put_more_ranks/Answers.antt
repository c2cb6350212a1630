use Rattle.std.proofs.Common.{◌≡◌, ◌+◌, ◌∷◌, [], drop, arith}
use Rattle.std.proofs.lemmas.Grind.{common_steps}
use Rattle.gta_spec.proofs.Items.{drop_at}
use Rattle.gta_canonical.proofs.Fronts.{next_rank_is_front, written_at_item, written_at_end}
use Rattle.gta_canonical.proofs.part_printing.put_more_ranks.Goals as goal

pub loop-rank-preserved : goal.loop-rank-preserved
loop-rank-preserved c =
    let cut : drop c.loop-rank.rank-index c.args.ranks.now ≡ c.rank-item.result ∷ drop (c.loop-rank.rank-index + 1)
    c.args.ranks.now =
    drop_at _ _ c.rank-item.result c.loop-rank-test.true c.rank-item.is in
    written_at_item next_rank_is_front (rw cut at c.loop-rank.invariant) c.in_ok-put_next_rank.ensures

pub returns : goal.returns
returns c =
    let empty : drop c.loop-rank.rank-index c.args.ranks.now ≡ [] = grind (arith, common_steps) in
    written_at_end (rw empty at c.loop-rank.invariant)
