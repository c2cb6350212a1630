use Rattle.std.proofs.Common.{◌++◌, [], drop}
use Rattle.gta_canonical.specs.Canonical.{line_text, fronts, next_rank_front}
use Rattle.gta_canonical.proofs.Fronts.{Written}
use Rattle.gta_canonical.proofs.part_printing.put_more_ranks.Given as goal

abbrev pub invariant-loop-rank : goal.invariant-loop-rank
invariant-loop-rank l = Written next_rank_front l.out.items (drop l.rank-index l.ranks)
    (l.initial.out.items ++ line_text (fronts next_rank_front l.ranks []))
