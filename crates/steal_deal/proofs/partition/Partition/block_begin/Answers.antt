use Rattle.std.proofs.Common.{◌∙◌, sym, ap, ◌+◌, ◌*◌, ◌/◌, ℕ}
use Rattle.steal_deal.proofs.Partitions.{block_begin-closed}
use Rattle.steal_deal.proofs.partition.Partition.block_begin.Goals as goal

pub returns : goal.returns
returns c = let p = c.args.self in
    ap (λ (n : ℕ). c.args.block * (p.count / p.workers) + n) c.min.ensures ∙ sym (block_begin-closed p c.args.block)
