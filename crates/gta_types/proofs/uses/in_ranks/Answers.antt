use Rattle.std.proofs.Common.{◌<◌, [], ◌∷◌, length, ap, ◌∙◌, arith}
use Rattle.std.proofs.lemmas.List.Concat.{flat_map_single}
use Rattle.gta_spec.specs.declared.parts.RankPart.{RankPart}
use Rattle.gta_types.specs.Names.{use_of_rank}
use Rattle.gta_types.specs.Index.{unknown_in}
use Rattle.gta_types.proofs.Unknown.{unknown_in-nil, unknown_none_more, unknown_first}
use Rattle.gta_types.proofs.uses.in_ranks.Goals as goal

pub loop-rank-init : goal.loop-rank-init
loop-rank-init c = unknown_in-nil c.args.names.now

pub returns-then-is_some : goal.returns-then-is_some
returns-then-is_some c =
    let xs = c.args.keys.now in
    let lt : c.loop-rank.rank-index < length xs = omega arith in
    unknown_first c.args.names.now (λ (rank : RankPart). use_of_rank c.args.line rank ∷ []) xs c.loop-rank.rank-index
    c.rank-item.result c.unknown-found.result lt c.rank-item.is c.loop-rank.invariant c.unknown-found.ensures
    c.if-is_some.ensures
    ∙ ap (unknown_in c.args.names.now) (flat_map_single (use_of_rank c.args.line) xs)

pub loop-rank-preserved : goal.loop-rank-preserved
loop-rank-preserved c =
    let xs = c.args.keys.now in
    let lt : c.loop-rank.rank-index < length xs = omega arith in
    unknown_none_more c.args.names.now (λ (rank : RankPart). use_of_rank c.args.line rank ∷ []) xs
    c.loop-rank.rank-index
    c.rank-item.result c.unknown-found.result lt c.rank-item.is c.loop-rank.invariant c.unknown-found.ensures
    c.if-is_some.ensures
