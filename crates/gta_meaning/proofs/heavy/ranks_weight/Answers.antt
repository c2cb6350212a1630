use Rattle.std.proofs.Common.{◌≡◌, ◌∙◌, ap, sym, max, take, arith}
use Rattle.gta_checked.specs.PlainRows.{plain_rows}
use Rattle.gta_checked.specs.declared.resolved.Rank.{Rank}
use Rattle.gta_meaning.specs.Heavy.{measure_weight, rank_measures, row_weight}
use Rattle.gta_meaning.proofs.Weights.{greatest-taken}
use Rattle.gta_meaning.proofs.heavy.ranks_weight.Goals as goal

pub loop-rank-preserved : goal.loop-rank-preserved
loop-rank-preserved c =
    let checked = c.args.checked.now in
    let rows = plain_rows c.args.rows.now in
    let before = row_weight checked rows (rank_measures (take c.loop-rank.rank-index c.args.ranks.now)) c.args.row in
    let greatest : c.max-greatest.result ≡ max c.loop-rank.greatest c.measure_weight.result = grind arith in
    record {
      so_far =
          greatest
          ∙ ap (λ n. max n c.measure_weight.result) c.loop-rank.invariant.so_far
          ∙ ap (max before) c.measure_weight.ensures.weight
          ∙ sym (greatest-taken (λ (rank : Rank). rank.measure) (measure_weight checked rows c.args.row)
          c.args.ranks.now c.loop-rank.rank-index _ c.loop-rank-test.true);
      within = let bounded = c.measure_weight.ensures.bounded in omega arith;
    }
