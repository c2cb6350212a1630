-- The answer of a checked specification over rows, by its aggregate.
use Rattle.std.specs.Prelude.{ℕ, List, length, map, Some, None, option_map}
use Rattle.gta_checked.specs.PlainRows.{PlainRows}
use Rattle.gta_checked.specs.declared.resolved.Goal.{Goal}
use Rattle.gta_checked.specs.declared.resolved.Goal.TheVariants as goals
use Rattle.gta_checked.specs.Plain.{PlainChecked}
use Rattle.gta_meaning.specs.Answers.{any, best, count, greatest, least}
use Rattle.gta_meaning.specs.Ranks.{best_ranked, best_totals}
use Rattle.best_k.specs.Best.{entry_of}
use Rattle.fuse_answer.specs.Ranks.{lex_of, ranked_answer}
use Rattle.report_text.specs.declared.answer.Answer.{Answer}
use Rattle.report_text.specs.declared.answer.Answer.TheVariants.{Count, Any, Total, Best, Totals, RankedBest}

abbrev pub answer_by : Goal → PlainChecked → PlainRows → Answer
answer_by goals.Count checked rows = Count (count checked rows)
answer_by goals.Any checked rows = Any (any checked rows)
answer_by (goals.Max measure) checked rows = Total (greatest checked rows measure)
answer_by (goals.Min measure) checked rows = Total (least checked rows measure)
answer_by (goals.Best k greatest measure) checked rows = Best (map entry_of (best checked rows k greatest measure))
answer_by (goals.Ranked None keys) checked rows =
    Totals (length keys) (option_map lex_of (best_totals checked rows keys))
answer_by (goals.Ranked (Some k) keys) checked rows =
    RankedBest (length keys) (map ranked_answer (best_ranked checked rows k keys))

-- the answer over the candidates that pass
abbrev pub answer : PlainChecked → PlainRows → Answer
answer checked rows = answer_by checked.goal checked rows
