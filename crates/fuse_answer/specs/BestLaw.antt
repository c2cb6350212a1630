-- The list of the sum of run entries is the best k.
use Rattle.std.proofs.Common.{◌≡◌, ℕ, Bool, map, ap, ◌∙◌}
use Rattle.semiring_kit.specs.Aggregates.{sum_over}
use Rattle.semiring_kit.specs.LexLaws.{numbers-IsWeight}
use Rattle.semiring_kit.specs.Weight.{numbers}
use Rattle.best_k.specs.Best.{entry_of}
use Rattle.best_k.specs.RunEntries.{listed, runs_marked, runs_of}
use Rattle.best_k.proofs.Sums.{run_sum_is_best}
use Rattle.witness_order.specs.Before.{before}
use Rattle.witness_order.specs.Ranked.{first_of}
use Rattle.gta_checked.specs.Plain.{PlainChecked}
use Rattle.gta_checked.specs.PlainRows.{PlainRows}
use Rattle.gta_meaning.specs.Answers.{best}
use Rattle.gta_meaning.specs.Kept.{kept}
use Rattle.fuse_answer.specs.TotalLaws.{weighed-entries}
use Rattle.fuse_answer.specs.Weighed.{value_at}

pub sum-is_best : (k : ℕ) (greatest : Bool) (measure : ℕ) (checked : PlainChecked) (rows : PlainRows)
    → map listed (sum_over (runs_of numbers greatest k) (runs_marked numbers greatest k)
    (value_at checked rows measure) (kept checked rows))
    ≡ map entry_of (best checked rows k greatest measure)
sum-is_best k greatest measure checked rows =
    run_sum_is_best numbers numbers-IsWeight greatest k (value_at checked rows measure) (kept checked rows)
    ∙ ap (λ entries. map entry_of (first_of (before greatest) k entries))
    (weighed-entries checked rows measure (kept checked rows))
