-- The sum of counts is how many candidates pass.
use Rattle.std.proofs.Common.{◌≡◌, ℤ}
use Rattle.shape_gen.specs.declared.mark.Mark.{Mark}
use Rattle.semiring_kit.specs.Aggregates.{sum_over}
use Rattle.semiring_kit.specs.Count as counts
use Rattle.semiring_kit.proofs.KitSums.{sum_counts}
use Rattle.gta_checked.specs.Plain.{PlainChecked}
use Rattle.gta_checked.specs.PlainRows.{PlainRows}
use Rattle.gta_meaning.specs.Answers.{count}
use Rattle.gta_meaning.specs.Kept.{kept}

pub sum-is_count : (weight : Mark → ℤ) (checked : PlainChecked) (rows : PlainRows)
    → sum_over counts.count counts.count_of_mark weight (kept checked rows) ≡ count checked rows
sum-is_count weight checked rows = sum_counts weight (kept checked rows)
