-- The size of a job: how many entries its pieces may have together.
use Rattle.std.specs.Prelude.{ℕ, ◌*◌, nat_lt, length, Option, Some, None, if◌then◌else◌}
use Rattle.shape_gen.specs.Parts.{components}
use Rattle.monoid_product.specs.declared.product.TheConstants.{KEY_LIMIT}
use Rattle.gta_checked.specs.PlainRows.{PlainRows}
use Rattle.gta_checked.specs.Plain.{PlainChecked}
use Rattle.test_homs.specs.Sizes.{key_count}
use Rattle.fuse_answer.specs.Sizes.{kept_a_key, pieces_by}
use Rattle.report_text.specs.declared.refusal.Refusal.{Refusal}
use Rattle.report_text.specs.declared.refusal.Refusal.TheVariants.{Keys, Size}
use Rattle.gta_job.specs.declared.size.TheConstants.{SIZE_LIMIT}

-- an entry for each component, key, kept candidate and piece
abbrev pub job_size : ℕ → PlainChecked → PlainRows → ℕ
job_size leaf checked rows =
    length (components checked.shape) * key_count checked * kept_a_key checked.goal
    * pieces_by checked.goal leaf rows.count

-- the refusal of a number of keys past the limit
abbrev pub keys_refusal : PlainChecked → Option Refusal
keys_refusal checked = if nat_lt KEY_LIMIT (key_count checked) then Some (Keys (key_count checked)) else None

-- the refusal of a size past the limit
abbrev pub size_refusal : ℕ → PlainChecked → PlainRows → Option Refusal
size_refusal leaf checked rows =
    if nat_lt SIZE_LIMIT (job_size leaf checked rows) then Some (Size (job_size leaf checked rows)) else None
