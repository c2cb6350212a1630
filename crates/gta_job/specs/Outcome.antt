-- What a command comes to on bytes: the text that it prints, or the first refusal, in steps that stop at the first.
use Rattle.std.specs.Prelude.{ℕ, Bool, false, not, ◌&&◌, ◌==◌, List, ◌++◌, length, drop, nat_lt}
use Rattle.std.specs.Prelude.{if◌then◌else◌, slice_get}
use Rattle.std.specs.Prelude.{Option, Some, None, option_map, Result, Ok}
use Rattle.outcome_kit.specs.Outcome.{and_then, unless}
use Rattle.drill_texts.specs.declared.drill.Drill.{Drill as Part}
use Rattle.drill_texts.specs.declared.drill.Drill.TheVariants.{Best, Greatest, Segments}
use Rattle.drill_texts.specs.Drills.{drill_text, heading}
use Rattle.gta_words.specs.declared.words.Command.{Command}
use Rattle.gta_words.specs.declared.words.Command.TheVariants.{Run, Show, List as ListKept, Drill}
use Rattle.report_text.specs.declared.refusal.Refusal.{Refusal}
use Rattle.report_text.specs.declared.refusal.Refusal.TheVariants.{Input, Negative, Heavy, ListSize}
use Rattle.report_text.specs.Texts.{list_text, report_text}
use Rattle.gta_canonical.specs.Canonical.{canonical}
use Rattle.gta_spec.specs.SpecText.{first_version}
use Rattle.gta_checked.specs.PlainRows.{PlainRows}
use Rattle.gta_checked.specs.Plain.{PlainChecked}
use Rattle.gta_syntax.specs.Refusals.{ReadTree, spec_of}
use Rattle.gta_types.specs.ResolvedOf.{checked_outcome, resolved_of}
use Rattle.gta_rows.specs.Table.{table_outcome}
use Rattle.gta_meaning.specs.Heavy.{first_heavy}
use Rattle.gta_meaning.specs.Kept.{kept}
use Rattle.gta_meaning.specs.Listed.{is_too_many}
use Rattle.test_homs.specs.declared.negatives.Negative.{Negative as FirstNegative}
use Rattle.test_homs.specs.Negatives.{first_negative}
use Rattle.gta_job.specs.declared.job.TheConstants.{FIRST_INPUT_LIMIT, INPUT_LIMIT}
use Rattle.gta_job.specs.declared.listing.TheConstants.{CANDIDATE_LIMIT, MARK_LIMIT}
use Rattle.gta_job.specs.Answers.{answer}
use Rattle.gta_job.specs.Ends.{end_of_checking, end_of_reading, end_of_table, told_by}
use Rattle.gta_job.specs.Sizes.{keys_refusal, size_refusal}

-- whether this version takes inputs past the limit of the first
abbrev pub is_large : Option ℕ → Bool
is_large None = false
is_large (Some version) = nat_lt 1 version

-- the refusal of an input of too many bytes: more than any version takes, or than the version takes that its first line
-- with tokens names
abbrev pub input_refusal : List ℕ → Option Refusal
input_refusal bytes =
    if nat_lt INPUT_LIMIT (length bytes) then Some (Input INPUT_LIMIT)
    else if nat_lt FIRST_INPUT_LIMIT (length bytes) && not (is_large (first_version bytes))
    then Some (Input FIRST_INPUT_LIMIT)
    else None

-- the specification that bytes are, with the place of its table; one that is checked has no fault
abbrev pub specification : List ℕ → Result ReadTree Refusal
specification bytes =
    unless (input_refusal bytes)
    (and_then (told_by end_of_reading (spec_of bytes)) (λ read.
    and_then (told_by end_of_checking (checked_outcome read.spec)) (λ checked.
    Ok read)))

-- the rows that the bytes of a table hold
unfoldable pub table_rows : PlainChecked → List ℕ → Result PlainRows Refusal
table_rows checked table = told_by end_of_table (table_outcome checked.version checked.columns table)

-- the refusal of a negative value, with its label's name where labels are declared
abbrev pub negative_of : PlainChecked → FirstNegative → Refusal
negative_of checked first = Negative first.test first.row (slice_get checked.labels first.label) first.value

abbrev pub negative_refusal : PlainChecked → PlainRows → Option Refusal
negative_refusal checked rows = option_map (negative_of checked) (first_negative checked rows)

-- the refusal of weights that pass the bound
abbrev pub heavy_refusal : PlainChecked → PlainRows → Option Refusal
heavy_refusal checked rows = option_map Heavy (first_heavy checked rows)

-- the report of the answer over rows: no negative value, no weight past the bound, and neither the keys nor the size
-- past their limits
abbrev pub rows_report : ℕ → PlainChecked → PlainRows → Result (List ℕ) Refusal
rows_report leaf checked rows =
    unless (negative_refusal checked rows)
    (unless (heavy_refusal checked rows)
    (unless (keys_refusal checked)
    (unless (size_refusal leaf checked rows)
    (Ok (report_text (answer checked rows) checked.labels)))))

-- the refusal of generated candidates that are too many, or that have too many marks together, to be listed
abbrev pub list_refusal : PlainChecked → PlainRows → Option Refusal
list_refusal checked rows = if is_too_many checked rows CANDIDATE_LIMIT MARK_LIMIT then Some ListSize else None

-- the list of the candidates that pass
abbrev pub rows_list : PlainChecked → PlainRows → Result (List ℕ) Refusal
rows_list checked rows =
    unless (negative_refusal checked rows)
    (unless (heavy_refusal checked rows)
    (unless (list_refusal checked rows)
    (Ok (list_text checked.labels (kept checked rows)))))

-- what is told of the rows of a job: of its specification with names resolved, and of the table behind it
abbrev pub of_rows : (PlainChecked → PlainRows → Result (List ℕ) Refusal) → List ℕ → Result (List ℕ) Refusal
of_rows told bytes =
    and_then (specification bytes) (λ read.
    and_then (table_rows (resolved_of read.spec) (drop read.rows_at bytes)) (λ rows.
    told (resolved_of read.spec) rows))

-- the report of the job that bytes hold, by leaves of so many rows
unfoldable pub report_outcome : ℕ → List ℕ → Result (List ℕ) Refusal
report_outcome leaf bytes = of_rows (rows_report leaf) bytes

-- the report of one job of a drill
unfoldable pub part_outcome : ℕ → ℕ → ℕ → Part → Result (List ℕ) Refusal
part_outcome leaf seed rows part = report_outcome leaf (drill_text part seed rows)

-- the heading of a drill, and the reports of its three jobs
abbrev pub drill_outcome : ℕ → ℕ → ℕ → Result (List ℕ) Refusal
drill_outcome leaf seed rows =
    and_then (part_outcome leaf seed rows Best) (λ best.
    and_then (part_outcome leaf seed rows Greatest) (λ greatest.
    and_then (part_outcome leaf seed rows Segments) (λ segments.
    Ok (((heading seed rows ++ best) ++ greatest) ++ segments))))

-- what a command comes to on bytes: the text that it prints, or the first of its refusals. The number of workers
-- shows nowhere, and that of a leaf's rows in the refusal of the size alone
unfoldable pub outcome : Command → List ℕ → Result (List ℕ) Refusal
outcome (Run workers leaf) bytes = report_outcome leaf bytes
outcome Show bytes = and_then (specification bytes) (λ read. Ok (canonical read.spec))
outcome ListKept bytes = of_rows rows_list bytes
outcome (Drill seed rows workers leaf) bytes = drill_outcome leaf seed rows
