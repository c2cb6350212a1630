-- What follows the steps of an outcome, where they give a value, and where they end with a refusal.
use Rattle.std.proofs.Common.{◌≡◌, ℕ, ◌∙◌, List, drop, Result, Ok, None, refl, sym, ap, subst}
use Rattle.outcome_kit.specs.Outcome.{and_then, Carries}
use Rattle.outcome_kit.proofs.Outcomes.{and_then-Carries}
use Rattle.gta_checked.specs.PlainRows.{PlainRows}
use Rattle.gta_checked.specs.Plain.{PlainChecked}
use Rattle.spec_automata.specs.declared.fault.AutomataFault.TheVariants as automata
use Rattle.spec_tables.specs.declared.fault.TablesFault.TheVariants as tables
use Rattle.gta_syntax.specs.declared.fault.SpecFault.{SpecFault}
use Rattle.gta_syntax.specs.declared.fault.SpecFault.TheVariants as reads
use Rattle.gta_syntax.specs.Refusals as reading
use Rattle.gta_syntax.specs.Refusals.{ReadTree, spec_of}
use Rattle.gta_types.specs.declared.fault.CheckFault.{CheckFault}
use Rattle.gta_types.specs.declared.fault.CheckFault.TheVariants as checks
use Rattle.gta_types.specs.Faults as checking
use Rattle.gta_types.specs.ResolvedOf.{checked_outcome, resolved_of}
use Rattle.gta_rows.specs.declared.fault.RowsFault.{RowsFault}
use Rattle.gta_rows.specs.declared.fault.RowsFault.TheVariants as table
use Rattle.gta_rows.specs.Table as rows
use Rattle.report_text.specs.declared.refusal.Refusal.{Refusal}
use Rattle.gta_job.specs.declared.job.JobEnd.{JobEnd}
use Rattle.gta_job.specs.Ends.{Ends, Tells, end_of_checking, end_of_reading, end_of_table, refusal_in, told_by}
use Rattle.gta_job.specs.Outcome.{input_refusal, of_rows, specification, table_rows}

module _ {S T : Type 0} where
  -- a step that ends with a refusal ends all
  pub then-ends : (step : Result S Refusal) (next : S → Result T Refusal) (end : JobEnd) → Ends step end
      → Ends (and_then step next) end
  then-ends step next end ends = and_then-Carries step next (refusal_in end) ends

  -- where a step gives a value, what follows decides
  pub then-later : (step : Result S Refusal) (value : S) (next : S → Result T Refusal) (end : JobEnd)
      → step ≡ Ok value → Ends (next value) end → Ends (and_then step next) end
  then-later step value next end is ends = subst (λ outcome. Ends outcome end)
      (sym (ap (λ step. and_then step next) is)) ends

-- the end of a call below, told as the end of a job
module _ {T : Type 0} where
  reading-ends : (outcome : Result T SpecFault) (fault : SpecFault) → Carries outcome (reading.fault_in fault)
      → Ends (told_by end_of_reading outcome) (end_of_reading fault)
  reading-ends outcome (reads.Byte line place) is = ap (told_by end_of_reading) is
  reading-ends outcome (reads.Version line) is = ap (told_by end_of_reading) is
  reading-ends outcome (reads.Grammar line) is = ap (told_by end_of_reading) is
  reading-ends outcome (reads.Number line) is = ap (told_by end_of_reading) is
  reading-ends outcome reads.NoRows is = ap (told_by end_of_reading) is
  reading-ends outcome reads.Memory is = tt

  checking-ends : (outcome : Result T CheckFault) (fault : CheckFault) → Carries outcome (checking.fault_in fault)
      → Ends (told_by end_of_checking outcome) (end_of_checking fault)
  checking-ends outcome (checks.Unknown line name) is = ap (told_by end_of_checking) is
  checking-ends outcome (checks.Twice line name) is = ap (told_by end_of_checking) is
  checking-ends outcome (checks.Missing part) is = ap (told_by end_of_checking) is
  checking-ends outcome (checks.SecondPart line part) is = ap (told_by end_of_checking) is
  checking-ends outcome (checks.LabelsAssign line assign) is = ap (told_by end_of_checking) is
  checking-ends outcome (checks.Limit line limit) is = ap (told_by end_of_checking) is
  checking-ends outcome (checks.Table (tables.UnitFails table element left)) is = ap (told_by end_of_checking) is
  checking-ends outcome (checks.Table (tables.NotAssociative table a b c)) is = ap (told_by end_of_checking) is
  checking-ends outcome (checks.Table (tables.NotSquare table element)) is = ap (told_by end_of_checking) is
  checking-ends outcome (checks.Table tables.Memory) is = tt
  checking-ends outcome (checks.Automaton (automata.NotTotal name letter)) is = ap (told_by end_of_checking) is
  checking-ends outcome (checks.Automaton (automata.TooMany name)) is = ap (told_by end_of_checking) is
  checking-ends outcome (checks.Automaton automata.Memory) is = tt
  checking-ends outcome checks.Memory is = tt

  pub table-ends : (outcome : Result T RowsFault) (fault : RowsFault) → Carries outcome (rows.fault_in fault)
      → Ends (told_by end_of_table outcome) (end_of_table fault)
  table-ends outcome table.NoHeader is = ap (told_by end_of_table) is
  table-ends outcome (table.Missing column) is = ap (told_by end_of_table) is
  table-ends outcome (table.ColumnTwice column) is = ap (told_by end_of_table) is
  table-ends outcome (table.Length row fields header) is = ap (told_by end_of_table) is
  table-ends outcome (table.Field row column) is = ap (told_by end_of_table) is
  table-ends outcome (table.TooMany limit) is = ap (told_by end_of_table) is
  table-ends outcome table.Memory is = tt

-- the specification of bytes that are not too many
module _ (bytes : List ℕ) (few : input_refusal bytes ≡ None) where
  abbrev checked_for : ReadTree → Result ReadTree Refusal
  checked_for read = and_then (told_by end_of_checking (checked_outcome read.spec)) (λ checked. Ok read)

  not_refused : specification bytes ≡ and_then (told_by end_of_reading (spec_of bytes)) checked_for
  not_refused = rw few refl

  is_read : (read : ReadTree) → spec_of bytes ≡ Ok read → specification bytes ≡ checked_for read
  is_read read is = not_refused ∙ ap (λ (outcome : Result ReadTree SpecFault).
      and_then (told_by end_of_reading outcome) checked_for) is

  pub read-ends : (fault : SpecFault) → Carries (spec_of bytes) (reading.fault_in fault)
      → Ends (specification bytes) (end_of_reading fault)
  read-ends fault is =
      subst (λ outcome. Ends outcome (end_of_reading fault)) (sym not_refused)
      (then-ends (told_by end_of_reading (spec_of bytes)) checked_for (end_of_reading fault)
      (reading-ends (spec_of bytes) fault is))

  pub check-ends : (read : ReadTree) (fault : CheckFault) → spec_of bytes ≡ Ok read
      → Carries (checked_outcome read.spec) (checking.fault_in fault)
      → Ends (specification bytes) (end_of_checking fault)
  check-ends read fault is_spec is =
      subst (λ outcome. Ends outcome (end_of_checking fault)) (sym (is_read read is_spec))
      (then-ends (told_by end_of_checking (checked_outcome read.spec)) (λ checked. Ok read) (end_of_checking fault)
      (checking-ends (checked_outcome read.spec) fault is))

  pub spec-told : (read : ReadTree) (checked : PlainChecked) → spec_of bytes ≡ Ok read
      → checked_outcome read.spec ≡ Ok checked → specification bytes ≡ Ok read
  spec-told read checked is_spec is = is_read read is_spec
      ∙ ap (λ (outcome : Result PlainChecked CheckFault).
      and_then (told_by end_of_checking outcome) (λ checked. Ok read)) is

module _ (told : PlainChecked → PlainRows → Result (List ℕ) Refusal) (bytes : List ℕ) where
  abbrev rows_told : ReadTree → Result (List ℕ) Refusal
  rows_told read =
      and_then (table_rows (resolved_of read.spec) (drop read.rows_at bytes))
      (λ rows. told (resolved_of read.spec) rows)

  -- what is told of a job whose specification and rows have no refusal
  pub of_rows-told : (read : ReadTree) (rows : PlainRows) → specification bytes ≡ Ok read
      → table_rows (resolved_of read.spec) (drop read.rows_at bytes) ≡ Ok rows
      → of_rows told bytes ≡ told (resolved_of read.spec) rows
  of_rows-told read rows is_read are_rows =
      ap (λ step. and_then step rows_told) is_read
      ∙ ap (λ step. and_then step (λ rows. told (resolved_of read.spec) rows)) are_rows

  pub of_spec-ends : (end : JobEnd) → Ends (specification bytes) end → Ends (of_rows told bytes) end
  of_spec-ends end ends = then-ends (specification bytes) rows_told end ends

  pub of_table-ends : (read : ReadTree) (end : JobEnd) → specification bytes ≡ Ok read
      → Ends (table_rows (resolved_of read.spec) (drop read.rows_at bytes)) end → Ends (of_rows told bytes) end
  of_table-ends read end is_read ends =
      subst (λ outcome. Ends outcome end) (sym (ap (λ step. and_then step rows_told) is_read))
      (then-ends (table_rows (resolved_of read.spec) (drop read.rows_at bytes))
      (λ rows. told (resolved_of read.spec) rows) end ends)

-- a result that tells an outcome tells the same outcome
pub tells-same : {S T : Type 0} (seen : S → T) (a b : Result T Refusal) (result : Result S JobEnd) → a ≡ b
    → Tells seen b result → Tells seen a result
tells-same seen a b result same tells = subst (λ outcome. Tells seen outcome result) (sym same) tells
