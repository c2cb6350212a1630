-- The refusals that faults are told by, and what a job tells of an outcome.
use Rattle.std.specs.Prelude.{Option, Some, None, Result, Ok, Err}
use Rattle.outcome_kit.specs.Outcome as outcomes
use Rattle.gta_syntax.specs.declared.fault.SpecFault.{SpecFault}
use Rattle.gta_syntax.specs.declared.fault.SpecFault.TheVariants as reading
use Rattle.spec_automata.specs.declared.fault.AutomataFault.{AutomataFault}
use Rattle.spec_automata.specs.declared.fault.AutomataFault.TheVariants as automata
use Rattle.spec_tables.specs.declared.fault.TablesFault.{TablesFault}
use Rattle.spec_tables.specs.declared.fault.TablesFault.TheVariants as tables
use Rattle.gta_types.specs.declared.fault.CheckFault.{CheckFault}
use Rattle.gta_types.specs.declared.fault.CheckFault.TheVariants as checking
use Rattle.gta_rows.specs.declared.fault.RowsFault.{RowsFault}
use Rattle.gta_rows.specs.declared.fault.RowsFault.TheVariants as table
use Rattle.report_text.specs.declared.refusal.Refusal.{Refusal}
use Rattle.report_text.specs.declared.refusal.Refusal.TheVariants as refusals
use Rattle.report_text.specs.declared.refusal.Refusal.TheVariants.{Input}
use Rattle.gta_job.specs.declared.job.JobEnd.{JobEnd}
use Rattle.gta_job.specs.declared.job.JobEnd.TheVariants.{Refused, Memory}

-- what a fault of reading ends a job with
abbrev pub end_of_reading : SpecFault → JobEnd
end_of_reading (reading.Byte line place) = Refused (refusals.Byte line place)
end_of_reading (reading.Version line) = Refused (refusals.Version line)
end_of_reading (reading.Grammar line) = Refused (refusals.Grammar line)
end_of_reading (reading.Number line) = Refused (refusals.Number line)
end_of_reading reading.NoRows = Refused refusals.NoRows
end_of_reading reading.Memory = Memory

-- what a fault of the tables ends a job with
abbrev pub end_of_tables : TablesFault → JobEnd
end_of_tables (tables.UnitFails table element left) = Refused (refusals.UnitFails table element left)
end_of_tables (tables.NotAssociative table a b c) = Refused (refusals.NotAssociative table a b c)
end_of_tables (tables.NotSquare table element) = Refused (refusals.NotSquare table element)
end_of_tables tables.Memory = Memory

-- what a fault of the automata ends a job with
abbrev pub end_of_automata : AutomataFault → JobEnd
end_of_automata (automata.NotTotal name letter) = Refused (refusals.Automaton name (Some letter))
end_of_automata (automata.TooMany name) = Refused (refusals.Automaton name None)
end_of_automata automata.Memory = Memory

-- what a fault of checking ends a job with
abbrev pub end_of_checking : CheckFault → JobEnd
end_of_checking (checking.Unknown line name) = Refused (refusals.Unknown line name)
end_of_checking (checking.Twice line name) = Refused (refusals.Twice line name)
end_of_checking (checking.Missing part) = Refused (refusals.Missing part)
end_of_checking (checking.SecondPart line part) = Refused (refusals.SecondPart line part)
end_of_checking (checking.LabelsAssign line assign) = Refused (refusals.LabelsAssign line assign)
end_of_checking (checking.Limit line limit) = Refused (refusals.Limit line limit)
end_of_checking (checking.Table fault) = end_of_tables fault
end_of_checking (checking.Automaton fault) = end_of_automata fault
end_of_checking checking.Memory = Memory

-- what a fault of the table ends a job with
abbrev pub end_of_table : RowsFault → JobEnd
end_of_table table.NoHeader = Refused refusals.NoHeader
end_of_table (table.Missing column) = Refused (refusals.ColumnMissing column)
end_of_table (table.ColumnTwice column) = Refused (refusals.ColumnTwice column)
end_of_table (table.Length row fields header) = Refused (refusals.Length row fields header)
end_of_table (table.Field row column) = Refused (refusals.Field row column)
end_of_table (table.TooMany limit) = Refused (refusals.TooMany limit)
end_of_table table.Memory = Memory

-- the refusal that a job ends with, where it ends with one; want of memory is none
abbrev pub refusal_in : JobEnd → Option Refusal
refusal_in (Refused refusal) = Some refusal
refusal_in Memory = None

-- the refusal of an end. Want of memory is none: no definition of what bytes are gives it
abbrev pub refused : {T : Type 0} → JobEnd → Result T Refusal
refused (Refused refusal) = Err refusal
refused Memory = Err (Input 0)

-- the same outcome, where its fault is told as a refusal
abbrev pub told_by : {T F : Type 0} → (F → JobEnd) → Result T F → Result T Refusal
told_by end_of (Ok value) = Ok value
told_by end_of (Err fault) = refused (end_of fault)

-- what ends of jobs, and their results, tell of an outcome

abbrev pub Ends : {T : Type 0} → Result T Refusal → JobEnd → Type 0
Ends outcome end = outcomes.Carries outcome (refusal_in end)

abbrev pub Tells : {S T : Type 0} → (S → T) → Result T Refusal → Result S JobEnd → Type 0
Tells seen outcome result = outcomes.Tells refusal_in seen outcome result

abbrev pub Passes : {S : Type 0} → Option Refusal → Result S JobEnd → Type 0
Passes refusal result = outcomes.Passes refusal_in refusal result
