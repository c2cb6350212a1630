-- The rows of a table that has no fault, or its first fault.
use Rattle.std.proofs.Common.{rules, Ok, ap}
use Rattle.outcome_kit.proofs.Outcomes.{unless-Ok}
use Rattle.gta_checked.specs.PlainRows.{plain_rows}
use Rattle.gta_rows.specs.Table.{rows_of, table_fault, table_outcome}
use Rattle.gta_job.specs.Ends.{Ends, end_of_table, told_by}
use Rattle.gta_job.specs.Outcome.{table_rows}
use Rattle.gta_job.proofs.Ordered.{table-ends}
use Rattle.gta_job.proofs.Records.{table-few}
use Rattle.gta_job.proofs.steps.table_rows.Goals as goal

pub returns-in_err-read_rows-clause-tells : goal.returns-in_err-read_rows-clause-tells
unfolding table_rows
returns-in_err-read_rows-clause-tells c =
    let fault = c.in_err-read_rows.field-0.0 in
    let ends : Ends (table_rows c.args.checked.now c.args.table.now) (end_of_table fault) =
    table-ends
    (table_outcome c.args.checked.now.version c.args.checked.now.columns c.args.table.now) fault
    c.in_err-read_rows.ensures.tells in
    search rules

pub returns-clause-tells : goal.returns-clause-tells
unfolding table_rows
returns-clause-tells c = ap (told_by end_of_table) c.in_ok-read_rows.ensures.tells

pub returns-clause-few : goal.returns-clause-few
returns-clause-few c =
    let items = c.args.checked.now.columns in
    let table = c.args.table.now in
    let rows = c.in_ok-read_rows.field-0 in
    let told = unless-Ok (table_fault c.args.checked.now.version items table) (Ok (rows_of items table))
    (plain_rows rows)
    c.in_ok-read_rows.ensures.tells in
    table-few c.args.checked.now.version items table rows c.in_ok-read_rows.ensures.table told.0
