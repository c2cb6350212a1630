-- A list, or the refusal of the specification or of the table.
use Rattle.std.proofs.Common.{rules, ◌≡◌, ℕ, Ok, drop, subst, Vec, Global}
use Rattle.gta_checked.specs.PlainRows.{plain_rows}
use Rattle.gta_syntax.specs.Refusals.{read_tree}
use Rattle.gta_types.specs.ResolvedOf.{resolved_of}
use Rattle.gta_words.specs.declared.words.Command.TheVariants.{List as ListKept}
use Rattle.gta_job.specs.Ends.{Ends, Tells}
use Rattle.gta_job.specs.Outcome.{outcome, rows_list, table_rows}
use Rattle.gta_job.proofs.Ordered.{of_rows-told, of_spec-ends, of_table-ends, tells-same}
use Rattle.gta_job.proofs.listing.list_job.Goals as goal

pub returns-in_err-read : goal.returns-in_err-read
unfolding outcome
returns-in_err-read c =
    let ends : Ends (outcome ListKept c.args.bytes.now) c.in_err-read.field-0.0 =
    of_spec-ends rows_list c.args.bytes.now c.in_err-read.field-0.0 c.in_err-read.ensures.tells in
    search rules

pub returns-in_err-rows : goal.returns-in_err-rows
unfolding outcome
returns-in_err-rows c =
    let read = read_tree c.in_ok-read.read in
    let end = c.in_err-rows.field-0.0 in
    let table = drop read.rows_at c.args.bytes.now in
    let stops : Ends (table_rows (resolved_of read.spec) table) end =
    subst (λ checked. Ends (table_rows checked table) end) c.in_ok-read.ensures.resolved
    (subst (λ table. Ends (table_rows c.in_ok-read.checked table) end) c.bytes_from.ensures
    c.in_err-rows.ensures.tells) in
    let ends : Ends (outcome ListKept c.args.bytes.now) end =
    of_table-ends rows_list c.args.bytes.now read end c.in_ok-read.ensures.tells stops in
    search rules

pub returns : goal.returns
unfolding outcome
returns c =
    let read = read_tree c.in_ok-read.read in
    let rows = plain_rows c.in_ok-rows.rows in
    let table = drop read.rows_at c.args.bytes.now in
    let result = c.rows_list.result in
    let are_rows : table_rows (resolved_of read.spec) table ≡ Ok rows =
    subst (λ checked. table_rows checked table ≡ Ok rows) c.in_ok-read.ensures.resolved
    (subst (λ table. table_rows c.in_ok-read.checked table ≡ Ok rows) c.bytes_from.ensures
    c.in_ok-rows.ensures.tells) in
    let told : Tells (λ (text : Vec ℕ Global). text.items) (rows_list (resolved_of read.spec) rows) result =
    subst (λ checked. Tells (λ (text : Vec ℕ Global). text.items) (rows_list checked rows) result)
    c.in_ok-read.ensures.resolved c.rows_list.ensures.tells in
    record {
      tells = tells-same (λ (text : Vec ℕ Global). text.items) (outcome ListKept c.args.bytes.now)
          (rows_list (resolved_of read.spec) rows) result
          (of_rows-told rows_list c.args.bytes.now read rows c.in_ok-read.ensures.tells are_rows) told;
    }
