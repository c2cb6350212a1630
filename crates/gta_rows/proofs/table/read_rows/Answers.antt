use Rattle.std.proofs.Common.{◌≡◌, ◌∙◌, ◌∷◌, List, Ok, None, Option, length, rules, sym, ap, subst, arith}
use Rattle.outcome_kit.specs.Outcome.{unless, Carries}
use Rattle.outcome_kit.proofs.Outcomes.{unless-Carries}
use Rattle.gta_spec.specs.declared.parts.ColumnItem.{ColumnItem}
use Rattle.gta_rows.specs.declared.fault.RowsFault.{RowsFault}
use Rattle.gta_rows.specs.Fields.{Record, trimmed_fields}
use Rattle.gta_rows.specs.Reading.{records_left}
use Rattle.gta_rows.specs.Table.{cells_in, fault_in, records_fault, rows_of, table_fault, table_outcome, table_records}
use Rattle.gta_rows.specs.Table.{IsTableOf}
use Rattle.gta_rows.proofs.Refusals.{Stops}
use Rattle.gta_rows.proofs.Tables.{table-tells}
use Rattle.gta_rows.proofs.table.read_rows.Goals as goal

pub returns-then-not-branch-clause-tells : goal.returns-then-not-branch-clause-tells
unfolding table_records records_fault
returns-then-not-branch-clause-tells c =
    let items = c.args.checked.now.columns in
    let whole : table_records c.args.bytes.now ≡ records_left c.reader_of-reader.result =
    sym (rw c.without_mark.ensures.bytes at c.reader_of-reader.ensures.records) in
    ap (λ (o : Option RowsFault). unless o (Ok (rows_of items c.args.bytes.now)))
    (ap (records_fault c.args.checked.now.version items) (whole ∙ c.in_ok-next_record.ensures.end c.if-not-branch.true))

pub returns-in_err-rows-clause-tells : goal.returns-in_err-rows-clause-tells
unfolding table_records
returns-in_err-rows-clause-tells c =
    let declared = c.args.checked.now.columns in
    let bytes = c.args.bytes.now in
    let fault = c.in_err-rows.field-0.0 in
    let whole : table_records bytes ≡ trimmed_fields c.next_record.new.row ∷ records_left c.next_record.new.reader =
    sym (rw c.without_mark.ensures.bytes at c.reader_of-reader.ensures.records)
    ∙ c.in_ok-next_record.ensures.next c.if-not-branch.false in
    let items : c.as_slice-items.result.now ≡ declared = c.as_slice-items.ensures.value ∙ c.columns.ensures.columns in
    let stops : Stops (table_fault c.args.checked.now.version declared bytes) fault =
    subst (λ (xs : List ColumnItem). Stops (table_fault c.args.checked.now.version xs bytes) fault) items
    (subst (λ (rows : List Record). Stops
    (records_fault c.args.checked.now.version c.as_slice-items.result.now rows) fault) (sym whole)
    (rw c.version.ensures at c.in_err-rows.ensures.tells)) in
    let ends : Carries (table_outcome c.args.checked.now.version declared bytes) (fault_in fault) =
    unless-Carries (table_fault c.args.checked.now.version declared bytes) (Ok (rows_of declared bytes))
    (fault_in fault) stops in
    search rules

pub returns : goal.returns
unfolding table_records
returns c =
    let declared = c.args.checked.now.columns in
    let records = trimmed_fields c.next_record.new.row ∷ records_left c.next_record.new.reader in
    let whole : table_records c.args.bytes.now ≡ records =
    sym (rw c.without_mark.ensures.bytes at c.reader_of-reader.ensures.records)
    ∙ c.in_ok-next_record.ensures.next c.if-not-branch.false in
    let items : c.as_slice-items.result.now ≡ declared = c.as_slice-items.ensures.value ∙ c.columns.ensures.columns in
    let table : IsTableOf declared c.args.bytes.now c.in_ok-rows.rows = record {
      count = omega (arith, c.in_ok-rows.ensures.count, ap (λ (rows : List Record). length rows) whole);
      columns = c.in_ok-rows.ensures.columns ∙ ap (λ (xs : List ColumnItem). length xs) items;
      cells = c.in_ok-rows.ensures.cells ∙ ap (λ (xs : List ColumnItem). cells_in xs records) items
          ∙ ap (cells_in declared) (sym whole);
    } in
    let version = c.args.checked.now.version in
    let none : table_fault version declared c.args.bytes.now ≡ None =
    ap (records_fault version declared) whole
    ∙ ap (λ (xs : List ColumnItem). records_fault version xs records) (sym items)
    ∙ (rw c.version.ensures at c.in_ok-rows.ensures.tells) in
    record { tells = table-tells declared c.args.bytes.now c.in_ok-rows.rows table version none; table = table }
