use Rattle.std.proofs.Common.{◌≡◌, ◌∙◌, ◌∷◌, List, ℕ, length, rules, sym, subst}
use Rattle.std.proofs.lemmas.List.{length-map}
use Rattle.std.specs.Option.{option_or}
use Rattle.csv.specs.Records.{fields_of}
use Rattle.gta_spec.specs.declared.parts.ColumnItem.{ColumnItem}
use Rattle.gta_rows.specs.Body.{IsBodyOf}
use Rattle.gta_rows.specs.Fields.{trimmed, trimmed_fields}
use Rattle.gta_rows.specs.Reading.{records_left}
use Rattle.gta_rows.specs.Table.{cells_in, records_fault, header_text, no_cell, place_in, places}
use Rattle.gta_rows.specs.Table.{too_many}
use Rattle.gta_rows.proofs.Refusals.{moved, under_header, under_lengths, cells_fault}
use Rattle.gta_rows.proofs.Refusals.{bad_within, Stops}
use Rattle.gta_rows.proofs.table.rows_under.Goals as goal

pub returns-in_err-columns-clause-tells : goal.returns-in_err-columns-clause-tells
returns-in_err-columns-clause-tells c =
    let is : Stops (records_fault c.args.version c.args.items.now
    (trimmed_fields c.args.header.now ∷ records_left c.args.reader.now)) c.in_err-columns.field-0.0 =
    under_header c.args.version c.args.items.now (trimmed_fields c.args.header.now)
    (records_left c.args.reader.now) c.in_err-columns.field-0.0
    c.in_err-columns.ensures.tells in
    search rules

pub returns-in_err-body-clause-tells : goal.returns-in_err-body-clause-tells
returns-in_err-body-clause-tells c =
    let wide : c.len.result ≡ length (trimmed_fields c.args.header.now) = c.len.ensures
    ∙ sym (length-map (fields_of c.args.header.now) trimmed) in
    let is : Stops (records_fault c.args.version c.args.items.now
    (trimmed_fields c.args.header.now ∷ records_left c.args.reader.now)) c.in_err-body.field-0.0 =
    under_lengths c.args.version c.args.items.now (trimmed_fields c.args.header.now)
    (records_left c.args.reader.now) c.len.result c.in_err-body.field-0.0
    c.in_ok-columns.ensures.none_missing c.in_ok-columns.ensures.none_twice wide c.in_err-body.ensures.tells in
    search rules

pub rows_of-requires-clause-known : goal.rows_of-requires-clause-known
rows_of-requires-clause-known c =
    let header = trimmed_fields c.args.header.now in
    let body = subst (λ (columns : List ℕ). IsBodyOf columns (records_left c.args.reader.now) c.in_ok-body.body)
    (c.as_slice.ensures.value ∙ c.in_ok-columns.ensures.places) c.in_ok-body.ensures.body in
    bad_within (places header c.args.items.now) (records_left c.args.reader.now) c.in_ok-body.body.bad
    (length c.args.items.now)
    body.bad (length-map c.args.items.now (λ (item : ColumnItem). place_in header (header_text item)))

pub returns-in_err-rows-clause-tells : goal.returns-in_err-rows-clause-tells
returns-in_err-rows-clause-tells c =
    let header = trimmed_fields c.args.header.now in
    let wide : c.len.result ≡ length header = c.len.ensures
    ∙ sym (length-map (fields_of c.args.header.now) trimmed) in
    let body = subst (λ (columns : List ℕ). IsBodyOf columns (records_left c.args.reader.now) c.in_ok-body.body)
    (c.as_slice.ensures.value ∙ c.in_ok-columns.ensures.places) c.in_ok-body.ensures.body in
    let is : Stops (records_fault c.args.version c.args.items.now
    (trimmed_fields c.args.header.now ∷ records_left c.args.reader.now)) c.in_err-rows.field-0.0 =
    moved (option_or (no_cell c.args.items.now c.in_ok-body.body.bad) (too_many c.args.version c.in_ok-body.body.count))
    (records_fault c.args.version c.args.items.now
    (trimmed_fields c.args.header.now ∷ records_left c.args.reader.now)) c.in_err-rows.field-0.0
    (λ e named. cells_fault c.args.version c.args.items.now header
    (records_left c.args.reader.now) c.len.result c.in_ok-body.body.bad c.in_ok-body.body.count
    c.in_ok-columns.ensures.none_missing c.in_ok-columns.ensures.none_twice wide
    c.in_ok-body.ensures.tells body.bad body.count ∙ named)
    c.in_err-rows.ensures.tells in
    search rules

pub returns-clause-cells : goal.returns-clause-cells
unfolding cells_in
returns-clause-cells c =
    let body = subst (λ (columns : List ℕ). IsBodyOf columns (records_left c.args.reader.now) c.in_ok-body.body)
    (c.as_slice.ensures.value ∙ c.in_ok-columns.ensures.places) c.in_ok-body.ensures.body in
    rw c.in_ok-rows.ensures.cells (body.cells c.in_ok-rows.ensures.good c.in_ok-rows.ensures.few)

pub returns-clause-tells : goal.returns-clause-tells
returns-clause-tells c =
    let header = trimmed_fields c.args.header.now in
    let wide : c.len.result ≡ length header = c.len.ensures
    ∙ sym (length-map (fields_of c.args.header.now) trimmed) in
    let body = subst (λ (columns : List ℕ). IsBodyOf columns (records_left c.args.reader.now) c.in_ok-body.body)
    (c.as_slice.ensures.value ∙ c.in_ok-columns.ensures.places) c.in_ok-body.ensures.body in
    cells_fault c.args.version c.args.items.now header
    (records_left c.args.reader.now) c.len.result c.in_ok-body.body.bad c.in_ok-body.body.count
    c.in_ok-columns.ensures.none_missing c.in_ok-columns.ensures.none_twice wide
    c.in_ok-body.ensures.tells body.bad body.count
    ∙ c.in_ok-rows.ensures.tells
