use Rattle.std.proofs.Common.{◌≡◌, ◌∙◌, ◌++◌, ◌∷◌, [], List, ℕ, length, Some, append_assoc, sym, ap}
use Rattle.std.proofs.Common.{refl, arith}
use Rattle.std.proofs.lemmas.List.{length-map}
use Rattle.csv.specs.Records.{fields_of}
use Rattle.gta_rows.specs.declared.fault.RowsFault.TheVariants.{Length}
use Rattle.gta_rows.specs.Fields.{Record, trimmed, trimmed_fields}
use Rattle.gta_rows.specs.Reading.{records_left}
use Rattle.gta_rows.specs.Table.{cells_of, first_bad_cell, wrong_length}
use Rattle.gta_rows.proofs.Bodies.{length_here, lengths_more}
use Rattle.gta_rows.proofs.body.read_body.Goals as goal

pub loop-row-init : goal.loop-row-init
unfolding wrong_length first_bad_cell cells_of
loop-row-init c = record {
  reading = c.requires.reading;
  seen = [];
  whole = refl;
  lengths = refl;
  body = record {
    count = refl;
    bad = refl;
    cells = λ none few. c.new.ensures.items;
    whole = λ none few. rw c.new.ensures.items (omega arith);
    within = rw c.new.ensures.items refl;
  };
}

pub returns-then-len-width-clause-tells : goal.returns-then-len-width-clause-tells
returns-then-len-width-clause-tells c =
    let before = c.loop-row.invariant in
    let fields = trimmed_fields c.next_record.new.row in
    let same : length fields ≡ length (fields_of c.next_record.new.row) = length-map
    (fields_of c.next_record.new.row) trimmed in
    let whole : records_left c.args.reader.now ≡ before.seen ++ fields ∷ records_left c.next_record.new.reader =
    sym before.whole ∙ ap (λ (xs : List Record). before.seen ++ xs)
    (c.in_ok-next_record.ensures.next c.if-branch.true) in
    ap (λ (xs : List Record). wrong_length c.args.width xs) whole
    ∙ length_here c.args.width before.seen fields (records_left c.next_record.new.reader) before.lengths
    (λ e. omega (arith, e, same, c.len.ensures, c.if-len-width.true))
    ∙ ap (λ (n : ℕ). Some (Length n (length fields) c.args.width)) (sym before.body.count)
    ∙ ap (λ (n : ℕ). Some (Length c.loop-row.body.count n c.args.width)) (same ∙ sym c.len-then-len-width.ensures)

pub loop-row-preserved : goal.loop-row-preserved
loop-row-preserved c =
    let before = c.loop-row.invariant in
    let fields = trimmed_fields c.next_record.new.row in
    let same : length fields ≡ length (fields_of c.next_record.new.row) = length-map
    (fields_of c.next_record.new.row) trimmed in
    record {
      reading = c.in_ok-next_record.ensures.reading c.if-branch.true;
      seen = before.seen ++ fields ∷ [];
      whole = append_assoc before.seen (fields ∷ []) (records_left c.next_record.new.reader)
          ∙ ap (λ (xs : List Record). before.seen ++ xs) (sym (c.in_ok-next_record.ensures.next c.if-branch.true))
          ∙ before.whole;
      lengths = lengths_more c.args.width before.seen fields before.lengths
          (omega (arith, same, c.len.ensures, c.if-len-width.false));
      body = c.in_ok-add_row.ensures.added before.seen before.body;
    }
