use Rattle.std.proofs.Common.{◌∙◌, sym, refl, arith}
use Rattle.std.proofs.lemmas.Bool.Decides.{nat_tests}
use Rattle.gta_rows.specs.Fields.{trimmed_fields}
use Rattle.gta_rows.proofs.Bodies.{known_bad, new_bad, none_bad}
use Rattle.gta_rows.proofs.body.add_row.Goals as goal

pub returns-in-Some : goal.returns-in-Some
returns-in-Some c = record {
  added = λ records is. known_bad c.args.columns.now records
      (trimmed_fields c.args.row.now) c.args.body.now _ c.in-Some.field-0
      is c.in-Some.is refl refl refl;
}

pub returns-in-Some-2 : goal.returns-in-Some-2
returns-in-Some-2 c = record {
  added = λ records is. new_bad c.args.columns.now records
      (trimmed_fields c.args.row.now) c.args.body.now _ c.in-Some-2.column
      is c.in_default.is (sym c.in_ok-column.ensures.bad ∙ c.in-Some-2.is) refl refl
      (c.in_ok-column.ensures.within is.within);
}

pub returns : goal.returns
returns c = record {
  added = λ records is. none_bad c.args.columns.now records (trimmed_fields c.args.row.now) c.args.body.now _
      is c.in_default.is (sym c.in_ok-column.ensures.bad ∙ c.in_default-2.is) refl c.in_default.is
      (λ below. c.in_ok-column.ensures.cells c.in_default-2.is (grind (arith, nat_tests)))
      (λ below. c.in_ok-column.ensures.count c.in_default-2.is (grind (arith, nat_tests)))
      (c.in_ok-column.ensures.within is.within);
}
