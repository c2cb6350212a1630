use Rattle.std.proofs.Common.{arith, ◌≡◌, None, Some, Ok, refl, ◌∙◌, subst}
use Rattle.outcome_kit.proofs.Outcomes.{unless-Err, unless-Ok}
use Rattle.monoid_kit.specs.FirstBad.{first_bad}
use Rattle.monoid_kit.specs.Table.{PlainTable}
use Rattle.monoid_kit.specs.TableOf.{plain_table}
use Rattle.monoid_kit.specs.declared.checks.TableFault.TheVariants.{UnitFails, NotAssociative}
use Rattle.gta_spec.specs.Parts.{table_tree}
use Rattle.spec_tables.specs.Checked.{square_of}
use Rattle.spec_tables.proofs.Told.{square_same}
use Rattle.spec_tables.proofs.tables.lawful_table.Goals as goal

pub returns-in-Ok : goal.returns-in-Ok
returns-in-Ok c =
    let table = table_tree c.args.table.now in
    let made : PlainTable = record { size = c.len.result; unit = c.number_in.result; cells = c.args.cells.items } in
    let lawful = unless-Ok (first_bad made) (Ok made) (plain_table c.in-Ok.monoid) c.in-Ok.ensures.tells in
    let same = square_same table c.args.cells.items c.len.result c.number_in.result (omega (arith, c.len.ensures))
    (rw c.as_slice.ensures.value at c.number_in.ensures.number) in (
      subst (λ (t : PlainTable). first_bad t ≡ None) same lawful.0,
      rw (
        c.in_ok-copy_of-in-Ok.ensures,
        c.in_ok-copies_of-in-Ok.ensures,
        c.as_slice-in-Ok.ensures.value,
        c.in-Ok.ensures.same ∙ same,
      ) refl,
    )

pub returns-in-Err-UnitFails : goal.returns-in-Err-UnitFails
returns-in-Err-UnitFails c =
    let table = table_tree c.args.table.now in
    let same = square_same table c.args.cells.items c.len.result c.number_in.result (omega (arith, c.len.ensures))
    (rw c.as_slice.ensures.value at c.number_in.ensures.number) in
    let made : PlainTable = record { size = c.len.result; unit = c.number_in.result; cells = c.args.cells.items } in
    let fault = UnitFails c.in-Err-UnitFails.element c.in-Err-UnitFails.left in
    let end = rw c.in-Err-UnitFails.field-0-is at c.in-Err-UnitFails.ensures.tells in
    let told : first_bad (square_of table c.args.cells.items) ≡ Some fault =
    subst (λ (t : PlainTable). first_bad t ≡ Some fault) same (unless-Err (first_bad made) made fault end) in
    rw (told, c.in_ok-copy_of-in-Err-UnitFails.ensures, c.in_ok-element_name-in-Err-UnitFails.ensures) refl

pub returns-in-Err-NotAssociative : goal.returns-in-Err-NotAssociative
returns-in-Err-NotAssociative c =
    let table = table_tree c.args.table.now in
    let same = square_same table c.args.cells.items c.len.result c.number_in.result (omega (arith, c.len.ensures))
    (rw c.as_slice.ensures.value at c.number_in.ensures.number) in
    let made : PlainTable = record { size = c.len.result; unit = c.number_in.result; cells = c.args.cells.items } in
    let end = rw c.in-Err-NotAssociative.field-0-is at c.in-Err-NotAssociative.ensures.tells in
    let fault = NotAssociative c.in-Err-NotAssociative.a c.in-Err-NotAssociative.b c.in-Err-NotAssociative.c in
    let told : first_bad (square_of table c.args.cells.items) ≡ Some fault =
    subst (λ (t : PlainTable). first_bad t ≡ Some fault) same (unless-Err (first_bad made) made fault end) in
    rw (
      told,
      c.in_ok-copy_of-in-Err-NotAssociative.ensures,
      c.in_ok-element_name-in-Err-NotAssociative.ensures,
      c.in_ok-element_name-in-Err-NotAssociative-2.ensures,
      c.in_ok-element_name-in-Err-NotAssociative-3.ensures,
    ) refl
