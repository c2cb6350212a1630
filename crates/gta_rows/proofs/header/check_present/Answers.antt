use Rattle.std.proofs.Common.{◌≡◌, true, false, ◌==◌, refl, arith}
use Rattle.std.proofs.lemmas.Bool.Decides.{nat_tests}
use Rattle.gta_spec.specs.declared.parts.ColumnItem.{ColumnItem}
use Rattle.gta_rows.specs.declared.fault.RowsFault.TheVariants.{Missing}
use Rattle.gta_rows.specs.Fields.{trimmed_fields}
use Rattle.gta_rows.specs.Table.{header_text, times_in, missing}
use Rattle.gta_rows.proofs.Places.{first_more, first_here}
use Rattle.gta_rows.proofs.header.check_present.Goals as goal

pub loop-item-init : goal.loop-item-init
unfolding missing
loop-item-init c = refl

pub returns-then-times_in-eq0 : goal.returns-then-times_in-eq0
unfolding missing
returns-then-times_in-eq0 c =
    let none : (c.times_in.result == 0) ≡ true = grind (arith, nat_tests) in
    record {
      tells = rw (c.in_ok-column.ensures, c.bytes.ensures)
          (first_here (λ (item : ColumnItem). times_in (trimmed_fields c.args.header.now) (header_text item) == 0)
          (λ (item : ColumnItem). Missing item.name)
          c.args.items.now c.loop-item.item-index
          c.item-item.result c.loop-item-test.true c.item-item.is c.loop-item.invariant
          (rw (c.times_in.ensures, c.header_text.ensures) at none));
    }

pub loop-item-preserved : goal.loop-item-preserved
unfolding missing
loop-item-preserved c =
    let some : (c.times_in.result == 0) ≡ false = grind (arith, nat_tests) in
    first_more (λ (item : ColumnItem). times_in (trimmed_fields c.args.header.now) (header_text item) == 0)
    (λ (item : ColumnItem). Missing item.name)
    c.args.items.now c.loop-item.item-index
    c.item-item.result c.loop-item-test.true c.item-item.is c.loop-item.invariant
    (rw (c.times_in.ensures, c.header_text.ensures) at some)
