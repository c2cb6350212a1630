use Rattle.std.proofs.Common.{◌≡◌, true, false, nat_lt, refl, arith}
use Rattle.std.proofs.lemmas.Bool.Decides.{nat_tests}
use Rattle.gta_spec.specs.declared.parts.ColumnItem.{ColumnItem}
use Rattle.gta_rows.specs.declared.fault.RowsFault.TheVariants.{ColumnTwice}
use Rattle.gta_rows.specs.Fields.{trimmed_fields}
use Rattle.gta_rows.specs.Table.{header_text, times_in, twice}
use Rattle.gta_rows.proofs.Places.{first_more, first_here}
use Rattle.gta_rows.proofs.header.check_once.Goals as goal

pub loop-item-init : goal.loop-item-init
unfolding twice
loop-item-init c = refl

pub returns-then-times_in-gt1 : goal.returns-then-times_in-gt1
unfolding twice
returns-then-times_in-gt1 c =
    let more : nat_lt 1 c.times_in.result ≡ true = grind (arith, nat_tests) in
    record {
      tells = rw (c.in_ok-column.ensures, c.bytes.ensures)
          (first_here (λ (item : ColumnItem). nat_lt 1 (times_in (trimmed_fields c.args.header.now) (header_text item)))
          (λ (item : ColumnItem). ColumnTwice item.name)
          c.args.items.now c.loop-item.item-index
          c.item-item.result c.loop-item-test.true c.item-item.is c.loop-item.invariant
          (rw (c.times_in.ensures, c.header_text.ensures) at more));
    }

pub loop-item-preserved : goal.loop-item-preserved
unfolding twice
loop-item-preserved c =
    let few : nat_lt 1 c.times_in.result ≡ false = grind (arith, nat_tests) in
    first_more (λ (item : ColumnItem). nat_lt 1 (times_in (trimmed_fields c.args.header.now) (header_text item)))
    (λ (item : ColumnItem). ColumnTwice item.name)
    c.args.items.now c.loop-item.item-index
    c.item-item.result c.loop-item-test.true c.item-item.is c.loop-item.invariant
    (rw (c.times_in.ensures, c.header_text.ensures) at few)
