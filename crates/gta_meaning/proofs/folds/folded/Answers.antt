use Rattle.std.proofs.Common.{◌<◌, map, take, get_or, sym, ap, subst, ◌∙◌}
use Rattle.monoid_kit.specs.Table.{table_mul}
use Rattle.monoid_kit.specs.TableOf.{plain_table}
use Rattle.shape_gen.specs.Candidates.{mark}
use Rattle.gta_checked.specs.Plain.{plain_pick}
use Rattle.gta_checked.specs.PlainRows.{plain_rows}
use Rattle.gta_meaning.specs.Folds.{folded}
use Rattle.gta_meaning.proofs.Products.{picked-is_element, folded-is_element, folded-more}
use Rattle.gta_meaning.proofs.folds.folded.Goals as goal

pub with_factor-product-requires-clause-product_is_element : goal.with_factor-product-requires-clause-product_is_element
with_factor-product-requires-clause-product_is_element c =
    let w = c.requires.within in
    subst (λ product. product < c.args.monoid.now.size) (sym c.loop-mark.invariant)
    (folded-is_element (plain_rows c.args.rows.now) c.args.rows.now.columns w.0 (plain_table c.args.monoid.now)
    c.args.monoid.now.lawful (map plain_pick c.args.picks.now) w.1 (take c.loop-mark.mark-index c.args.marks.now))

pub with_factor-product-requires-clause-factor_is_element : goal.with_factor-product-requires-clause-factor_is_element
with_factor-product-requires-clause-factor_is_element c =
    let w = c.requires.within in
    let m = get_or c.args.marks.now c.loop-mark.mark-index (mark 0 0) in
    let same = rw c.unit.ensures at c.picked-element.ensures in
    rw same (picked-is_element (plain_rows c.args.rows.now) c.args.rows.now.columns w.0 c.args.monoid.now.size
    c.args.monoid.now.unit m.row m.label (map plain_pick c.args.picks.now)
    c.args.monoid.now.lawful.table.unit_is_element w.1)

pub loop-mark-preserved : goal.loop-mark-preserved
loop-mark-preserved c =
    let rows = plain_rows c.args.rows.now in
    let table = plain_table c.args.monoid.now in
    let picks = map plain_pick c.args.picks.now in
    let same = rw c.unit.ensures at c.picked-element.ensures in
    c.with_factor-product.ensures
    ∙ ap (λ product. table_mul table product c.picked-element.result) c.loop-mark.invariant
    ∙ ap (table_mul table (folded rows table picks (take c.loop-mark.mark-index c.args.marks.now))) same
    ∙ sym (folded-more rows table picks c.args.marks.now c.loop-mark.mark-index (mark 0 0) c.loop-mark-test.true)
