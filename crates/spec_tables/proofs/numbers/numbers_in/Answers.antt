use Rattle.std.proofs.Common.{◌<◌, length, sym, ◌∙◌, arith}
use Rattle.std.proofs.lemmas.List.Folds.{list_all_more}
use Rattle.spec_tables.specs.Tables.{number_of, is_one_of}
use Rattle.spec_tables.proofs.Fronts.{map_take_next}
use Rattle.spec_tables.proofs.NumberOf.{number_of-le}
use Rattle.spec_tables.proofs.Rows.{is_one_of-number}
use Rattle.spec_tables.proofs.numbers.numbers_in.Goals as goal

pub loop-product-preserved : goal.loop-product-preserved
loop-product-preserved c =
    let elements = c.args.elements.now in
    let products = c.args.products.now in
    let i = c.loop-product.product-index in
    let product = c.product-item.result in
    let below : number_of elements product < length elements =
    omega (arith, c.number_in-number.ensures.number, number_of-le elements product) in
    let known = is_one_of-number elements product below in
    let more = list_all_more (is_one_of elements) products i product c.loop-product-test.true in
    record {
      so_far = c.in_ok-push.ensures.items
          ∙ rw (c.loop-product.invariant.so_far, c.number_in-number.ensures.number)
          (sym (map_take_next (number_of elements) products i product c.loop-product-test.true c.product-item.is));
      elements = rw (c.loop-product.invariant.elements, ← c.product-item.is, known) at more;
    }
