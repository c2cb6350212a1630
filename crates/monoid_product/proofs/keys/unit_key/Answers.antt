use Rattle.std.proofs.Common.{drop, ◌+◌, arith}
use Rattle.monoid_product.specs.ComponentOf.{plain_component, plain_components}
use Rattle.monoid_product.specs.Component.{component_unit}
use Rattle.monoid_product.specs.Product.{product_unit}
use Rattle.monoid_product.proofs.Suffixes.{product_unit-more, horner-within, keys_of, keys_of-some, size_of}
use Rattle.monoid_product.proofs.Suffixes.{parts-product_unit}
use Rattle.monoid_product.proofs.keys.unit_key.Goals as goal

pub overflow_mul-key : goal.overflow_mul-key
overflow_mul-key c =
    let more = product_unit-more c.args.parts.now c.loop-part.part-index c.part-item.result c.loop-part-test.true
    c.part-item.is
    c.loop-part.key c.loop-part.invariant in
    let after = drop (c.loop-part.part-index + 1) c.args.parts.now in
    let le = horner-within c.loop-part.key (size_of c.part-item.result)
    (component_unit (plain_component c.part-item.result))
    (keys_of after) (product_unit (plain_components after)) _ (keys_of-some after) more in
    let below = parts-product_unit c.args.parts.now in
    let within = c.requires.within in
    rw c.size.ensures (omega arith)

pub overflow_add-key : goal.overflow_add-key
overflow_add-key c =
    let more = product_unit-more c.args.parts.now c.loop-part.part-index c.part-item.result c.loop-part-test.true
    c.part-item.is
    c.loop-part.key c.loop-part.invariant in
    let after = drop (c.loop-part.part-index + 1) c.args.parts.now in
    let le = horner-within c.loop-part.key (size_of c.part-item.result)
    (component_unit (plain_component c.part-item.result))
    (keys_of after) (product_unit (plain_components after)) _ (keys_of-some after) more in
    let below = parts-product_unit c.args.parts.now in
    let within = c.requires.within in
    rw (c.size.ensures, c.unit.ensures) (omega arith)
