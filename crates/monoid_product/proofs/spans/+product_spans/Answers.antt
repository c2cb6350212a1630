use Rattle.std.proofs.Common.{◌/◌, ◌%◌, All, refl, ap, subst}
use Rattle.std.proofs.Common.{sym, ◌∙◌, arith}
use Rattle.std.proofs.Math.Nat.{div-le_self}
use Rattle.std.proofs.lemmas.Result.{IfOk-weaker}
use Rattle.monoid_product.specs.ComponentOf.{plain_component, plain_components}
use Rattle.monoid_product.specs.Component.{component_mul}
use Rattle.monoid_product.specs.Product.{product_mul}
use Rattle.monoid_product.specs.Nested.{nested, AreBelow, IsWithin}
use Rattle.monoid_product.proofs.Nested.{AreSpans-within, AreSpans-below, later-keys, first-digit, rest-key}
use Rattle.monoid_product.proofs.Nested.{first-closed, rest-closed, outer-alone, outer-AreSpans, product-AreSpans}
use Rattle.monoid_product.proofs.Nested.{parts_after, parts-split, parts_after-fewer, none-AreSpans}
use Rattle.monoid_product.proofs.spans.+product_spans.Goals as goal

pub spans-requires : goal.spans-requires
spans-requires t c =
    let parts = c.args.parts.now in
    first-digit parts (parts_after parts) c.first-item.result
    (parts-split parts c.first-item.result (omega arith) c.first-item.is)
    c.args.count c.size-size.result _ c.args.a c.requires.count c.size-size.ensures refl c.requires.is_key

pub returns-then-later-eq1 : goal.returns-then-later-eq1
returns-then-later-eq1 t c =
    let parts = c.args.parts.now in
    outer-alone parts (parts_after parts) c.first-item.result
    (parts-split parts c.first-item.result (omega arith) c.first-item.is)
    c.args.count c.size-size.result _ c.args.a c.requires.count c.size-size.ensures refl c.requires.is_key
    c.in_ok-outer-in-len1-up.outer.items c.in_ok-outer-in-len1-up.ensures c.if-later-eq1.true

pub product_spans-requires : goal.product_spans-requires
product_spans-requires t c =
    let parts = c.args.parts.now in
    let whole = parts-split parts c.first-item.result (omega arith) c.first-item.is in
    let keys = later-keys parts (parts_after parts) c.first-item.result whole
    c.args.count c.size-size.result _ c.args.a c.requires.count c.size-size.ensures refl c.requires.is_key in
    let key = rest-key parts (parts_after parts) c.first-item.result whole
    c.args.count c.size-size.result _ c.args.a c.requires.count c.size-size.ensures refl c.requires.is_key in
    let few = c.requires.few in
    let fewer = parts_after-fewer parts (omega arith) in
    (omega (arith, c.decreases), (omega (arith, div-le_self c.args.count c.size-size.result), (keys, key)))

pub nested-requires-clause-outer : goal.nested-requires-clause-outer
nested-requires-clause-outer t c =
    let parts = c.args.parts.now in
    let first = c.first-item.result in
    let whole = parts-split parts first (omega arith) c.first-item.is in
    let later = c.args.count / c.size-size.result in
    let move = component_mul (plain_component first) (c.args.a / later) in
    subst (All (IsWithin c.size-size.result)) (sym c.deref.ensures.value)
    (AreSpans-within c.size-size.result move
    (first-closed parts (parts_after parts) first whole c.args.count c.size-size.result later c.args.a
    c.requires.count c.size-size.ensures refl c.requires.is_key)
    c.in_ok-outer-in-len1-up.outer.items
    (outer-AreSpans parts (parts_after parts) first whole c.args.count c.size-size.result later c.args.a
    c.requires.count c.size-size.ensures refl c.requires.is_key c.in_ok-outer-in-len1-up.outer.items
    c.in_ok-outer-in-len1-up.ensures))

pub nested-requires-clause-inner : goal.nested-requires-clause-inner
nested-requires-clause-inner t c =
    let parts = c.args.parts.now in
    let first = c.first-item.result in
    let whole = parts-split parts first (omega arith) c.first-item.is in
    let later = c.args.count / c.size-size.result in
    let move = product_mul (plain_components (parts_after parts)) (c.args.a % later) in
    subst (AreBelow later) (sym c.deref-in-len1-up.ensures.value)
    (AreSpans-below later move
    (rest-closed parts (parts_after parts) first whole c.args.count c.size-size.result later c.args.a
    c.requires.count c.size-size.ensures refl c.requires.is_key)
    c.in_ok-inner-in-len1-up.inner.items c.in_ok-inner-in-len1-up.ensures)

pub returns-in-empty : goal.returns-in-empty
returns-in-empty t c =
    IfOk-weaker c.one_span.result _ _
    (λ spans are. none-AreSpans c.args.parts.now c.args.count c.args.a spans.items (omega arith) c.requires.count are)
    c.one_span.ensures

pub returns-in_ok-inner-in-len1-up : goal.returns-in_ok-inner-in-len1-up
returns-in_ok-inner-in-len1-up t c =
    let parts = c.args.parts.now in
    let first = c.first-item.result in
    let whole = parts-split parts first (omega arith) c.first-item.is in
    let later = c.args.count / c.size-size.result in
    IfOk-weaker c.nested.result _ _
    (λ spans is. product-AreSpans parts (parts_after parts) first whole c.args.count c.size-size.result later c.args.a
    c.requires.count c.size-size.ensures refl c.requires.is_key
    c.in_ok-outer-in-len1-up.outer.items c.in_ok-outer-in-len1-up.ensures
    c.in_ok-inner-in-len1-up.inner.items spans.items c.in_ok-inner-in-len1-up.ensures
    (is ∙ ap (λ xs. nested later xs c.deref.result.now) c.deref-in-len1-up.ensures.value
    ∙ ap (nested later c.in_ok-inner-in-len1-up.inner.items) c.deref.ensures.value))
    c.nested.ensures
