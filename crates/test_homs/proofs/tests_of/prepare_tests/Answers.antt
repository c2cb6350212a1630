use Rattle.std.proofs.Common.{◌≡◌, ℕ, ◌*◌, List, None, length, map, refl, sym, subst, ap, ◌∙◌, arith}
use Rattle.std.proofs.lemmas.List.{length-map}
use Rattle.gta_checked.specs.PlainRows.{plain_rows}
use Rattle.monoid_product.specs.ProductOf.{plain_parts}
use Rattle.test_homs.specs.declared.prepared.Prepared.{Prepared}
use Rattle.test_homs.specs.Homs.{ArePrepared}
use Rattle.test_homs.specs.Joined.{AreJoinable, components, joined}
use Rattle.test_homs.specs.Negatives.{first_negative}
use Rattle.test_homs.specs.Prepared.{plain_prepared}
use Rattle.test_homs.proofs.Preparations.{its_tests, its_tests-AreJoinable, its_tests-ArePrepared}
use Rattle.test_homs.proofs.Preparations.{its_tests-few, its_tests-length, joined_tests, key_count-components}
use Rattle.test_homs.proofs.Faults.{few_keys, many_keys}
use Rattle.test_homs.proofs.tests_of.prepare_tests.Goals as goal

pub product_of-requires : goal.product_of-requires
product_of-requires c =
    let checked = c.args.checked.now in let rows = plain_rows c.args.rows.now in
    let its = its_tests checked rows _ _ c.in_ok-tests.ensures c.in_ok-put_in_order.ensures.permuted in
    let parts = c.in_ok-components.ensures ∙ ap components (ap (map plain_prepared) c.deref.ensures.value) in
    record { few = its_tests-few checked rows c.first_negative.ensures.within _ its _ parts }

pub tests_in-requires-clause-joinable : goal.tests_in-requires-clause-joinable
tests_in-requires-clause-joinable c =
    let checked = c.args.checked.now in let rows = plain_rows c.args.rows.now in
    let none : first_negative checked rows ≡ None = sym c.first_negative.ensures.first ∙ c.in_default.is in
    let its = its_tests checked rows _ _ c.in_ok-tests.ensures c.in_ok-put_in_order.ensures.permuted in
    subst (λ (tests : List Prepared). AreJoinable (rows.count * c.label_count-labels.result) (map plain_prepared tests))
    (sym c.deref-in-Ok.ensures.value)
    (subst (λ (labels : ℕ). AreJoinable (rows.count * labels) (map plain_prepared c.put_in_order.new.tests.items))
    (sym c.label_count-labels.ensures.labels) (its_tests-AreJoinable checked rows c.first_negative.ensures.within none _ its))

pub tests_in-requires-clause-whole : goal.tests_in-requires-clause-whole
tests_in-requires-clause-whole c =
    let checked = c.args.checked.now in let rows = plain_rows c.args.rows.now in
    let its = its_tests checked rows _ _ c.in_ok-tests.ensures c.in_ok-put_in_order.ensures.permuted in
    let items = c.put_in_order.new.tests.items in
    omega (
      arith,
      ap length c.deref-in-Ok.ensures.value,
      length-map items plain_prepared,
      its_tests-length checked rows (map plain_prepared items) its,
    )

pub returns-in-Ok-clause-tells : goal.returns-in-Ok-clause-tells
returns-in-Ok-clause-tells c =
    let checked = c.args.checked.now in let rows = plain_rows c.args.rows.now in
    let its = its_tests checked rows _ _ c.in_ok-tests.ensures c.in_ok-put_in_order.ensures.permuted in
    let parts = c.in_ok-components.ensures ∙ ap components (ap (map plain_prepared) c.deref.ensures.value) in
    let keys =
    key_count-components checked rows _ its (plain_parts c.in-Ok.product) (c.in-Ok.ensures.parts ∙ parts) in
    few_keys checked rows (sym c.first_negative.ensures.first ∙ c.in_default.is)
    (omega (arith, keys, c.in-Ok.product.counted, c.in-Ok.product.within))

pub returns-in-Ok-clause-prepared : goal.returns-in-Ok-clause-prepared
returns-in-Ok-clause-prepared c =
    let checked = c.args.checked.now in let rows = plain_rows c.args.rows.now in
    let none : first_negative checked rows ≡ None = sym c.first_negative.ensures.first ∙ c.in_default.is in
    let its = its_tests checked rows _ _ c.in_ok-tests.ensures c.in_ok-put_in_order.ensures.permuted in
    let labels = c.label_count-labels.result in
    let tests = map plain_prepared c.put_in_order.new.tests.items in
    let made : c.in_ok-tests_in-in-Ok.field-0 ≡ joined_tests checked rows tests =
    c.in_ok-tests_in-in-Ok.ensures
    ∙ ap (joined checked (rows.count * labels) labels) (ap (map plain_prepared) c.deref-in-Ok.ensures.value)
    ∙ ap (λ n. joined checked (rows.count * n) n tests) c.label_count-labels.ensures.labels in
    subst (ArePrepared checked rows) (sym made)
    (its_tests-ArePrepared checked rows c.first_negative.ensures.within none tests its)

pub returns-clause-tells : goal.returns-clause-tells
returns-clause-tells c =
    let checked = c.args.checked.now in let rows = plain_rows c.args.rows.now in
    let none : first_negative checked rows ≡ None = sym c.first_negative.ensures.first ∙ c.in_default.is in
    let its = its_tests checked rows _ _ c.in_ok-tests.ensures c.in_ok-put_in_order.ensures.permuted in
    let parts = c.in_ok-components.ensures ∙ ap components (ap (map plain_prepared) c.deref.ensures.value) in
    let keys = key_count-components checked rows _ its _ parts in
    let more = c.in-Err.ensures.too_large.0 refl in
    many_keys checked rows none (c.in-Err.ensures.keys ∙ keys) (omega (arith, more, keys))
