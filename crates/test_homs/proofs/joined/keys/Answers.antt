use Rattle.std.proofs.Common.{◌<◌, List, [], length, sym, subst, ap, ◌∙◌, arith}
use Rattle.std.proofs.lemmas.List.Elements.{All-weaker}
use Rattle.monoid_product.specs.Component.{PlainComponent}
use Rattle.monoid_product.specs.Product.{AreDigits, key_of}
use Rattle.test_homs.specs.Joined.{HasLetters, components, key_at}
use Rattle.test_homs.specs.Prepared.{PlainPrepared}
use Rattle.test_homs.proofs.Pieces.{items-more}
use Rattle.test_homs.proofs.Digits.{plains}
use Rattle.test_homs.proofs.joined.keys.Goals as goal

pub fill_digits-requires : goal.fill_digits-requires
fill_digits-requires c = record {
  in_range = All-weaker (HasLetters c.args.count) (λ (test : PlainPrepared). c.loop-place.place < length test.letters)
      (λ test has. omega (arith, has, c.loop-place-test.true)) (plains c.args.tests.now) c.requires.joinable.letters;
}

pub key_of-requires : goal.key_of-requires
key_of-requires c =
    let tests = plains c.args.tests.now in
    let made = c.deref.ensures.value ∙ c.in_ok-fill_digits.ensures in
    record {
      are_digits = subst (λ (parts : List PlainComponent). AreDigits parts c.deref.result.now) (sym c.requires.product)
          (subst (AreDigits (components tests)) (sym made) (c.requires.joinable.digits c.loop-place.place));
    }

pub loop-place-preserved : goal.loop-place-preserved
loop-place-preserved c =
    let tests = plains c.args.tests.now in
    items-more (key_at tests) [] _ _ _ _ c.loop-place.invariant c.in_ok-push.ensures.items
    (c.key_of.ensures.key ∙ ap (λ parts. key_of parts c.deref.result.now) c.requires.product
    ∙ ap (key_of (components tests)) (c.deref.ensures.value ∙ c.in_ok-fill_digits.ensures))
