use Rattle.std.proofs.Common.{◌<◌, length, slice_index_or, refl}
use Rattle.gta_meaning.proofs.Parts.{item-within}
use Rattle.test_homs.specs.Prepared.{PlainPrepared, plain_prepared}
use Rattle.test_homs.proofs.Lists.{map-whole}
use Rattle.test_homs.proofs.Digits.{plains}
use Rattle.test_homs.proofs.joined.fill_digits.Goals as goal

pub letter-requires : goal.letter-requires
letter-requires c = record {
  in_range = item-within plain_prepared c.args.tests.now (plains c.args.tests.now) refl
      (λ (test : PlainPrepared). c.args.place < length test.letters) c.loop-test.test-index c.test-item.result
      c.loop-test-test.true c.test-item.is c.requires.in_range;
}

pub returns : goal.returns
returns c =
    map-whole (λ (test : PlainPrepared). slice_index_or test.letters c.args.place 0) plain_prepared c.args.tests.now _
    c.loop-test.test-index _ c.loop-test.invariant c.loop-test-test.false refl
