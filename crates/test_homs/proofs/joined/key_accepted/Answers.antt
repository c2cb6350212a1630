use Rattle.std.proofs.Common.{length, ◌∙◌}
use Rattle.std.proofs.lemmas.List.{length-map}
use Rattle.std.proofs.lemmas.List.FromFn.{length-map-range_with_len}
use Rattle.monoid_product.specs.Product.{digits}
use Rattle.test_homs.specs.Joined.{components, outcome_of}
use Rattle.test_homs.specs.Prepared.{plain_prepared}
use Rattle.test_homs.proofs.Digits.{plains}
use Rattle.test_homs.proofs.joined.key_accepted.Goals as goal

pub verdict-requires-clause-whole : goal.verdict-requires-clause-whole
verdict-requires-clause-whole c =
    let tests = c.args.tests.now in
    length-map-range_with_len (outcome_of (plains tests) (digits (components (plains tests)) c.args.key)) 0
    (length (plains tests))
    ∙ length-map tests plain_prepared ∙ c.requires.whole
