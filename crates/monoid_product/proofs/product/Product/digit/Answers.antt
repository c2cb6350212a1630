use Rattle.monoid_product.specs.ProductOf.{plain_parts}
use Rattle.monoid_product.specs.ProductLaws.{plain_component-AreMonoids}
use Rattle.monoid_product.proofs.Digits.{key_of-digits}
use Rattle.monoid_product.proofs.product.Product.digit.Goals as goal

pub returns-clause-undone : goal.returns-clause-undone
returns-clause-undone c =
    key_of-digits (plain_parts c.args.self.now) (plain_component-AreMonoids c.args.self.now.parts) c.args.key
    c.requires.is_key
