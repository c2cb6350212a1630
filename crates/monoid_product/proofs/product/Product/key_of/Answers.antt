use Rattle.std.proofs.Common.{◌≡◌, ◌<◌, ap, subst, ◌∙◌, sym}
use Rattle.monoid_product.specs.ComponentOf.{plain_components}
use Rattle.monoid_product.specs.Product.{digits, key_of, key_count}
use Rattle.monoid_product.specs.ProductOf.{plain_parts}
use Rattle.monoid_product.proofs.Digits.{key_of-is_key, digits-key_of}
use Rattle.monoid_product.proofs.product.Product.key_of.Goals as goal

pub returns-clause-is_key : goal.returns-clause-is_key
returns-clause-is_key c =
    let same : c.key_of.result ≡ key_of (plain_parts c.args.self.now) c.args.digits.now =
    c.key_of.ensures ∙ ap (λ parts. key_of (plain_components parts) c.args.digits.now) c.as_slice.ensures in
    subst (λ key. key < key_count (plain_parts c.args.self.now)) (sym same)
    (key_of-is_key (plain_parts c.args.self.now) c.args.digits.now c.requires.are_digits)

pub returns-clause-undone : goal.returns-clause-undone
returns-clause-undone c =
    let same : c.key_of.result ≡ key_of (plain_parts c.args.self.now) c.args.digits.now =
    c.key_of.ensures ∙ ap (λ parts. key_of (plain_components parts) c.args.digits.now) c.as_slice.ensures in
    ap (digits (plain_parts c.args.self.now)) same
    ∙ digits-key_of (plain_parts c.args.self.now) c.args.digits.now c.requires.are_digits
