-- Keys and their digits.
use Rattle.std.proofs.Common.{◌≡◌, ℕ, ◌+◌, ◌*◌, ◌/◌, ◌%◌, ◌<◌, List, [], ◌∷◌, refl, ap, subst, ◌∙◌, arith}
use Rattle.std.proofs.lemmas.Nat.{mul-add-lt, div-mul-add, mod-mul-add, div-add-mod', mod_below}
use Rattle.std.proofs.Math.Nat.{mul_comm}
use Rattle.monoid_product.specs.Component.{PlainComponent, component_size}
use Rattle.monoid_product.specs.Product.{key_count, key_of, digits, AreDigits}
use Rattle.monoid_product.specs.ProductLaws.{AreMonoids, product-IsMonoid}

key_count-some : (parts : List PlainComponent) → AreMonoids parts → 0 < key_count parts
key_count-some parts monoids = (let below = (product-IsMonoid parts monoids).unit_is_element in omega arith)

pub key_of-is_key : (parts : List PlainComponent) (ds : List ℕ) → AreDigits parts ds → key_of parts ds < key_count parts
key_of-is_key [] [] are = omega arith
key_of-is_key [] (d ∷ ds) are = absurd are
key_of-is_key (c ∷ cs) [] are = absurd are
key_of-is_key (c ∷ cs) (d ∷ ds) are =
    subst (λ size. d * key_count cs + key_of cs ds < size) (mul_comm (key_count cs) (component_size c))
    (mul-add-lt d (key_count cs) (key_of cs ds) (component_size c) are.0 (key_of-is_key cs ds are.1))

pub digits-key_of : (parts : List PlainComponent) (ds : List ℕ) → AreDigits parts ds
    → digits parts (key_of parts ds) ≡ ds
digits-key_of [] [] are = refl
digits-key_of [] (d ∷ ds) are = absurd are
digits-key_of (c ∷ cs) [] are = absurd are
digits-key_of (c ∷ cs) (d ∷ ds) are =
    let low = key_of-is_key cs ds are.1 in
    rw (div-mul-add d (key_count cs) (key_of cs ds) low, mod-mul-add d (key_count cs) (key_of cs ds) low)
    (ap (λ later. d ∷ later) (digits-key_of cs ds are.1))

pub key_of-digits : (parts : List PlainComponent) → AreMonoids parts → (key : ℕ) → key < key_count parts
    → key_of parts (digits parts key) ≡ key
key_of-digits [] monoids key is_key = omega arith
key_of-digits (c ∷ cs) monoids key is_key =
    ap (λ low. key / key_count cs * key_count cs + low)
    (key_of-digits cs monoids.1 (key % key_count cs) (mod_below key (key_count cs) (key_count-some cs monoids.1)))
    ∙ div-add-mod' key (key_count cs)
