use Rattle.std.proofs.Common.{◌≡◌, ◌*◌, ◌≤◌, refl, ℤ, ◌*ℤ◌, nat_abs, FitsSigned, to_z, of_z, sym, ap, ◌∙◌, subst, arith}
use Rattle.std.proofs.lemmas.Int.{ints, to_z-of_z, fits_signed_mul}
use Rattle.gta_spec.specs.declared.limits.TheConstants.{FACTOR_LIMIT}
use Rattle.gta_text.specs.declared.numbers.TheConstants.{NUMBER_BOUND}
use Rattle.gta_meaning.proofs.Bounds.{nat_abs-product-le}
use Rattle.gta_meaning.proofs.values.product.Goals as goal
use mir.Syntax.{w128, w64}

product-fits : (factor number : ℤ) → nat_abs factor ≤ FACTOR_LIMIT → nat_abs number ≤ NUMBER_BOUND
    → FitsSigned w128 (factor *ℤ number)
product-fits factor number small_factor small_number =
    fits_signed_mul w128 factor number FACTOR_LIMIT NUMBER_BOUND small_factor small_number (omega arith)

-- the factors as the code reads them
product-read : (factor number : ℤ) → nat_abs factor ≤ FACTOR_LIMIT → nat_abs number ≤ NUMBER_BOUND
    → to_z w128 (of_z w128 (to_z w64 (of_z w64 factor))) *ℤ to_z w128 (of_z w128 number) ≡ factor *ℤ number
product-read factor number small_factor small_number =
    let same_factor : to_z w128 (of_z w128 (to_z w64 (of_z w64 factor))) ≡ factor = omega (arith, ints) in
    let same_number : to_z w128 (of_z w128 number) ≡ number = omega (arith, ints) in
    rw (same_factor, same_number) refl

pub overflow_mul-result : goal.overflow_mul-result
overflow_mul-result c =
    let r = c.requires in
    subst (FitsSigned w128) (sym (product-read c.args.factor c.args.number r.small_factor r.small_number))
    (product-fits c.args.factor c.args.number r.small_factor r.small_number)

pub returns-clause-value : goal.returns-clause-value
returns-clause-value c =
    let r = c.requires in
    ap (λ z. to_z w128 (of_z w128 z)) (product-read c.args.factor c.args.number r.small_factor r.small_number)
    ∙ to_z-of_z w128 _ (product-fits c.args.factor c.args.number r.small_factor r.small_number)

pub returns-clause-bounded : goal.returns-clause-bounded
returns-clause-bounded c =
    let r = c.requires in
    let value = ap (λ z. to_z w128 (of_z w128 z))
    (product-read c.args.factor c.args.number r.small_factor r.small_number)
    ∙ to_z-of_z w128 _ (product-fits c.args.factor c.args.number r.small_factor r.small_number) in
    subst (λ z. nat_abs z ≤ FACTOR_LIMIT * NUMBER_BOUND) (sym value)
    (nat_abs-product-le c.args.factor c.args.number FACTOR_LIMIT NUMBER_BOUND r.small_factor r.small_number)
