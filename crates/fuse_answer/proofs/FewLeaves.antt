-- An even cut has few leaves.
use Rattle.std.proofs.Common.{◌≡◌, ℕ, ◌+◌, ◌*◌, ◌/◌, ◌≤◌, length, min, arith, mul-le-mul_left}
use Rattle.std.specs.Int.{div_ceil}
use Rattle.std.proofs.Math.Nat.{div-mul-le_self}
use Rattle.std.proofs.lemmas.List.FromFn.{length-map-range_with_len}
use Rattle.interval_kit.specs.Cut.{even_cut}

leaves-few : (rows leaf : ℕ) → 1 ≤ leaf → div_ceil rows leaf ≤ rows + 1
leaves-few rows leaf some =
    let whole : rows / leaf * leaf ≤ rows = div-mul-le_self rows leaf in
    let least : rows / leaf * 1 ≤ rows / leaf * leaf = mul-le-mul_left (rows / leaf) some in
    omega (arith, whole, least)

pub even_cut-few : (rows leaf : ℕ) → 1 ≤ leaf → length (even_cut rows leaf) ≤ rows + 2
even_cut-few rows leaf some =
    let long : length (even_cut rows leaf) ≡ div_ceil rows leaf + 1 =
    length-map-range_with_len (λ k. min (k * leaf) rows) 0 (div_ceil rows leaf + 1) in
    omega (arith, long, leaves-few rows leaf some)
