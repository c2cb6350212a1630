-- What a row more, a leaf and a join cost.
use Rattle.std.proofs.Common.{ℕ, ◌+◌, ◌*◌, ◌≤◌, arith, mul-le-mul_right}

pub row-cost : (shifts size labels old new : ℕ) → shifts ≤ 4 * (labels + 1) → new ≤ old + shifts * size
    → new ≤ old + 4 * ((labels + 1) * size)
row-cost shifts size labels old new few ticks =
    let product : shifts * size ≤ (4 * (labels + 1)) * size = mul-le-mul_right size few in
    omega (arith, product)

pub join-cost : (crossings size old new : ℕ) → crossings ≤ 4 → new ≤ old + crossings * (size * size)
    → new ≤ old + 4 * size * size
join-cost crossings size old new few ticks =
    let product : crossings * (size * size) ≤ 4 * (size * size) = mul-le-mul_right (size * size) few in
    omega (arith, product)

-- a row more, among at most more rows
pub leaf-cost : (size labels count more old mid new : ℕ) → count + 1 ≤ more
    → mid ≤ old + 4 * count * size * (labels + 1) → new ≤ mid + 4 * ((labels + 1) * size)
    → new ≤ old + 4 * more * size * (labels + 1)
leaf-cost size labels count more old mid new fewer so_far ticks =
    let rows : (count + 1) * (size * (labels + 1)) ≤ more * (size * (labels + 1)) = mul-le-mul_right
    (size * (labels + 1)) fewer in
    omega (arith, rows)
