-- Lemmas on counts as lanes.
use Rattle.std.proofs.Common.{◌≡◌, ℕ, ◌+◌, ◌*◌, min, List, [], ◌∷◌, map, refl, sym, ap, ◌∙◌, arith}
use Rattle.std.specs.List.{sum}
use Rattle.std.specs.Simd.Lanes.{zip2}
use Rattle.std.proofs.lemmas.List.{map-id}
use Rattle.std.proofs.lemmas.List.Sums.{sum_by-cons}
use Rattle.semiring_kit.specs.Count.{count, count_cap}
use Rattle.semiring_kit.specs.Total.{total}
use Rattle.lane_rows.specs.Lanes.{add_times}
use Rattle.lane_rows.specs.CountLanes.{raised_count, lifted_count, total_count}

raised-count : (by a b : ℕ) → raised_count by a b ≡ add_times count by a b
raised-count by a b = by_product (by * b)
  where
    by_product : (m : ℕ) → min (a + m) count_cap ≡ min (a + min m count_cap) count_cap
    by_product m = omega arith

lifted-add_times : (by : ℕ) (into from : List ℕ) → lifted_count by into from ≡ zip2 (add_times count by) into from
lifted-add_times by [] ys = refl
lifted-add_times by (x ∷ xs) [] = refl
lifted-add_times by (x ∷ xs) (y ∷ ys) =
    ap (λ e. e ∷ lifted_count by xs ys) (raised-count by x y)
    ∙ ap (λ es. add_times count by x y ∷ es) (lifted-add_times by xs ys)

pub lifted-counts : (by : ℕ) (into from new : List ℕ) → new ≡ lifted_count by into from
    → map (λ lane. lane) new ≡ zip2 (add_times count by) (map (λ lane. lane) into) (map (λ lane. lane) from)
lifted-counts by into from new is =
    map-id new ∙ is ∙ lifted-add_times by into from
    ∙ ap (λ xs. zip2 (add_times count by) xs from) (sym (map-id into))
    ∙ ap (zip2 (add_times count by) (map (λ lane. lane) into)) (sym (map-id from))

pub total-counts : (counts : List ℕ) → total_count counts ≡ total count (λ lane. lane) counts
total-counts [] = refl
total-counts (x ∷ xs) =
    let rest : min (sum xs) count_cap ≡ total count (λ lane. lane) xs = total-counts xs in
    let all : sum (x ∷ xs) ≡ x + sum xs = sum_by-cons (λ n. n) x xs in
    ap (λ n. min n count_cap) all ∙ cut (sum xs) ∙ ap (λ n. min (x + n) count_cap) rest
  where
    cut : (s : ℕ) → min (x + s) count_cap ≡ min (x + min s count_cap) count_cap
    cut s = omega arith
