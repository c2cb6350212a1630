-- Lemmas on lanes of truth values.
use Rattle.std.proofs.Common.{◌≡◌, ℕ, ◌≤◌, max, Bool, true, false, ◌||◌, List, [], ◌∷◌, length, map, All, refl, sym, ap}
use Rattle.std.proofs.Common.{◌∙◌, arith}
use Rattle.std.specs.Simd.Lanes.{zip2}
use Rattle.std.proofs.lemmas.Bool.Decides.{nat_tests}
use Rattle.std.proofs.lemmas.List.{length-map}
use Rattle.std.proofs.lemmas.List.Elements.{All-nil, All-cons}
use Rattle.semiring_kit.specs.Truth.{truth}
use Rattle.lane_rows.specs.Lanes.{add_times}
use Rattle.lane_rows.specs.TruthLanes.{IsBit, truth_of_lane, lane_of_truth, either, lifted_or}
use Rattle.lane_rows.proofs.Zips.{map-zip2, zip2-left}

pub max-either : (a b : ℕ) → a ≤ 1 → b ≤ 1 → max a b ≡ either a b
max-either a b a_bit b_bit = grind (arith, nat_tests)

-- what is shown of lanes that were joined

either-is_bit : (a b : ℕ) → either a b ≤ 1
either-is_bit a b = by_test (truth_of_lane a || truth_of_lane b)
  where
    by_test : (t : Bool) → lane_of_truth t ≤ 1
    by_test true = omega arith
    by_test false = omega arith

pub lifted-are_bits : (into from : List ℕ) → All IsBit (lifted_or into from)
lifted-are_bits [] ys = All-nil IsBit
lifted-are_bits (x ∷ xs) [] = All-nil IsBit
lifted-are_bits (x ∷ xs) (y ∷ ys) =
    All-cons IsBit (either x y) (lifted_or xs ys) (either-is_bit x y) (lifted-are_bits xs ys)

truth_of-lane : (t : Bool) → truth_of_lane (lane_of_truth t) ≡ t
truth_of-lane true = refl
truth_of-lane false = refl

-- where the factor is 1, and where it is 0

pub lifted-truth : (by : ℕ) (into from new : List ℕ) → by ≡ 1 → new ≡ lifted_or into from
    → map truth_of_lane new ≡ zip2 (add_times truth (truth_of_lane by)) (map truth_of_lane into)
    (map truth_of_lane from)
lifted-truth by into from new one is =
    ap (map truth_of_lane) is
    ∙ map-zip2 either (add_times truth true) truth_of_lane truth_of_lane (λ lane. Unit {0})
    (λ a b _. truth_of-lane (truth_of_lane a || truth_of_lane b)) into from (λ k d below. tt)
    ∙ ap (λ lane. zip2 (add_times truth (truth_of_lane lane)) (map truth_of_lane into) (map truth_of_lane from))
    (sym one)

pub unlifted-truth : (by : ℕ) (into from : List ℕ) → by ≡ 0 → length into ≡ length from
    → map truth_of_lane into ≡ zip2 (add_times truth (truth_of_lane by)) (map truth_of_lane into)
    (map truth_of_lane from)
unlifted-truth by into from none long =
    let same = length-map into truth_of_lane in
    let other = length-map from truth_of_lane in
    sym (ap (λ lane. zip2 (add_times truth (truth_of_lane lane)) (map truth_of_lane into) (map truth_of_lane from)) none
    ∙ zip2-left (add_times truth false) (map truth_of_lane into) (map truth_of_lane from) (λ a b. or-false a)
    (omega arith))
  where
    or-false : (a : Bool) → a || false ≡ a
    or-false true = refl
    or-false false = refl
