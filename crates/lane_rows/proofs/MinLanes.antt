-- Lanes of weights with the sign turned: what holds of the greatest weights holds of the least ones.
use Rattle.std.proofs.Common.{◌≡◌, ◌≢◌, ◌≤◌, ℤ, ◌+ℤ◌, neg_ℤ, unsigned_abs, List, [], ◌∷◌, length, get_or, map, All}
use Rattle.std.proofs.Common.{Option, Some, None, refl, sym, ap, subst, ◌∙◌, arith}
use Rattle.std.specs.Int.{int_max, int_min}
use Rattle.std.specs.Option.{option_map}
use Rattle.std.specs.Simd.Lanes.{zip2}
use Rattle.std.proofs.lemmas.Int.{ints, clamps}
use Rattle.std.proofs.lemmas.List.{length-map}
use Rattle.semiring_kit.specs.MaxPlus.{max_plus}
use Rattle.semiring_kit.specs.MinPlus.{min_plus}
use Rattle.semiring_kit.specs.Semiring.{IsGood, weight_bound}
use Rattle.semiring_kit.specs.Total.{total}
use Rattle.lane_rows.specs.Lanes.{IsGoodLane, add_times}
use Rattle.lane_rows.specs.MaxLanes.{absent, weight_of_lane, opposite_of_lane, IsWithin, raised, lifted_max, greatest}
use Rattle.lane_rows.proofs.Zips.{map-zip2, zip2-left}
use Rattle.lane_rows.proofs.MaxLanes.{good-IsWithin, raised-max_plus, weight-present, weight-absent, greatest-total}
use Rattle.lane_rows.proofs.MaxLanes.{chosen-none}

abbrev turned : Option ℤ → Option ℤ
turned e = option_map neg_ℤ e

turned-add : (a b : Option ℤ) → turned (max_plus.add a b) ≡ min_plus.add (turned a) (turned b)
turned-add None b = refl
turned-add (Some x) None = refl
turned-add (Some x) (Some y) =
    (let same : neg_ℤ (int_max x y) ≡ int_min (neg_ℤ x) (neg_ℤ y) = omega (arith, ints, clamps) in ap Some same)

turned-mul : (a b : Option ℤ) → turned (max_plus.mul a b) ≡ min_plus.mul (turned a) (turned b)
turned-mul None b = refl
turned-mul (Some x) None = refl
turned-mul (Some x) (Some y) = (let same : neg_ℤ (x +ℤ y) ≡ neg_ℤ x +ℤ neg_ℤ y = omega (arith, ints) in ap Some same)

turned-reach : (a : Option ℤ) → min_plus.reach (turned a) ≡ max_plus.reach a
turned-reach None = refl
turned-reach (Some x) = (let same : unsigned_abs (neg_ℤ x) ≡ unsigned_abs x = omega (arith, ints) in same)

turned-add_times : (w a b : Option ℤ)
    → turned (add_times max_plus w a b) ≡ add_times min_plus (turned w) (turned a) (turned b)
turned-add_times w a b = turned-add a (max_plus.mul w b) ∙ ap (min_plus.add (turned a)) (turned-mul w b)

turned-good : (lane : ℤ) → IsGood min_plus (opposite_of_lane lane) → IsGood max_plus (weight_of_lane lane)
turned-good lane good = record {
  sound = tt;
  within = subst (λ n. n ≤ weight_bound) (turned-reach (weight_of_lane lane)) good.within;
}

pub opposite-IsWithin : (lane : ℤ) → IsGood min_plus (opposite_of_lane lane) → IsWithin lane
opposite-IsWithin lane good = good-IsWithin lane (turned-good lane good)

pub opposites-IsWithin : (lanes : List ℤ) → All (IsGoodLane min_plus (λ lane. Unit {0}) opposite_of_lane) lanes
    → All IsWithin lanes
opposites-IsWithin lanes good = λ k d below. opposite-IsWithin (get_or lanes k d) (good k d below).good

turned-total : (lanes : List ℤ) → turned (total max_plus weight_of_lane lanes) ≡ total min_plus opposite_of_lane lanes
turned-total [] = refl
turned-total (x ∷ xs) =
    turned-add (weight_of_lane x) (total max_plus weight_of_lane xs)
    ∙ ap (min_plus.add (opposite_of_lane x)) (turned-total xs)

pub least-total : (lanes : List ℤ) → All IsWithin lanes
    → opposite_of_lane (greatest lanes) ≡ total min_plus opposite_of_lane lanes
least-total lanes each = ap turned (greatest-total lanes each) ∙ turned-total lanes

pub lifted-min_plus : (by : ℤ) (into from new : List ℤ) → by ≢ absent → IsWithin by → All IsWithin from
    → new ≡ lifted_max by into from
    → map opposite_of_lane new ≡ zip2 (add_times min_plus (opposite_of_lane by)) (map opposite_of_lane into)
    (map opposite_of_lane from)
lifted-min_plus by into from new present within from_within is =
    ap (map opposite_of_lane) is
    ∙ map-zip2 (raised by) (add_times min_plus (opposite_of_lane by)) opposite_of_lane opposite_of_lane IsWithin
    (λ a b b_within. ap turned (raised-max_plus by a b (within present) b_within
    ∙ ap (λ e. add_times max_plus e (weight_of_lane a) (weight_of_lane b)) (sym (weight-present by present)))
    ∙ turned-add_times (weight_of_lane by) (weight_of_lane a) (weight_of_lane b)) into from from_within

pub unlifted-min_plus : (by : ℤ) (into from : List ℤ) → by ≡ absent → length into ≡ length from
    → map opposite_of_lane into ≡ zip2 (add_times min_plus (opposite_of_lane by)) (map opposite_of_lane into)
    (map opposite_of_lane from)
unlifted-min_plus by into from none long =
    let same = length-map into opposite_of_lane in
    let other = length-map from opposite_of_lane in
    sym (ap (λ e. zip2 (add_times min_plus (turned e)) (map opposite_of_lane into) (map opposite_of_lane from))
    (weight-absent by none)
    ∙ zip2-left (add_times min_plus None) (map opposite_of_lane into) (map opposite_of_lane from)
    (λ a b. chosen-none int_min a) (omega arith))
