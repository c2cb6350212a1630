-- Lemmas on lanes of weights.
use Rattle.std.proofs.Common.{◌≡◌, ◌≢◌, ◌≤◌, ℤ, ◌+ℤ◌, ◌+◌, unsigned_abs, ◌⊎◌, List, [], ◌∷◌, length}
use Rattle.std.proofs.Common.{get_or, map, All, subst, Bool, true, false, FitsSigned, to_z, of_z, w64, cond, Option}
use Rattle.std.proofs.Common.{Some, None, inl, inr, refl, sym, ap, ◌∙◌, arith}
use Rattle.std.specs.Bool.{Decides}
use Rattle.std.specs.Int.{int_max}
use Rattle.std.specs.List.{fold}
use Rattle.std.specs.Ordering.{int_eq}
use Rattle.std.specs.Simd.Lanes.{zip2}
use Rattle.std.proofs.lemmas.List.{length-map}
use Rattle.std.proofs.lemmas.List.Elements.{All-head, All-tail}
use Rattle.std.proofs.lemmas.Bool.{false≢true}
use Rattle.std.proofs.lemmas.Bool.Decides.{Decides-int_eq}
use Rattle.std.proofs.lemmas.Int.{ints, clamps, to_z-of_z, fits_signed_from_abs}
use Rattle.monoid_kit.proofs.Products.{product_from_left-product_by}
use Rattle.semiring_kit.specs.Semiring.{IsGood, weight_bound}
use Rattle.semiring_kit.specs.Total.{total}
use Rattle.semiring_kit.specs.WeightLaws.{max_plus-IsSemiring}
use Rattle.semiring_kit.specs.Chosen.{chosen}
use Rattle.semiring_kit.specs.MaxPlus.{max_plus}
use Rattle.lane_rows.specs.Lanes.{IsGoodLane, add_times}
use Rattle.lane_rows.specs.MaxLanes.{absent, weight_of_lane, IsWithin, raised, lifted_max, greatest}
use Rattle.lane_rows.proofs.Zips.{map-zip2, zip2-left}

false_from_decides : {P : Type 0} (test : Bool) → Decides test P → (P → ⊥) → test ≡ false
false_from_decides true decides not = absurd (not (decides.0 refl))
false_from_decides false decides not = refl

pub present-int_eq : (lane : ℤ) → lane ≢ absent → int_eq lane absent ≡ false
present-int_eq lane present = false_from_decides (int_eq lane absent) (Decides-int_eq lane absent) present

pub cases_absent : (lane : ℤ) → (lane ≡ absent) ⊎ (lane ≢ absent)
cases_absent lane = by_test (int_eq lane absent) (Decides-int_eq lane absent)
  where
    by_test : (test : Bool) → Decides test (lane ≡ absent) → (lane ≡ absent) ⊎ (lane ≢ absent)
    by_test true decides = inl (decides.0 refl)
    by_test false decides = inr (λ same. false≢true (decides.1 same))

pub weight-absent : (lane : ℤ) → lane ≡ absent → weight_of_lane lane ≡ None
weight-absent lane same = ap weight_of_lane same

pub weight-present : (lane : ℤ) → lane ≢ absent → weight_of_lane lane ≡ Some lane
weight-present lane present = ap (λ t. cond t None (Some lane)) (present-int_eq lane present)

raised-absent : (weight a b : ℤ) → b ≡ absent → raised weight a b ≡ a
raised-absent weight a b same = ap (raised weight a) same

pub chosen-none : {W : Type 0} (choose : W → W → W) (a : Option W) → chosen choose a None ≡ a
chosen-none choose None = refl
chosen-none choose (Some x) = refl

pub raised-present : (weight a b : ℤ) → b ≢ absent → int_max a (b +ℤ weight) ≡ raised weight a b
raised-present weight a b present = ap (λ t. cond t a (int_max a (b +ℤ weight))) (sym (present-int_eq b present))

-- a test for absence, as the machine has it

pub absent-machine : (lane : ℤ) → FitsSigned w64 lane → of_z w64 lane ≡ 9223372036854775808 → lane ≡ absent
absent-machine lane fits tested = sym (to_z-of_z w64 lane fits) ∙ ap (to_z w64) tested

pub present-machine : (lane : ℤ) → (of_z w64 lane ≡ 9223372036854775808 → ⊥) → lane ≢ absent
present-machine lane tested same = tested (ap (of_z w64) same)

plus-reach : (a b : ℤ) → unsigned_abs (a +ℤ b) ≤ unsigned_abs a + unsigned_abs b
plus-reach a b = omega (arith, ints)

-- as the machine has it
pub raised-machine : (weight a b result : ℤ) → FitsSigned w64 weight → FitsSigned w64 a → FitsSigned w64 b
    → FitsSigned w64 result
    → (of_z w64 b ≡ 9223372036854775808 → ⊥) → IsWithin b → unsigned_abs weight ≤ weight_bound
    → result ≡ int_max (to_z w64 (of_z w64 a))
    (to_z w64 (of_z w64 (to_z w64 (of_z w64 b) +ℤ to_z w64 (of_z w64 weight))))
    → to_z w64 (of_z w64 result) ≡ raised weight a b
raised-machine weight a b result weight_fits a_fits b_fits result_fits tested within weight_within is =
    let present = present-machine b tested in
    let b_within = within present in
    let sum_fits : FitsSigned w64 (b +ℤ weight) =
    fits_signed_from_abs w64 (b +ℤ weight) (let both = plus-reach b weight in omega arith) in
    to_z-of_z w64 result result_fits ∙ is
    ∙ rw (
      to_z-of_z w64 a a_fits,
      to_z-of_z w64 b b_fits,
      to_z-of_z w64 weight weight_fits,
      to_z-of_z w64 (b +ℤ weight)
          sum_fits,
    )
    (raised-present weight a b present)

pub raised-read : (weight a b : ℤ) → FitsSigned w64 a → FitsSigned w64 b
    → raised weight (to_z w64 (of_z w64 a)) (to_z w64 (of_z w64 b)) ≡ raised weight a b
raised-read weight a b a_fits b_fits =
    ap (λ x. raised weight x (to_z w64 (of_z w64 b))) (to_z-of_z w64 a a_fits)
    ∙ ap (raised weight a) (to_z-of_z w64 b b_fits)

-- a lane that is raised shows the sum in the semiring
module _ (weight a b : ℤ) (weight_within : unsigned_abs weight ≤ weight_bound) (b_within : IsWithin b) where
  sum-present : b ≢ absent → int_max a (b +ℤ weight) ≢ absent
  sum-present present same = (let within = b_within present in omega (arith, ints, clamps))

  sum-absent : a ≡ absent → b ≢ absent → int_max a (b +ℤ weight) ≡ weight +ℤ b
  sum-absent none present = (let within = b_within present in omega (arith, ints, clamps))

  sum-both : int_max a (b +ℤ weight) ≡ int_max a (weight +ℤ b)
  sum-both = omega (arith, ints, clamps)

  by_shown : (x y : Option ℤ) → weight_of_lane a ≡ x → weight_of_lane b ≡ y
      → weight_of_lane (raised weight a b) ≡ add_times max_plus (Some weight) x y
      → weight_of_lane (raised weight a b) ≡ add_times max_plus (Some weight) (weight_of_lane a) (weight_of_lane b)
  by_shown x y a_is b_is shown =
      shown ∙ ap (λ e. add_times max_plus (Some weight) e y) (sym a_is)
      ∙ ap (add_times max_plus (Some weight) (weight_of_lane a)) (sym b_is)

  shown-present : b ≢ absent → weight_of_lane (raised weight a b) ≡ Some (int_max a (b +ℤ weight))
  shown-present present =
      ap weight_of_lane (sym (raised-present weight a b present))
      ∙ weight-present (int_max a (b +ℤ weight)) (sum-present present)

  pub raised-max_plus : weight_of_lane (raised weight a b)
      ≡ add_times max_plus (Some weight) (weight_of_lane a) (weight_of_lane b)
  raised-max_plus = elim (cases_absent b) [
    | inl none ↦
        by_shown (weight_of_lane a) None refl (weight-absent b none)
        (ap weight_of_lane (raised-absent weight a b none) ∙ sym (chosen-none int_max (weight_of_lane a)))
    | inr present ↦ elim (cases_absent a) [
      | inl none ↦
          by_shown None (Some b) (weight-absent a none) (weight-present b present)
          (shown-present present ∙ ap Some (sum-absent none present))
      | inr some ↦
          by_shown (Some a) (Some b) (weight-present a some) (weight-present b present)
          (shown-present present ∙ ap Some sum-both)
    ]
  ]

-- the greater of two lanes
module _ (a b : ℤ) (a_within : IsWithin a) (b_within : IsWithin b) where
  by_shown_max : (x y : Option ℤ) → weight_of_lane a ≡ x → weight_of_lane b ≡ y
      → weight_of_lane (int_max a b) ≡ max_plus.add x y
      → weight_of_lane (int_max a b) ≡ max_plus.add (weight_of_lane a) (weight_of_lane b)
  by_shown_max x y a_is b_is shown =
      shown ∙ ap (λ e. max_plus.add e y) (sym a_is) ∙ ap (max_plus.add (weight_of_lane a)) (sym b_is)

  max-left : b ≡ absent → int_max a b ≡ a
  max-left none = elim (cases_absent a) [
    | inl a_none ↦ omega (arith, ints, clamps)
    | inr some ↦ (let within = a_within some in omega (arith, ints, clamps))
  ]

  max-right : a ≡ absent → b ≢ absent → int_max a b ≡ b
  max-right none some = (let within = b_within some in omega (arith, ints, clamps))

  max-present : a ≢ absent → b ≢ absent → int_max a b ≢ absent
  max-present a_some b_some same = (let within = a_within a_some in omega (arith, ints, clamps))

  int_max-shows : weight_of_lane (int_max a b) ≡ max_plus.add (weight_of_lane a) (weight_of_lane b)
  int_max-shows = elim (cases_absent b) [
    | inl none ↦
        by_shown_max (weight_of_lane a) None refl (weight-absent b none)
        (ap weight_of_lane (max-left none) ∙ sym (chosen-none int_max (weight_of_lane a)))
    | inr present ↦ elim (cases_absent a) [
      | inl none ↦
          by_shown_max None (Some b) (weight-absent a none) (weight-present b present)
          (ap weight_of_lane (max-right none present) ∙ weight-present b present)
      | inr some ↦
          by_shown_max (Some a) (Some b) (weight-present a some) (weight-present b present)
          (weight-present (int_max a b) (max-present some present))
    ]
  ]

  int_max-IsWithin : IsWithin (int_max a b)
  int_max-IsWithin = elim (cases_absent b) [
    | inl none ↦ subst IsWithin (sym (max-left none)) a_within
    | inr present ↦ elim (cases_absent a) [
      | inl none ↦ subst IsWithin (sym (max-right none present)) b_within
      | inr some ↦ λ any. (let a_in = a_within some in let b_in = b_within present in omega (arith, ints, clamps))
    ]
  ]

greatest-fold : (lane : ℤ) (lanes : List ℤ) → IsWithin lane → All IsWithin lanes
    → weight_of_lane (fold int_max lane lanes) ≡ fold (λ sum x. max_plus.add sum (weight_of_lane x))
    (weight_of_lane lane) lanes
greatest-fold lane [] within each = refl
greatest-fold lane (x ∷ xs) within each =
    let x_within = All-head IsWithin x xs each in
    greatest-fold (int_max lane x) xs (int_max-IsWithin lane x within x_within) (All-tail IsWithin x xs each)
    ∙ ap (λ e. fold (λ sum y. max_plus.add sum (weight_of_lane y)) e xs) (int_max-shows lane x within x_within)

pub greatest-total : (lanes : List ℤ) → All IsWithin lanes
    → weight_of_lane (greatest lanes) ≡ total max_plus weight_of_lane lanes
greatest-total lanes each =
    greatest-fold absent lanes (λ present. absurd (present refl)) each
    ∙ product_from_left-product_by max_plus-IsSemiring.addition.monoid weight_of_lane lanes (λ x x_in. tt)

-- a lane that shows a good element
pub good-IsWithin : (lane : ℤ) → IsGood max_plus (weight_of_lane lane) → IsWithin lane
good-IsWithin lane good present = subst (λ e. max_plus.reach e ≤ weight_bound) (weight-present lane present) good.within

pub goods-IsWithin : (lanes : List ℤ) → All (IsGoodLane max_plus (λ lane. Unit {0}) weight_of_lane) lanes
    → All IsWithin lanes
goods-IsWithin lanes good = λ k d below. good-IsWithin (get_or lanes k d) (good k d below).good

-- all lanes at once
pub lifted-max_plus : (by : ℤ) (into from new : List ℤ) → by ≢ absent → IsWithin by → All IsWithin from
    → new ≡ lifted_max by into from
    → map weight_of_lane new ≡ zip2 (add_times max_plus (weight_of_lane by)) (map weight_of_lane into)
    (map weight_of_lane from)
lifted-max_plus by into from new present within from_within is =
    ap (map weight_of_lane) is
    ∙ map-zip2 (raised by) (add_times max_plus (Some by)) weight_of_lane weight_of_lane IsWithin
    (λ a b b_within. raised-max_plus by a b (within present) b_within) into from from_within
    ∙ ap (λ e. zip2 (add_times max_plus e) (map weight_of_lane into) (map weight_of_lane from))
    (sym (weight-present by present))

pub unlifted-max_plus : (by : ℤ) (into from : List ℤ) → by ≡ absent → length into ≡ length from
    → map weight_of_lane into ≡ zip2 (add_times max_plus (weight_of_lane by)) (map weight_of_lane into)
    (map weight_of_lane from)
unlifted-max_plus by into from none long =
    let same = length-map into weight_of_lane in
    let other = length-map from weight_of_lane in
    sym (ap (λ e. zip2 (add_times max_plus e) (map weight_of_lane into) (map weight_of_lane from))
    (weight-absent by none)
    ∙ zip2-left (add_times max_plus None) (map weight_of_lane into) (map weight_of_lane from)
    (λ a b. chosen-none int_max a) (omega arith))
