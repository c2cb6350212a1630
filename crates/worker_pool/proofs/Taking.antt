-- Leaves that are taken: each is new, and they are no more than were dealt.
use Rattle.std.proofs.Common.{◌≡◌, ◌≢◌, ℕ, zero, suc, ◌+◌, ◌<◌, ◌≤◌, ◌==◌, nat_lt, Bool, cond, List, [], ◌∷◌, ◌++◌}
use Rattle.std.proofs.Common.{length, refl, ap, sym, subst, ◌∙◌, arith, ⊎_elim}
use Rattle.std.specs.Prelude.{count_by}
use Rattle.std.specs.List.{All}
use Rattle.std.proofs.lemmas.List.Sums.{sum_by-cons}
use Rattle.std.proofs.lemmas.List.Elements.{All-push, All-head, All-tail}
use Rattle.std.proofs.lemmas.Bool.Decides.{nat_tests}
use Rattle.steal_deal.specs.declared.view.View.{View}
use Rattle.steal_deal.specs.declared.hand.Drawn.{Drawn}
use Rattle.steal_deal.specs.declared.hand.Drawn.TheVariants as drawn
use Rattle.steal_deal.specs.Views.{copies}
use Rattle.steal_deal.specs.Draws.{Draws, HasMet, IsLowestLeft}
use Rattle.steal_deal.proofs.Counting.{part-le-sum_by, copies_push-same, copies_push-other}
use Rattle.steal_deal.proofs.Keeping.{number_kept, partition_kept, taken_grown, taken_kept, met_kept, met_by_empty}
use Rattle.worker_pool.specs.Leaves.{AreDealt, TakesLeaf}
use Rattle.worker_pool.proofs.Bounds.{same_or_not}

-- a leaf that is given was with no hand before
not_yet_taken : (v : View) (b y : ℕ) → IsLowestLeft v b y → copies y v.taken ≡ 0
not_yet_taken v b y lowest =
    let left = lowest.others_left y (let n = lowest.is_next in let w = lowest.within in (omega arith, omega arith))
    (omega arith) in
    omega (
      arith,
      left,
      part-le-sum_by (λ u. copies y u.taken) lowest.before.blocks.views lowest.before.place v
          lowest.before.hand,
    )

pub leaf_taken : (u v w : View) (b y : ℕ) → v.taken ≡ u.taken → v.number ≡ u.number → v.partition ≡ u.partition
    → Draws v b (drawn.Leaf y) w → TakesLeaf u y w
leaf_taken u v w b y taken number partition given = record {
  joins = taken_grown v w b y given ∙ ap (λ ys. ys ++ y ∷ []) taken;
  below = subst (λ p. y < p.count) partition given.below;
  not_taken = subst (λ ys. copies y ys ≡ 0) taken (not_yet_taken v b y given.lowest);
  number = number_kept v w b (drawn.Leaf y) given ∙ number;
}

-- an answer that is no leaf
not_leaf : (r : Drawn) → ((y : ℕ) → r ≡ drawn.Leaf y → ⊥) → r ≡ drawn.Empty
not_leaf (drawn.Leaf y) never = absurd (never y refl)
not_leaf drawn.Empty never = refl

pub record StillLooks (u v : View) (blocks : ℕ) : Type 0 where
  pub taken : v.taken ≡ u.taken
  pub number : v.number ≡ u.number
  pub partition : v.partition ≡ u.partition
  pub met : (b : ℕ) → b < blocks → HasMet v b

pub looked_further : (u v w : View) (b : ℕ) (r : Drawn) → StillLooks u v b → ((y : ℕ) → r ≡ drawn.Leaf y → ⊥)
    → Draws v b r w → StillLooks u w (b + 1)
looked_further u v w b r looks never given =
    let none : Draws v b drawn.Empty w = subst (λ d. Draws v b d w) (not_leaf r never) given in
    record {
      taken = taken_kept v w b none ∙ looks.taken;
      number = number_kept v w b drawn.Empty none ∙ looks.number;
      partition = partition_kept v w b drawn.Empty none ∙ looks.partition;
      met = λ k below. ⊎_elim
          (λ (here : k ≡ b). subst (λ n. HasMet w n) (sym here) (met_by_empty v w b none))
          (λ (other : k ≢ b). met_kept v w b drawn.Empty none k (looks.met k (omega arith)))
          (same_or_not k b);
    }

pub own_looked : (u w : View) (b : ℕ) (r : Drawn) → ((y : ℕ) → r ≡ drawn.Leaf y → ⊥) → Draws u b r w → StillLooks u w 0
own_looked u w b r never given =
    let none : Draws u b drawn.Empty w = subst (λ d. Draws u b d w) (not_leaf r never) given in
    record {
      taken = taken_kept u w b none;
      number = number_kept u w b drawn.Empty none;
      partition = partition_kept u w b drawn.Empty none;
      met = λ k below. absurd (omega arith);
    }

pub dealt_with_leaf : (v w : View) (y : ℕ) → w.partition ≡ v.partition → TakesLeaf v y w → AreDealt v → AreDealt w
dealt_with_leaf v w y partition took dealt = record {
  once = λ x. subst (λ ys. copies x ys ≤ 1) (sym took.joins)
      (⊎_elim
      (λ (same : y ≡ x). subst (λ z. copies z (v.taken ++ y ∷ []) ≤ 1) same
      (omega (arith, copies_push-same y v.taken, took.not_taken)))
      (λ (other : y ≢ x). omega (arith, copies_push-other x y v.taken other, dealt.once x))
      (same_or_not y x));
  below = subst (λ p. All (λ z. z < p.count) w.taken) (sym partition)
      (subst (λ ys. All (λ z. z < v.partition.count) ys) (sym took.joins)
      (All-push (λ z. z < v.partition.count) v.taken y dealt.below took.below));
}

abbrev one_if : Bool → ℕ
one_if t = cond t 1 0

-- how many of the numbers are below n
abbrev below_count : ℕ → List ℕ → ℕ
below_count n xs = count_by (λ y. nat_lt y n) xs

one_step : (n y : ℕ) → one_if (nat_lt y (suc n)) ≡ one_if (nat_lt y n) + one_if (y == n)
one_step n y = grind (arith, nat_tests)

below_more : (n : ℕ) (xs : List ℕ) → below_count (suc n) xs ≡ below_count n xs + copies n xs
below_more n [] = refl
below_more n (x ∷ xs) =
    let rest = below_more n xs in
    let here = one_step n x in
    omega (
      arith,
      sum_by-cons (λ y. cond (nat_lt y (suc n)) 1 0) x xs,
      sum_by-cons (λ y. cond (nat_lt y n) 1 0) x xs,
      sum_by-cons (λ y. cond (y == n) 1 0) x xs,
    )

below_none : (xs : List ℕ) → below_count 0 xs ≡ 0
below_none [] = refl
below_none (x ∷ xs) =
    let rest = below_none xs in
    let here : one_if (nat_lt x 0) ≡ 0 = grind (arith, nat_tests) in
    omega (arith, sum_by-cons (λ y. cond (nat_lt y 0) 1 0) x xs)

few_below : (n : ℕ) (xs : List ℕ) → ((y : ℕ) → copies y xs ≤ 1) → below_count n xs ≤ n
few_below zero xs once = omega (arith, below_none xs)
few_below (suc n) xs once = omega (arith, few_below n xs once, below_more n xs, once n)

all_below : (n : ℕ) (xs : List ℕ) → All (λ y. y < n) xs → below_count n xs ≡ length xs
all_below n [] below = refl
all_below n (x ∷ xs) below =
    let rest = all_below n xs (All-tail (λ y. y < n) x xs below) in
    let first = All-head (λ y. y < n) x xs below in
    let here : one_if (nat_lt x n) ≡ 1 = grind (arith, nat_tests) in
    omega (arith, sum_by-cons (λ y. cond (nat_lt y n) 1 0) x xs)

pub few_taken : (v : View) → AreDealt v → length v.taken ≤ v.partition.count
few_taken v dealt = omega
    (arith, few_below v.partition.count v.taken dealt.once, all_below v.partition.count v.taken dealt.below)

pub dealt_still : (v w : View) → w.partition ≡ v.partition → w.taken ≡ v.taken → AreDealt v → AreDealt w
dealt_still v w partition taken dealt = record {
  once = subst (λ ys. (x : ℕ) → copies x ys ≤ 1) (sym taken) dealt.once;
  below = subst (λ p. All (λ z. z < p.count) w.taken) (sym partition)
      (subst (λ ys. All (λ z. z < v.partition.count) ys) (sym taken) dealt.below);
}
