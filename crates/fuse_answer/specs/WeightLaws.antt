-- A value of a measure of the aggregate is at most the weight of its row.
use Rattle.std.proofs.Common.{◌≡◌, inl, inr, refl, ap, subst, ℕ, zero, suc, ◌+◌, ◌<◌, ◌≤◌, max}
use Rattle.std.proofs.Common.{Bool, true, false, List, [], ◌∷◌, map, nat_lt, arith, nat_abs, unsigned_abs}
use Rattle.std.specs.List.{fold, range_with_len}
use Rattle.std.proofs.lemmas.Int.{ints}
use Rattle.monoid_kit.specs.Items.{IsIn}
use Rattle.shape_gen.specs.declared.mark.Mark.{Mark}
use Rattle.gta_checked.specs.Plain.{PlainChecked}
use Rattle.gta_checked.specs.PlainRows.{PlainRows}
use Rattle.gta_meaning.specs.InRange.{label_count}
use Rattle.gta_meaning.specs.Values.{value}
use Rattle.gta_meaning.specs.Heavy.{measure_weight, row_weight}
use Rattle.gta_meaning.proofs.Weights.{greatest-more}
use Rattle.fuse_answer.specs.Weighed.{value_at}

by_test : {A : Type 0} (b : Bool) → (b ≡ true → A) → (b ≡ false → A) → A
by_test true t f = t refl
by_test false t f = f refl

-- a value is at most the greatest
greatest-each : (f : ℕ → ℕ) (n k : ℕ) → k < n → f k ≤ fold max 0 (map f (range_with_len 0 n))
greatest-each f zero k below = absurd (omega arith)
greatest-each f (suc n) k below =
    let whole = greatest-more f n in
    let up : n + 1 ≡ suc n = omega arith in
    subst (λ m. f k ≤ fold max 0 (map f (range_with_len 0 m))) up
    (by_test (nat_lt k n)
    (λ t. let earlier = greatest-each f n k (grind (arith, t)) in omega (arith, whole, earlier))
    (λ f'. let last : k ≡ n = grind (arith, f') in let same = ap f last in omega (arith, whole, same)))

-- a greatest of a list is at least where it starts, and at least each item

fold-start : (xs : List ℕ) (a : ℕ) → a ≤ fold max a xs
fold-start [] a = omega arith
fold-start (x ∷ xs) a = let more = fold-start xs (max a x) in omega (arith, more)

greatest-in : {X : Type 0} (f : X → ℕ) (xs : List X) (a : ℕ) (x : X) → IsIn x xs → f x ≤ fold max a (map f xs)
greatest-in f [] a x x_in = absurd x_in
greatest-in f (y ∷ ys) a x x_in = elim x_in [
  | inl is ↦ let more = fold-start (map f ys) (max a (f y)) in let same = ap f is in omega (arith, more, same)
  | inr later ↦ greatest-in f ys (max a (f y)) x later
]

pub value-within : (checked : PlainChecked) (rows : PlainRows) (measures : List ℕ) (measure : ℕ) (m : Mark)
    → IsIn measure measures → m.label < label_count checked
    → unsigned_abs (value_at checked rows measure m) ≤ row_weight checked rows measures m.row
value-within checked rows measures measure m measure_in below =
    let each = greatest-each (λ l. nat_abs (value checked rows measure m.row l)) (label_count checked) m.label below in
    let whole = greatest-in (measure_weight checked rows m.row) measures 0 measure measure_in in
    omega (arith, ints, each, whole)
