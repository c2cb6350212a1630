-- Powers of two, and how high the node of so many rows may be.
use Rattle.std.proofs.Common.{◌≡◌, ℕ, zero, suc, ◌+◌, ◌-◌, ◌*◌, ◌%◌, ◌<◌, ◌≤◌, ◌^◌, max, arith, sym, subst}
use Rattle.std.proofs.Common.{nat_le, if◌then◌else◌, Bool, true, false, ap, ◌∙◌, refl}
use Rattle.std.proofs.Math.Nat.{pow-suc, mod-eq_of_lt, lt_of_not-le, not-le_of_lt}
use Rattle.std.proofs.lemmas.Bool.Decides.{nat_tests}
use Rattle.std.proofs.Math.Pow.{pow-lt, pow_mono}
use Rattle.interval_tree.specs.declared.node.Node.{Node}
use Rattle.interval_tree.specs.declared.node.Node.TheVariants.{NoRows, Row, Rows'}
use Rattle.interval_tree.specs.Node.{Holds, height}
use Rattle.interval_tree.specs.Levels.{levels, levels_to}

pub pow_more : (k : ℕ) → 2 ^ (k + 1) ≡ 2 ^ k * 2
pow_more k =
    let is : suc k ≡ k + 1 = omega arith in
    subst (λ n. 2 ^ n ≡ 2 ^ k * 2) is (pow-suc 2 k)

pub pow_twice : (level : ℕ) → 1 ≤ level → 2 ^ level ≡ 2 ^ (level - 1) + 2 ^ (level - 1)
pow_twice level some =
    let is : level - 1 + 1 ≡ level = omega arith in
    subst (λ n. 2 ^ n ≡ 2 ^ (level - 1) + 2 ^ (level - 1)) is (omega (arith, pow_more (level - 1)))

pub pow_below_back : (i j : ℕ) → 2 ^ i < 2 ^ j → i < j
pow_below_back i j below = lt_of_not-le (λ above. not-le_of_lt below (pow_mono above))

module _ {V : Type 0} (stands : ℕ → ℕ → V → Type 0) where
  -- a node that holds rows is less high than their number allows
  pub height_bound : (lo hi : ℕ) (node : Node V) → Holds stands lo hi node → lo < hi
      → 2 ^ height node < 2 * (hi - lo)
  height_bound lo hi NoRows holds some = omega arith
  height_bound lo hi (Row w) (a, b) some = omega arith
  height_bound lo hi (Rows' p left mid w q right) (a, b, c, d, e, f, g) some =
      let on_the_right : 2 ^ height right < 2 * (hi - mid) = height_bound mid hi right f b in
      let twice : 2 ^ (height left + 1) ≡ 2 ^ height left * 2 = pow_more (height left) in
      let lower : height right < height left + 1 = pow_below_back (height right) (height left + 1) (omega arith) in
      let is : max (height left) (height right) + 1 ≡ height left + 1 = omega arith in
      subst (λ n. 2 ^ n < 2 * (hi - lo)) (sym is) (omega arith)

  -- the left side is as high as the right one at least
  pub height_of_rows : (lo hi : ℕ) (p : _) (left : Node V) (mid : ℕ) (w : V) (q : _) (right : Node V)
      → Holds stands lo hi (Rows' p left mid w q right) → height (Rows' p left mid w q right) ≡ height left + 1
  height_of_rows lo hi p left mid w q right (a, b, c, d, e, f, g) =
      let on_the_right : 2 ^ height right < 2 * (hi - mid) = height_bound mid hi right f b in
      let twice : 2 ^ (height left + 1) ≡ 2 ^ height left * 2 = pow_more (height left) in
      let lower : height right < height left + 1 = pow_below_back (height right) (height left + 1) (omega arith) in
      omega arith

  -- with as many rows on the right as on the left there are as many as the height allows
  pub height_of_full : (lo hi : ℕ) (p : _) (left : Node V) (mid : ℕ) (w : V) (q : _) (right : Node V)
      → Holds stands lo hi (Rows' p left mid w q right) → hi - mid ≡ mid - lo
      → hi ≡ lo + 2 ^ height (Rows' p left mid w q right)
  height_of_full lo hi p left mid w q right (a, b, c, d, e, f, g) same =
      let is : height (Rows' p left mid w q right) ≡ height left + 1 =
      height_of_rows lo hi p left mid w q right (a, b, c, d, e, f, g) in
      let twice : 2 ^ (height left + 1) ≡ 2 ^ height left * 2 = pow_more (height left) in
      subst (λ n. hi ≡ lo + 2 ^ n) (sym is) (omega arith)

pub half_fits : (level : ℕ) → level < 32 → 1 * 2 ^ level % 4294967296 ≡ 2 ^ level
half_fits level below =
    let fits : 2 ^ level < 2 ^ 32 = pow-lt below in
    ap (λ n. n % 4294967296) (omega arith) ∙ mod-eq_of_lt fits

greatest_step : (test : Bool) (m rows h : ℕ) → h ≤ suc m → (test ≡ false → h ≤ levels_to m rows)
    → h ≤ (if test then suc m else levels_to m rows)
greatest_step true m rows h within rest = within
greatest_step false m rows h within rest = rest refl

is_not : (m rows h : ℕ) → h ≤ suc m → 2 ^ h ≤ 2 * rows → nat_le (2 ^ suc m) (2 * rows) ≡ false → h ≤ m
is_not m rows h within below test =
    let past : 2 * rows < 2 ^ suc m = grind (arith, nat_tests) in
    let less : h < suc m = pow_below_back h (suc m) (omega arith) in
    omega arith

pub greatest_to : (most rows h : ℕ) → h ≤ most → 2 ^ h ≤ 2 * rows → h ≤ levels_to most rows
greatest_to zero rows h within below = within
greatest_to (suc m) rows h within below =
    greatest_step (nat_le (2 ^ suc m) (2 * rows)) m rows h within
    (λ test. greatest_to m rows h (is_not m rows h within below test) below)

-- a number is below its power
below_power : (h : ℕ) → h < 2 ^ h
below_power zero = omega arith
below_power (suc h) = omega (arith, pow-suc 2 h, below_power h)

pub levels_greatest : (rows h : ℕ) → 2 ^ h ≤ 2 * rows → h ≤ levels rows
levels_greatest rows zero below = omega arith
levels_greatest rows (suc h) below =
    greatest_to rows rows (suc h) (omega (arith, pow-suc 2 h, below_power h)) below

within_step : (test : Bool) (m rows : ℕ) → (test ≡ true → 2 ^ suc m ≤ 2 * rows) → 2 ^ levels_to m rows ≤ 2 * rows
    → 2 ^ (if test then suc m else levels_to m rows) ≤ 2 * rows
within_step true m rows here rest = here refl
within_step false m rows here rest = rest

pub levels_to_within : (most rows : ℕ) → 1 ≤ rows → 2 ^ levels_to most rows ≤ 2 * rows
levels_to_within zero rows some = omega arith
levels_to_within (suc m) rows some =
    within_step (nat_le (2 ^ suc m) (2 * rows)) m rows (λ test. grind (arith, nat_tests))
    (levels_to_within m rows some)

-- the law of levels, with levels_greatest
pub levels_within : (rows : ℕ) → 1 ≤ rows → 2 ^ levels rows ≤ 2 * rows
levels_within rows some = levels_to_within rows rows some
