-- Weights, with none besides: the sum of two is the one that is chosen, and their product adds them.
use Rattle.std.specs.Prelude.{◌≡◌, ℕ, ◌+◌, ◌≤◌, max, cond, Option, Some, None}
use Rattle.std.specs.Ordering.{is_gt}
use Rattle.std.specs.declared.cmp.Ordering.{Ordering}
use Rattle.semiring_kit.specs.Semiring.{SemiringOn}

-- the chosen one of two weights, or the one that there is
abbrev pub chosen : {W : Type 0} → (W → W → W) → Option W → Option W → Option W
chosen choose None b = b
chosen choose (Some x) None = Some x
chosen choose (Some x) (Some y) = Some (choose x y)

-- both weights together, or none where either is missing
abbrev pub together : {W : Type 0} → (W → W → W) → Option W → Option W → Option W
together plus None b = None
together plus (Some x) None = None
together plus (Some x) (Some y) = Some (plus x y)

-- the greater of two weights by an order
abbrev pub greater_by : {W : Type 0} → (W → W → Ordering) → W → W → W
greater_by order a b = cond (is_gt (order a b)) a b

-- the reach of the weight, or 0 where there is none
abbrev pub reach_of : {W : Type 0} → (W → ℕ) → Option W → ℕ
reach_of reach None = 0
reach_of reach (Some x) = reach x

-- the semiring of such weights
abbrev pub chosen_plus : {W : Type 0} → W → (W → W → W) → (W → W → W) → (W → ℕ) → SemiringOn (Option W)
chosen_plus nought plus choose reach = record {
  zero = None;
  one = Some nought;
  add = chosen choose;
  mul = together plus;
  is_sound = λ a. Unit {0};
  reach = reach_of reach;
}

-- a choice between weights that only their order decides, and that weights added to both leave as it is
pub record IsChoice {W : Type 0} (nought : W) (plus choose : W → W → W) (reach : W → ℕ) : Type 0 where
  pub choose_associative : (a b c : W) → choose (choose a b) c ≡ choose a (choose b c)
  pub choose_commutative : (a b : W) → choose a b ≡ choose b a
  pub plus_associative : (a b c : W) → plus (plus a b) c ≡ plus a (plus b c)
  pub plus_commutative : (a b : W) → plus a b ≡ plus b a
  pub plus_identity : (a : W) → plus nought a ≡ a
  pub distributes : (a b c : W) → plus a (choose b c) ≡ choose (plus a b) (plus a c)
  pub nought_reach : reach nought ≡ 0
  pub choose_reach : (a b : W) → reach (choose a b) ≤ max (reach a) (reach b)
  pub plus_reach : (a b : W) → reach (plus a b) ≤ reach a + reach b
