-- Semirings: their operations, their laws, and which of their elements are good.
use Rattle.std.specs.Prelude.{◌≡◌, ℕ, ◌+◌, ◌≤◌, max}
use Rattle.monoid_kit.specs.Monoid.{IsMonoidOn, IsCommutativeMonoidOn}

-- the operations of a semiring on E, which values of E have its structure, and how far the weights in a value reach
pub record SemiringOn (E : Type 0) : Type 1 where
  pub zero : E
  pub one : E
  pub add : E → E → E
  pub mul : E → E → E
  pub is_sound : E → Type 0
  pub reach : E → ℕ

-- the laws, on sound elements: a product over sums is the sum of products, and a sum or product reaches no further
-- than its parts
pub record IsSemiring {E : Type 0} (r : SemiringOn E) : Type 0 where
  pub addition : IsCommutativeMonoidOn r.is_sound r.zero r.add
  pub multiplication : IsMonoidOn r.is_sound r.one r.mul
  pub distributes_left : (a b c : E) → r.is_sound a → r.is_sound b → r.is_sound c
      → r.mul a (r.add b c) ≡ r.add (r.mul a b) (r.mul a c)
  pub distributes_right : (a b c : E) → r.is_sound a → r.is_sound b → r.is_sound c
      → r.mul (r.add a b) c ≡ r.add (r.mul a c) (r.mul b c)
  pub absorbs_left : (a : E) → r.is_sound a → r.mul r.zero a ≡ r.zero
  pub absorbs_right : (a : E) → r.is_sound a → r.mul a r.zero ≡ r.zero
  pub zero_reach : r.reach r.zero ≡ 0
  pub one_reach : r.reach r.one ≡ 0
  pub add_reach : (a b : E) → r.is_sound a → r.is_sound b → r.reach (r.add a b) ≤ max (r.reach a) (r.reach b)
  pub mul_reach : (a b : E) → r.is_sound a → r.is_sound b → r.reach (r.mul a b) ≤ r.reach a + r.reach b

-- the greatest reach of a good element
abbrev pub weight_bound : ℕ
weight_bound = 4611686018427387903

-- a sound element whose weights are within the bound
pub record IsGood {E : Type 0} (r : SemiringOn E) (a : E) : Type 0 where
  pub sound : r.is_sound a
  pub within : r.reach a ≤ weight_bound
