-- Weights: what marks have, candidates add up, and answers compare. A number is one, and so are several numbers of
-- which the first counts most.
use Rattle.std.specs.Prelude.{◌≡◌, ℕ, ◌+◌, ◌≤◌, ℤ, pos, ◌+ℤ◌, unsigned_abs}
use Rattle.std.specs.Ordering.{int_cmp}
use Rattle.std.specs.declared.cmp.Ordering.{Ordering}
use Rattle.witness_order.specs.Rankings.{IsRanking, KeepsRanking}

-- the order of weights, the weight of nothing, sums, and how far a weight reaches
pub record WeightsOn (W : Type 0) : Type 0 where
  pub order : W → W → Ordering
  pub nothing : W
  pub plus : W → W → W
  pub reach : W → ℕ

-- the laws: the order is total, only equal weights tie, and sums keep it strictly; a sum reaches no further than both
-- weights together
pub record IsWeight {W : Type 0} (w : WeightsOn W) : Type 0 where
  pub ranking : IsRanking w.order
  pub kept : KeepsRanking w.order w.nothing w.plus
  pub commutative : (a b : W) → w.plus a b ≡ w.plus b a
  pub nothing_reach : w.reach w.nothing ≡ 0
  pub plus_reach : (a b : W) → w.reach (w.plus a b) ≤ w.reach a + w.reach b

-- numbers, each of which reaches as far as its absolute value
abbrev pub numbers : WeightsOn ℤ
numbers = record { order = int_cmp; nothing = pos 0; plus = ◌+ℤ◌; reach = unsigned_abs }
