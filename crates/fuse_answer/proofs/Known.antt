-- The measures of an aggregate are declared.
use Rattle.std.proofs.Common.{ℕ, suc, ◌<◌, List, [], ◌∷◌, length, inl, inr, subst, sym, All, arith}
use Rattle.monoid_kit.specs.Items.{IsIn}
use Rattle.gta_checked.specs.Plain.{PlainChecked}
use Rattle.gta_checked.specs.Within.{IsGoalWithin, IsWithinLimits}
use Rattle.gta_checked.specs.declared.resolved.Goal.{Goal}
use Rattle.gta_checked.specs.declared.resolved.Goal.TheVariants.{Count, Any, Max, Min, Best, Ranked}
use Rattle.gta_checked.specs.declared.resolved.Rank.{Rank}
use Rattle.gta_meaning.specs.Heavy.{goal_measures, rank_measures}

only-below : (measures m measure : ℕ) → m < measures → IsIn measure (m ∷ []) → measure < measures
only-below measures m measure below m_in = elim m_in [
  | inl is ↦ subst (λ n. n < measures) (sym is) below
  | inr none ↦ absurd none
]

ranks-below : (measures : ℕ) (ranks : List Rank) (measure : ℕ) → All (λ rank. rank.measure < measures) ranks
    → IsIn measure (rank_measures ranks) → measure < measures
ranks-below measures [] measure all m_in = absurd m_in
ranks-below measures (rank ∷ ranks) measure all m_in = elim m_in [
  | inl is ↦ subst (λ n. n < measures) (sym is) (all 0 rank (omega arith))
  | inr later ↦ ranks-below measures ranks measure (λ k d below. all (suc k) d (omega arith)) later
]

goal-below : (measures : ℕ) (goal : Goal) (measure : ℕ) → IsGoalWithin measures goal
    → IsIn measure (goal_measures goal) → measure < measures
goal-below measures Count measure within m_in = absurd m_in
goal-below measures Any measure within m_in = absurd m_in
goal-below measures (Max m) measure within m_in = only-below measures m measure within m_in
goal-below measures (Min m) measure within m_in = only-below measures m measure within m_in
goal-below measures (Best k greatest m) measure within m_in = only-below measures m measure within.2 m_in
goal-below measures (Ranked k ranks) measure within m_in = ranks-below measures ranks measure within.1.declared m_in

pub measure-known : (checked : PlainChecked) (measure : ℕ) → IsWithinLimits checked
    → IsIn measure (goal_measures checked.goal) → measure < length checked.measures
measure-known checked measure within m_in = goal-below (length checked.measures) checked.goal measure within.goal m_in
