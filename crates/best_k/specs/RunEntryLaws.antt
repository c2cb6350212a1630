-- The order of run entries is a ranking, and joining them keeps it, over any weights.
use Rattle.std.proofs.Common.{◌≤◌, Bool, [], ◌∷◌, refl}
use Rattle.shape_gen.specs.declared.mark.Mark.{Mark}
use Rattle.witness_order.specs.Rankings.{IsRanking, KeepsRanking}
use Rattle.witness_order.specs.Before.{no_marks}
use Rattle.semiring_kit.specs.Weight.{WeightsOn, IsWeight}
use Rattle.first_k.specs.FirstK.{AddsReach}
use Rattle.best_k.specs.SeenLaws.{seen-IsRanking, seen-KeepsRanking, seen-AddsReach, seen_reach-of_mark}
use Rattle.best_k.specs.RunEntries.{run_pair_of, run_entry_of, run_order, run_joint, run_reach}

module _ {W : Type 0} (w : WeightsOn W) (laws : IsWeight w) where
  pub run_order-IsRanking : (greatest : Bool) → IsRanking (run_order w greatest)
  run_order-IsRanking greatest = seen-IsRanking w laws run_pair_of run_entry_of (λ e. refl) (λ c. refl) greatest

  pub run_order-KeepsRanking : (greatest : Bool)
      → KeepsRanking (run_order w greatest) (run_entry_of (no_marks w.nothing)) (run_joint w)
  run_order-KeepsRanking greatest = seen-KeepsRanking w laws run_pair_of run_entry_of (λ e. refl) (λ c. refl) greatest

  pub run_reach-AddsReach : AddsReach (run_reach w) (run_entry_of (no_marks w.nothing)) (run_joint w)
  run_reach-AddsReach = seen-AddsReach w laws run_pair_of run_entry_of (λ e. refl) (λ c. refl)

  pub run_reach-of_mark : (mark : Mark) (weight : W)
      → run_reach w (run_entry_of (weight, mark ∷ [])) ≤ w.reach weight
  run_reach-of_mark mark weight =
      seen_reach-of_mark w laws run_pair_of run_entry_of (λ e. refl) (λ c. refl) mark weight
