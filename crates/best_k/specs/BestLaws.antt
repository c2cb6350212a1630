-- The best k entries are a semiring, over any weights.
use Rattle.std.proofs.Common.{ℕ, ◌≤◌, Bool, [], ◌∷◌, refl}
use Rattle.shape_gen.specs.declared.mark.Mark.{Mark}
use Rattle.witness_order.specs.Rankings.{IsRanking, KeepsRanking}
use Rattle.witness_order.specs.Before.{no_marks}
use Rattle.witness_order.specs.Ranked.{IsRankedWithin}
use Rattle.semiring_kit.specs.Semiring.{IsSemiring}
use Rattle.semiring_kit.specs.Weight.{WeightsOn, IsWeight}
use Rattle.first_k.specs.FirstK.{reach_of, AddsReach}
use Rattle.first_k.specs.FirstKLaws.{first_k-IsSemiring, one_of-is_sound, one_of-reach}
use Rattle.best_k.specs.SeenLaws.{seen-IsRanking, seen-KeepsRanking, seen-AddsReach, seen_reach-of_mark}
use Rattle.best_k.specs.Best.{pair_of, entry_of, entry_order, joint, entry_reach, best_of, marked}

module _ {W : Type 0} (w : WeightsOn W) (laws : IsWeight w) where
  pub entry_order-IsRanking : (greatest : Bool) → IsRanking (entry_order w greatest)
  entry_order-IsRanking greatest = seen-IsRanking w laws pair_of entry_of (λ e. refl) (λ c. refl) greatest

  pub entry_order-KeepsRanking : (greatest : Bool)
      → KeepsRanking (entry_order w greatest) (entry_of (no_marks w.nothing)) (joint w)
  entry_order-KeepsRanking greatest = seen-KeepsRanking w laws pair_of entry_of (λ e. refl) (λ c. refl) greatest

  pub entry_reach-AddsReach : AddsReach (entry_reach w) (entry_of (no_marks w.nothing)) (joint w)
  entry_reach-AddsReach = seen-AddsReach w laws pair_of entry_of (λ e. refl) (λ c. refl)

  pub entry_reach-of_mark : (mark : Mark) (weight : W)
      → entry_reach w (entry_of (weight, mark ∷ [])) ≤ w.reach weight
  entry_reach-of_mark mark weight = seen_reach-of_mark w laws pair_of entry_of (λ e. refl) (λ c. refl) mark weight

  pub best_of-IsSemiring : (greatest : Bool) (k : ℕ) → IsSemiring (best_of w greatest k)
  best_of-IsSemiring greatest k =
      first_k-IsSemiring (entry_order w greatest) (entry_order-IsRanking greatest) (entry_of (no_marks w.nothing))
      (joint w) (entry_order-KeepsRanking greatest) (entry_reach w) entry_reach-AddsReach k

  pub marked-is_sound : (greatest : Bool) (k : ℕ) (mark : Mark) (weight : W)
      → IsRankedWithin (entry_order w greatest) k (marked w greatest k mark weight)
  marked-is_sound greatest k mark weight =
      one_of-is_sound (entry_order w greatest) (entry_order-IsRanking greatest) k (entry_of (weight, mark ∷ []))

  pub marked-reach : (greatest : Bool) (k : ℕ) (mark : Mark) (weight : W)
      → reach_of (entry_reach w) (marked w greatest k mark weight) ≤ w.reach weight
  marked-reach greatest k mark weight =
      one_of-reach (entry_order w greatest) (entry_reach w) k (entry_of (weight, mark ∷ [])) (w.reach weight)
      (entry_reach-of_mark mark weight)
