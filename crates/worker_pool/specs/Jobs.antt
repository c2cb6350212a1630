-- What a worker is handed, and what it gives back.
use Rattle.std.specs.Prelude.{ℕ, ◌≡◌, ◌+◌, [], Some}
use Rattle.std.specs.List.{All}
use Rattle.atomic_table.specs.Seated.{TableId}
use Rattle.steal_deal.specs.Hands.{BlocksSeen, IsDealtWith}
use Rattle.board_table.specs.Seen.{SeatSeen, IsReady}
use Rattle.worker_pool.specs.declared.solving.Job.{Job}
use Rattle.worker_pool.specs.declared.working.Done.{Done}
use Rattle.worker_pool.specs.Walk.{IsGood}

module _ {F : Type 0} where
  -- a seat of this board and plan with no claim, which may give so many seats
  pub record MayShare (board : TableId) (plan : F) (spare : ℕ) (seat : SeatSeen F) : Type 0 where
    pub ready : IsReady board seat
    pub plan_is : seat.plan ≡ Some plan
    pub none_claimed : seat.taken ≡ []
    pub spare_is : seat.spare ≡ spare

  module _ {W : Type 0} where
    -- a seat and a hand that begin, for the worker of this number
    pub record IsJob (board : TableId) (plan : F) (blocks : BlocksSeen)
        (job : Job F W) : Type 0 where
      pub ready : IsReady board job.seat
      pub plan_is : job.seat.plan ≡ Some plan
      pub none_claimed : job.seat.taken ≡ []
      pub hand : IsDealtWith blocks job.hand
      pub number : job.hand.view.number + 1 ≡ job.worker
      pub none_taken : job.hand.view.taken ≡ []
      pub none_met : job.hand.view.met ≡ []

  module _ {W : Type 0} (rows : F → ℕ) (stands : F → ℕ → ℕ → W → Type 0) where
    -- each piece in the pocket stands
    abbrev pub IsGoodDone : F → Done F W → Type 0
    IsGoodDone plan done = All (IsGood (rows plan) (stands plan)) done.pocket.items
