-- How a worker stops with a pocket in hand: what it owes then is in Workers.
use Rattle.std.specs.Prelude.{ℕ, ◌≡◌, ◌↔◌, ◌+◌, List}
use Rattle.board_table.specs.Seen.{SeatSeen}
use Rattle.worker_pool.specs.declared.pocket.Pocket.{Pocket}
use Rattle.worker_pool.specs.declared.site.Worker.{Worker}
use Rattle.worker_pool.specs.declared.working.WorkEnd.{WorkEnd}
use Rattle.worker_pool.specs.declared.working.WorkEnd.TheVariants.{Idle}
use Rattle.worker_pool.specs.declared.working.TheConstants.{MOST_MISSES}
use Rattle.worker_pool.specs.Pockets.{pieces_in, IsInHand}
use Rattle.worker_pool.specs.Workers.{WorkAccount, WorkEnds, lost}

module _ {F W : Type 0} (rows : F → ℕ) (stands : F → ℕ → ℕ → W → Type 0) where
  pub record Stops (cut : List ℕ) (old : SeatSeen F) (pocket : Pocket W) (end : WorkEnd)
      (new : Worker F W) : Type 0 where
    pub account : WorkAccount cut old new.seat new.hand.view (pieces_in pocket) new.pairs (lost end)
    pub ends : WorkEnds old new.seat new.hand.view (pieces_in pocket) end
    pub idle : (end ≡ Idle) ↔ (new.seat.missed ≡ old.missed + MOST_MISSES)
    pub in_hand : IsInHand rows stands new.seat pocket
