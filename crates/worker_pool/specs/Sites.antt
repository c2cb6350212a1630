-- A place of work and a worker, and what one turn of the worker makes.
use Rattle.std.specs.Prelude.{ℕ, ◌≡◌, ◌⊎◌, ◌+◌, ◌*◌, ◌<◌, List, ◌++◌, length, sum_by, slice_index, Some}
use Rattle.interval_kit.specs.Cut.{IsCut}
use Rattle.board_core.specs.declared.event.Logged.{Logged}
use Rattle.steal_deal.specs.declared.view.View.{View}
use Rattle.steal_deal.specs.Hands.{IsDealtWith}
use Rattle.board_table.specs.Seen.{IsReady}
use Rattle.worker_pool.specs.declared.pocket.Pocket.{Pocket}
use Rattle.worker_pool.specs.declared.turn.Turn.{Turn}
use Rattle.worker_pool.specs.declared.site.Site.{Site}
use Rattle.worker_pool.specs.declared.site.Worker.{Worker}
use Rattle.worker_pool.specs.Walk.{leaf_rows}
use Rattle.worker_pool.specs.Leaves.{AreDealt, HasMetAll}
use Rattle.worker_pool.specs.Pockets.{HasOffer}
use Rattle.worker_pool.specs.Turns.{HasKept, IfDrained, TurnEnds, left_by, loses}

-- the leaf of this number was kept, or is to be offered
abbrev pub IsDelivered : {W : Type 0} → List ℕ → List Logged → ℕ → Pocket W → ℕ → Type 0
IsDelivered cut gained who pocket number =
    HasKept gained who (slice_index cut number) (slice_index cut (number + 1))
    ⊎ HasOffer pocket (slice_index cut number) (slice_index cut (number + 1))

-- the leaves that a hand has taken, and joins of so many pairs
abbrev pub spent : (ℕ → ℕ) → ℕ → List ℕ → View → ℕ → ℕ
spent leaf join cut v pairs = sum_by (λ y. leaf (leaf_rows cut y)) v.taken + pairs * join

module _ {F W : Type 0} where
  -- the cut is of the plan's rows, and each leaf that is dealt is one of the cut's
  pub record IsSite (rows : F → ℕ) (site : Site F W) : Type 0 where
    pub cut : IsCut (rows site.plan.now) site.cut.now
    pub leaves : site.blocks.now.partition.count < length site.cut.now

  -- the seat and the hand are of this place, and its leaves are counted
  pub record IsAtWork (site : Site F W) (worker : Worker F W) : Type 0 where
    pub ready : IsReady site.board.now worker.seat
    pub plan_is : worker.seat.plan ≡ Some site.plan.now
    pub hand : IsDealtWith site.blocks.now worker.hand
    pub dealt : AreDealt worker.hand.view
    pub leaves_are : worker.leaves ≡ length worker.hand.view.taken

  module _ (rows : F → ℕ) (stands : F → ℕ → ℕ → W → Type 0) where
    -- the leaves that one turn drew, and the pairs that it claimed; each of these leaves was kept
    -- or is to be offered, but where there was no memory
    pub record TakesTurn (cut : List ℕ) (old : Worker F W) (before : Pocket W) (answer : Turn W)
        (new : Worker F W) : Type 0 where
      pub pairs : ℕ
      pub pairs_are : new.pairs ≡ old.pairs + pairs
      pub ends : TurnEnds rows stands old.seat before pairs answer new.seat
      pub leaves : List ℕ
      pub taken : new.hand.view.taken ≡ old.hand.view.taken ++ leaves
      pub delivered : (k : ℕ) → k + loses answer < length leaves
          → IsDelivered cut ends.makes.gained new.seat.number (left_by answer)
          (slice_index leaves k)
      pub met : IfDrained answer (HasMetAll new.hand.view)

  abbrev pub spent_by : (F → ℕ → ℕ) → (F → ℕ) → Site F W → Worker F W → ℕ
  spent_by leaf join site worker =
      spent (leaf site.plan.now) (join site.plan.now) site.cut.now worker.hand.view worker.pairs
