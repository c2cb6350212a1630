-- What closing a board leaves. The answer names seats themselves, and so has a file of its own.
use Rattle.std.specs.Prelude.{ℕ}
use Rattle.board_table.specs.declared.answers.Leftover.{Leftover}
use Rattle.board_table.specs.declared.answers.Leftover.TheVariants.{Left, Nothing}
use Rattle.board_table.specs.Seen.{SeatSeen}
use Rattle.board_table.specs.Changes.{Misses}
use Rattle.board_table.specs.Answers.{Closes}

module _ {F W : Type 0} (rows : F → ℕ) (stands : F → ℕ → ℕ → W → Type 0) where
  abbrev pub CloseAnswers : SeatSeen F → Leftover F W → Type 0
  CloseAnswers old (Left seat held claimed log) =
      Closes rows stands old seat held.items claimed.items log.items
  CloseAnswers old (Nothing seat) = Misses old seat
