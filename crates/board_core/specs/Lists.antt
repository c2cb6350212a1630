-- What holds of a board's own lists.
use Rattle.std.specs.Prelude.{ℕ, ◌+◌, ◌≤◌}
use Rattle.std.specs.Vec.{vec_len, vec_capacity}
use Rattle.std.specs.VecDeque.{deque_len, deque_capacity}
use Rattle.std.specs.declared.vec.Vec.{Vec}
use Rattle.std.specs.declared.collections.VecDeque.{VecDeque}
use Rattle.std.specs.declared.alloc.Global.{Global}
use Rattle.interval_kit.specs.declared.piece.Piece.{Piece}
use Rattle.board_core.specs.declared.event.Logged.{Logged}
use Rattle.board_core.specs.declared.taken.Claim.{Claim}
use Rattle.board_core.specs.Board.{plain}
use Rattle.board_core.specs.Sound.{IsSound}

-- the board is sound, and no call on it needs memory
pub record IsCore {W : Type 0} (rows room : ℕ) (held : VecDeque (Piece W) Global)
    (claims : VecDeque Claim Global) (log : Vec Logged Global) : Type 0 where
  pub held_room : room ≤ deque_capacity held
  pub claims_room : room ≤ deque_capacity claims
  pub log_room : room ≤ vec_capacity log
  -- each held piece and each claim has an entry of its own
  pub entries : deque_len held + deque_len claims ≤ vec_len log
  pub sound : IsSound (plain rows room held.items claims.items log.items)
