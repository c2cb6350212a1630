use Rattle.std.proofs.Common.{rules, arith, ◌≡◌, List, ap, sym, subst}
use Rattle.interval_kit.specs.declared.piece.Piece.{Piece}
use Rattle.board_core.specs.Ordered.{IsRisingBy}
use Rattle.board_core.specs.Board.{PlainBoard, put_piece}
use Rattle.board_core.specs.Sound.{IsSound}
use Rattle.board_core.proofs.Keeps.{sound_put_back}
use Rattle.board_core.proofs.TidyLemmas.{right_rises}
use Rattle.board_core.proofs.board.Core.put_back.Goals as goal

pub hold_again-requires-clause-right_rises : goal.hold_again-requires-clause-right_rises
hold_again-requires-clause-right_rises g c =
    let P : PlainBoard g.row.V.Denot → Type 0 = λ b. IsSound b in
    let R : List (Piece g.row.V.Denot) → Type 0 = λ xs. IsRisingBy (λ p. p.lo) (put_piece c.args.taken.right xs) in
    let held : c.self.inside.held.items ≡ c.args.self.now.held = ap (λ (b : PlainBoard g.row.V.Denot). b.held)
    c.self.view_is in
    let sound : IsSound c.args.self.now = subst P c.self.view_is c.self.invariant.sound in
    subst R (sym held) (right_rises c.args.self.now sound.tidy c.args.taken c.requires.is_claim)

pub returns-clause-put_back : goal.returns-clause-put_back
returns-clause-put_back g c = search rules

pub returns-clause-sound : goal.returns-clause-sound
returns-clause-sound g c =
    let P : PlainBoard g.row.V.Denot → Type 0 = λ b. IsSound b in
    subst P (sym (returns-clause-put_back g c))
    (sound_put_back c.args.self.now (subst P c.self.view_is c.self.invariant.sound) c.args.taken c.requires.is_claim)

pub invariant_of-self : goal.invariant_of-self
invariant_of-self g c = record {
  held_room = omega (arith, c.hold_again.ensures.held_capacity, c.self.invariant.held_room);
  claims_room = omega (arith, c.hold_again.ensures.claims_capacity, c.self.invariant.claims_room);
  log_room = omega (arith, c.append.ensures.capacity, c.self.invariant.log_room);
  entries = omega (
    arith,
    c.hold_again.ensures.held_len,
    c.hold_again.ensures.claims_len,
    c.append.ensures.len,
    c.self.invariant.entries,
  );
  sound = returns-clause-sound g c;
}
