use Rattle.std.proofs.Common.{rules, arith, sym, subst}
use Rattle.board_core.specs.Board.{PlainBoard}
use Rattle.board_core.specs.Sound.{IsSound}
use Rattle.board_core.proofs.Keeps.{sound_settle}
use Rattle.board_core.proofs.board.Core.settle.Goals as goal

pub returns-clause-settled : goal.returns-clause-settled
returns-clause-settled g c = search rules

pub returns-clause-sound : goal.returns-clause-sound
returns-clause-sound g c =
    let P : PlainBoard g.row.V.Denot → Type 0 = λ b. IsSound b in
    subst P (sym (returns-clause-settled g c))
    (sound_settle c.args.self.now (subst P c.self.view_is c.self.invariant.sound) c.args.taken c.args.value
    c.requires.is_claim)

pub invariant_of-self : goal.invariant_of-self
invariant_of-self g c = record {
  held_room = omega (arith, c.put.ensures.capacity, c.self.invariant.held_room);
  claims_room = omega (arith, c.drop_claim.ensures.capacity, c.self.invariant.claims_room);
  log_room = omega (arith, c.append.ensures.capacity, c.self.invariant.log_room);
  entries = omega (arith, c.put.ensures.len, c.drop_claim.ensures.len, c.append.ensures.len, c.self.invariant.entries);
  sound = returns-clause-sound g c;
}
