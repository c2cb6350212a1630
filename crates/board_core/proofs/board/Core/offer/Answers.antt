use Rattle.std.proofs.Common.{rules, arith, subst}
use Rattle.board_core.specs.declared.taken.CoreOffered.TheVariants as offered
use Rattle.board_core.specs.Board.{PlainBoard, plain}
use Rattle.board_core.specs.Sound.{IsSound}
use Rattle.board_core.proofs.Keeps.{offers_sound}
use Rattle.board_core.proofs.PlaceLemmas.{held_apart, claims_apart}
use Rattle.board_core.proofs.board.Core.offer.Goals as goal

pub lies_clear-requires-clause-apart : goal.lies_clear-requires-clause-apart
lies_clear-requires-clause-apart g c =
    held_apart (plain c.self.inside.rows c.self.inside.room c.self.inside.held.items c.self.inside.claims.items
    c.self.inside.log.items) c.self.invariant.sound.tidy

pub lies_clear-requires-else-not-lies_clear-clause-apart : goal.lies_clear-requires-else-not-lies_clear-clause-apart
lies_clear-requires-else-not-lies_clear-clause-apart g c =
    claims_apart (plain c.self.inside.rows c.self.inside.room c.self.inside.held.items c.self.inside.claims.items
    c.self.inside.log.items) c.self.invariant.sound.tidy

pub returns-clause-answer : goal.returns-clause-answer
returns-clause-answer g c = search rules

pub returns-clause-sound : goal.returns-clause-sound
returns-clause-sound g c =
    let P : PlainBoard g.row.V.Denot → Type 0 = λ b. IsSound b in
    offers_sound c.args.self.now (subst P c.self.view_is c.self.invariant.sound) c.args.who c.args.piece offered.Kept
    (plain c.self.inside.rows c.self.inside.room c.hold.new.held.items c.self.inside.claims.items c.hold.new.log.items)
    c.requires.nonempty c.requires.within (returns-clause-answer g c)

pub invariant_of-self : goal.invariant_of-self
invariant_of-self g c = record {
  held_room = omega (arith, c.hold.ensures.held_capacity, c.self.invariant.held_room);
  claims_room = c.self.invariant.claims_room;
  log_room = omega (arith, c.hold.ensures.log_capacity, c.self.invariant.log_room);
  entries = omega (arith, c.hold.ensures.held_len, c.hold.ensures.log_len, c.self.invariant.entries);
  sound = returns-clause-sound g c;
}
