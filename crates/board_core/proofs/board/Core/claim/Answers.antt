use Rattle.std.proofs.Common.{rules, arith, ◌≡◌, List, ap, subst, refl}
use Rattle.std.specs.Prelude.{IsSome}
use Rattle.interval_kit.specs.declared.piece.Piece.{Piece}
use Rattle.board_core.specs.declared.taken.CoreClaimed.TheVariants as claimed
use Rattle.board_core.specs.Board.{PlainBoard, plain, first_pair, pair_of}
use Rattle.board_core.specs.Sound.{IsSound}
use Rattle.board_core.proofs.Keeps.{claims_sound}
use Rattle.board_core.proofs.MeaningLemmas.{claims_plainly}
use Rattle.board_core.proofs.PlaceLemmas.{some_is}
use Rattle.board_core.proofs.board.Core.claim.Goals as goal

pub returns-then-free-lt2-clause-answer : goal.returns-then-free-lt2-clause-answer
returns-then-free-lt2-clause-answer g c =
    let S : List (Piece g.row.V.Denot) → Type 0 = λ xs. IsSome (first_pair xs) in
    let held : c.self.inside.held.items ≡ c.args.self.now.held = ap (λ (b : PlainBoard g.row.V.Denot). b.held)
    c.self.view_is in
    let pair = some_is (first_pair c.args.self.now.held) (subst S held (c.in-Some.ensures.found refl)) in
    (pair.0, pair.1, omega (arith, c.free.ensures, c.if-free-lt2.true), refl)

pub returns-in_default-clause-answer : goal.returns-in_default-clause-answer
returns-in_default-clause-answer g c = search rules

pub returns-in_default-clause-plainly : goal.returns-in_default-clause-plainly
returns-in_default-clause-plainly g c =
    let P : PlainBoard g.row.V.Denot → Type 0 = λ b. IsSound b in
    claims_plainly c.args.self.now c.args.who claimed.NoPair c.args.self.now
    (subst P c.self.view_is c.self.invariant.sound)
    (returns-in_default-clause-answer g c)

pub returns-clause-answer : goal.returns-clause-answer
returns-clause-answer g c = search rules

pub returns-clause-plainly : goal.returns-clause-plainly
returns-clause-plainly g c =
    let P : PlainBoard g.row.V.Denot → Type 0 = λ b. IsSound b in
    claims_plainly c.args.self.now c.args.who
    (claimed.Pair (pair_of c.args.who c.take_pair-left.result.0 c.take_pair-left.result.1))
    (plain c.self.inside.rows c.self.inside.room c.take_pair-left.new.held.items c.put.new.intervals.items
    c.append.new.log.items)
    (subst P c.self.view_is c.self.invariant.sound) (returns-clause-answer g c)

pub returns-clause-sound : goal.returns-clause-sound
returns-clause-sound g c =
    let P : PlainBoard g.row.V.Denot → Type 0 = λ b. IsSound b in
    claims_sound c.args.self.now (subst P c.self.view_is c.self.invariant.sound) c.args.who
    (claimed.Pair (pair_of c.args.who c.take_pair-left.result.0 c.take_pair-left.result.1))
    (plain c.self.inside.rows c.self.inside.room c.take_pair-left.new.held.items c.put.new.intervals.items
    c.append.new.log.items)
    (returns-clause-answer g c)

pub invariant_of-self : goal.invariant_of-self
invariant_of-self g c = record {
  held_room = omega (arith, c.take_pair-left.ensures.capacity, c.self.invariant.held_room);
  claims_room = omega (arith, c.put.ensures.capacity, c.self.invariant.claims_room);
  log_room = omega (arith, c.append.ensures.capacity, c.self.invariant.log_room);
  entries = omega (
    arith,
    c.take_pair-left.ensures.len,
    c.put.ensures.len,
    c.append.ensures.len,
    c.self.invariant.entries,
  );
  sound = returns-clause-sound g c;
}
