use Rattle.std.proofs.Common.{sym, subst}
use Rattle.worker_pool.specs.Workers.{WorkAccount, WorkEnds}
use Rattle.worker_pool.proofs.Accounting.{no_room}
use Rattle.worker_pool.proofs.working.work.Goals as goal

pub returns-in_default-clause-account : goal.returns-in_default-clause-account
returns-in_default-clause-account g c =
    subst (λ ps. WorkAccount c.args.cut.now c.args.seat c.args.seat c.args.hand.view ps 0 1) (sym c.new.ensures.items)
    (no_room c.args.cut.now c.args.seat c.args.hand.view c.requires.none_claimed c.requires.nothing_drawn.0)

pub returns-clause-end : goal.returns-clause-end
returns-clause-end g c =
    subst (λ ps. WorkEnds c.args.seat c.take_turns-stop.new.worker.seat c.take_turns-stop.new.worker.hand.view ps
    c.take_turns-stop.result.end) (sym c.into_pieces.ensures)
    c.take_turns-stop.ensures.stop.ends
