use Rattle.std.proofs.Common.{None, ap, arith}
use Rattle.board_core.proofs.PlaceLemmas.{item_is}
use Rattle.worker_pool.specs.Slots.{slot_end}
use Rattle.worker_pool.proofs.Longest.{put_there, left_there}
use Rattle.worker_pool.proofs.slots.keep_longest.Goals as goal

pub returns-then-slot_end-piece : goal.returns-then-slot_end-piece
returns-then-slot_end-piece g c =
    let there = item_is c.args.slots.now c.in-Some.place c.index-slots-place.result None
    (omega (arith, c.in-Some.ensures.0)) c.index-slots-place.is in
    put_there c.args.bounds.now c.requires.rises c.args.piece c.in-Some.place c.in-Some.ensures.0 c.in-Some.ensures.1
    c.in-Some.ensures.2
    c.args.slots.now c.requires.len
    (omega (arith, c.slot_end.ensures, ap slot_end c.index-slots-place.is, ap slot_end there))

pub returns-else-slot_end-piece : goal.returns-else-slot_end-piece
returns-else-slot_end-piece g c =
    let there = item_is c.args.slots.now c.in-Some.place c.index-slots-place.result None
    (omega (arith, c.in-Some.ensures.0)) c.index-slots-place.is in
    left_there c.args.bounds.now c.requires.rises c.args.piece c.in-Some.place c.in-Some.ensures.0
    c.in-Some.ensures.1 c.in-Some.ensures.2
    c.args.slots.now (omega (arith, c.slot_end.ensures, ap slot_end c.index-slots-place.is, ap slot_end there))
