use Rattle.std.proofs.Common.{◌∙◌, ap}
use Rattle.std.specs.Prelude.{insert}
use Rattle.board_core.specs.Places.{place_of}
use Rattle.board_core.proofs.PlaceLemmas.{insert_place}
use Rattle.board_core.proofs.places.put.Goals as goal

pub returns-clause-items : goal.returns-clause-items
returns-clause-items g c =
    let xs = c.args.intervals.now.items in
    let x = c.args.interval in
    c.in-Ok.ensures.items
    ∙ ap (λ i. insert xs i x) (c.place-at.ensures.index
    ∙ ap (λ n. place_of g.I.Interval.lo n xs) c.lo.ensures)
    ∙ insert_place g.I.Interval.lo x xs
