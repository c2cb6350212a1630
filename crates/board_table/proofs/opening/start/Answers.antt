use Rattle.std.proofs.Common.{ap, sym, ◌∙◌, arith}
use Rattle.board_core.specs.Board.{empty}
use Rattle.board_table.proofs.Holding.{starts_fit}
use Rattle.board_table.proofs.opening.start.Goals as goal

pub new-requires-2 : goal.new-requires-2
new-requires-2 g c =
    let some_callers = c.requires.some_callers in
    starts_fit g.F.Fused.rows g.F.Fused.stands _ (omega arith) c.in_ok-core.core
    (c.in_ok-core.ensures.empty
    ∙ ap (λ n. empty n c.args.room) (c.rows.ensures ∙ ap (λ p. g.F.Fused.rows p) (sym c.of.ensures)))
    _ c.in_ok-slots.ensures.items
