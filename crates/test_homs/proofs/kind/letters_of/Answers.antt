use Rattle.test_homs.specs.Prepared.{row_letters}
use Rattle.test_homs.proofs.Pieces.{pieces-more}
use Rattle.test_homs.proofs.kind.letters_of.Goals as goal

pub loop-row-preserved : goal.loop-row-preserved
loop-row-preserved g c =
    pieces-more (row_letters (g.K.Kind.hom c.args.kind.now) (g.K.Kind.rows c.args.kind.now) c.args.labels)
    c.loop-row.letters.items c.push_row.new.letters.items c.loop-row.row c.loop-row.invariant c.in_ok-push_row.ensures
