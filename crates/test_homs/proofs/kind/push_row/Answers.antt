use Rattle.test_homs.proofs.Pieces.{items-more}
use Rattle.test_homs.proofs.kind.push_row.Goals as goal

pub loop-label-preserved : goal.loop-label-preserved
loop-label-preserved g c =
    items-more ((g.K.Kind.hom c.args.kind.now).letter (g.K.Kind.rows c.args.kind.now) c.args.row)
    c.args.letters.now.items c.loop-label.letters.items c.push.new.self.items c.loop-label.label c.letter.result
    c.loop-label.invariant c.in_ok-push.ensures.items c.letter.ensures
