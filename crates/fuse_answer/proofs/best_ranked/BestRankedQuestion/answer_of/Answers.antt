use Rattle.std.proofs.Common.{All, sym, subst}
use Rattle.fuse_answer.proofs.Printed.{IsNear, listed-near}
use Rattle.fuse_answer.proofs.best_ranked.BestRankedQuestion.answer_of.Goals as goal

pub as_printed-requires : goal.as_printed-requires
as_printed-requires c = subst (All IsNear) (sym c.in_ok-best.ensures) (listed-near c.args.sum c.requires.within)
