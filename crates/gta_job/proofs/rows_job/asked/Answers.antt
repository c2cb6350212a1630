-- The question looks at measures of its aggregate.
use Rattle.std.proofs.Common.{sym, subst}
use Rattle.fuse_answer.specs.Weighed.{AreWeighed}
use Rattle.gta_job.proofs.rows_job.asked.Goals as goal

pub answer_to-requires-clause-weighed : goal.answer_to-requires-clause-weighed
answer_to-requires-clause-weighed g c κs within =
    let question = c.args.question.now in
    subst (AreWeighed (g.Q.Question.measures question)) (sym c.requires.asked)
    (g.met.Q.Question.own_are_weighed question)
