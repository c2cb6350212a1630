-- The question looks at measures of its aggregate.
use Rattle.std.proofs.Common.{sym, subst}
use Rattle.fuse_answer.specs.Weighed.{AreWeighed}
use Rattle.gta_job.proofs.rows_job.lane_asked.Goals as goal

pub lane_answer_to-requires-clause-weighed : goal.lane_answer_to-requires-clause-weighed
lane_answer_to-requires-clause-weighed g c κs within =
    let question = c.args.question.now in
    subst (AreWeighed (g.Q.Question.measures question)) (sym c.requires.asked)
    (g.met.Q.Question.own_are_weighed question)
