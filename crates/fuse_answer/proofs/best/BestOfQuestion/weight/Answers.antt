use Rattle.std.proofs.Common.{inl, refl}
use Rattle.fuse_answer.proofs.best.BestOfQuestion.weight.Goals as goal

pub value_at-requires-clause-weighed : goal.value_at-requires-clause-weighed
value_at-requires-clause-weighed c = c.requires.weighed c.args.self.now.measure (inl refl)
