-- Each rank's measure is one of the ranks' measures.
use Rattle.std.proofs.Common.{inl, inr, refl, sym, subst}
use Rattle.gta_meaning.specs.Heavy.{rank_measures}
use Rattle.monoid_kit.specs.Items.{IsIn}
use Rattle.fuse_answer.specs.Ranks.{third_of}
use Rattle.fuse_answer.proofs.ranks.Ranks.weight.Goals as goal

pub value_at-first-requires-clause-weighed : goal.value_at-first-requires-clause-weighed
value_at-first-requires-clause-weighed c =
    c.requires.weighed c.args.self.now.first.measure (inl refl)

pub value_at-second-requires-clause-weighed : goal.value_at-second-requires-clause-weighed
value_at-second-requires-clause-weighed c =
    c.requires.weighed c.args.self.now.second.measure (inr (inl refl))

pub value_at-third-requires-clause-weighed : goal.value_at-third-requires-clause-weighed
value_at-third-requires-clause-weighed c =
    c.requires.weighed c.in-Some.rank.measure
    (inr (inr (subst (λ third. IsIn c.in-Some.rank.measure (rank_measures (third_of third))) (sym c.in-Some.is) (inl refl))))
