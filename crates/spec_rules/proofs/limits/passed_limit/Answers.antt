use Rattle.spec_rules.proofs.limits.passed_limit.Goals as goal

pub returns-in-Columns : goal.returns-in-Columns
returns-in-Columns c = rw (c.in-Columns.is, ← c.deref.ensures.value) (c.columns_limit.ensures c.args.count)

pub returns-in-Labels : goal.returns-in-Labels
returns-in-Labels c = rw (c.in-Labels.is, ← c.deref-in-Labels.ensures.value) (c.labels_limit.ensures c.args.count)

pub returns-in-Aggregate : goal.returns-in-Aggregate
returns-in-Aggregate c = rw c.in-Aggregate.is (c.goal_limit.ensures c.args.count)
