use Rattle.std.proofs.Common.{◌≡◌, ◌+◌, ◌<◌, ◌-◌, arith}
use Rattle.interval_tree.proofs.Trees.{pop_cost, pop_stand, popped_is}
use Rattle.interval_tree.proofs.last_row.pop_row.Goals as goal

pub returns-in_err-shrunk-clause-cost : goal.returns-in_err-shrunk-clause-cost
returns-in_err-shrunk-clause-cost g c =
    let some : 0 < g.F.Fused.rows c.args.plan.now = omega (arith, c.rows-rows.ensures) in
    pop_cost g.met.F.Editable.laws c.args.plan.now c.args.steps.now c.shrunk_of.new.steps c.args.root.now some
    c.requires.holds c.shrunk_of.ensures.cost

pub returns-clause-holds : goal.returns-clause-holds
returns-clause-holds g c =
    let plan = c.args.plan.now in
    let some : 0 < g.F.Fused.rows plan = omega (arith, c.rows-rows.ensures) in
    let many : g.F.Fused.rows plan ≡ c.rows-rows.result - 1 + 1 = omega (arith, c.rows-rows.ensures) in
    pop_stand g.met.F.Editable.laws plan c.pop.new.self (c.rows-rows.result - 1) many
    (popped_is g.met.F.Editable.laws plan c.pop.new.self c.pop.result some c.pop.ensures.some_row c.pop.ensures.plan)
    c.put_shrunk.new.node c.put_shrunk.ensures.holds

pub returns-clause-cost : goal.returns-clause-cost
returns-clause-cost g c =
    let some : 0 < g.F.Fused.rows c.args.plan.now = omega (arith, c.rows-rows.ensures) in
    pop_cost g.met.F.Editable.laws c.args.plan.now c.args.steps.now c.shrunk_of.new.steps c.args.root.now some
    c.requires.holds c.shrunk_of.ensures.cost
