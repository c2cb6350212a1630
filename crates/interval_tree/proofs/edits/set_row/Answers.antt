use Rattle.std.proofs.Common.{◌≡◌, ◌∙◌, sym, subst, arith}
use Rattle.interval_tree.specs.Node.{Holds}
use Rattle.interval_tree.proofs.Trees.{set_rows, set_stand, set_cost, set_may_go_back, set_goes_back}
use Rattle.interval_tree.proofs.edits.set_row.Goals as goal

pub path_of-requires-clause-within : goal.path_of-requires-clause-within
path_of-requires-clause-within g c κs within =
    omega (
      arith,
      c.rows-rows.ensures,
      set_rows g.met.F.Editable.laws c.args.plan.now c.set-old.new.self c.args.row
          c.args.new c.requires.in_range c.requires.may_set c.set-old.ensures.plan,
    )

pub path_of-requires-clause-others_stand : goal.path_of-requires-clause-others_stand
path_of-requires-clause-others_stand g c κs within =
    set_stand g.met.F.Editable.laws c.args.plan.now c.set-old.new.self c.args.row c.args.new c.requires.in_range
    c.requires.may_set c.set-old.ensures.plan c.rows-rows.result c.args.root.now c.rows-rows.ensures c.requires.holds

pub put-requires-clause-others_stand : goal.put-requires-clause-others_stand
put-requires-clause-others_stand g c κs within =
    set_stand g.met.F.Editable.laws c.args.plan.now c.set-old.new.self c.args.row c.args.new c.requires.in_range
    c.requires.may_set c.set-old.ensures.plan c.rows-rows.result c.args.root.now c.rows-rows.ensures c.requires.holds

pub set-requires-clause-in_range : goal.set-requires-clause-in_range
set-requires-clause-in_range g c =
    omega (
      arith,
      c.requires.in_range,
      set_rows g.met.F.Editable.laws c.args.plan.now c.set-old.new.self c.args.row
          c.args.new c.requires.in_range c.requires.may_set c.set-old.ensures.plan,
    )

pub set-requires-clause-may_set : goal.set-requires-clause-may_set
set-requires-clause-may_set g c =
    set_may_go_back g.met.F.Editable.laws c.args.plan.now c.set-old.new.self c.args.row c.args.new
    c.requires.in_range c.requires.may_set c.set-old.ensures.plan c.set-old.result c.set-old.ensures.old_row

pub returns-in-Ok-clause-holds : goal.returns-in-Ok-clause-holds
returns-in-Ok-clause-holds g c =
    let all : c.rows-rows.result ≡ g.F.Fused.rows c.set-old.new.self =
    c.rows-rows.ensures ∙ sym (set_rows g.met.F.Editable.laws c.args.plan.now c.set-old.new.self c.args.row
    c.args.new c.requires.in_range c.requires.may_set c.set-old.ensures.plan) in
    subst (λ n. Holds (g.F.Fused.stands c.set-old.new.self) 0 n c.put.new.node) all c.put.ensures.holds

pub returns-in-Ok-clause-cost : goal.returns-in-Ok-clause-cost
returns-in-Ok-clause-cost g c =
    set_cost g.met.F.Editable.laws c.args.plan.now c.set-old.new.self c.args.row c.args.new c.requires.in_range
    c.requires.may_set c.set-old.ensures.plan c.args.steps.now c.path_of.new.steps c.args.root.now c.requires.holds
    c.path_of.ensures.cost

pub returns-in-Err-clause-same_plan : goal.returns-in-Err-clause-same_plan
returns-in-Err-clause-same_plan g c =
    set_goes_back g.met.F.Editable.laws c.args.plan.now c.set-old.new.self c.args.row c.args.new c.requires.in_range
    c.requires.may_set c.set-old.ensures.plan c.set-old.result c.set.new.self c.set-old.ensures.old_row
    c.set.ensures.plan

pub returns-in-Err-clause-holds : goal.returns-in-Err-clause-holds
returns-in-Err-clause-holds g c =
    subst (λ p. Holds (g.F.Fused.stands p) 0 (g.F.Fused.rows p) c.args.root.now)
    (sym (returns-in-Err-clause-same_plan g c)) c.requires.holds

pub returns-in-Err-clause-cost : goal.returns-in-Err-clause-cost
returns-in-Err-clause-cost g c =
    set_cost g.met.F.Editable.laws c.args.plan.now c.set-old.new.self c.args.row c.args.new c.requires.in_range
    c.requires.may_set c.set-old.ensures.plan c.args.steps.now c.path_of.new.steps c.args.root.now c.requires.holds
    c.path_of.ensures.cost
