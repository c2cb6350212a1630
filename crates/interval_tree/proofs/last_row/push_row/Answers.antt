use Rattle.std.proofs.Common.{◌≡◌, ◌+◌, ◌∙◌, sym, subst, ap, arith}
use Rattle.interval_tree.specs.Node.{Holds}
use Rattle.interval_tree.proofs.Trees.{push_rows, push_stand, push_cost, push_goes_back, when_ok}
use Rattle.interval_tree.proofs.last_row.push_row.Goals as goal

pub grown_of-requires-clause-within : goal.grown_of-requires-clause-within
grown_of-requires-clause-within g c κs within =
    let is = when_ok c.push.result _ c.push.ensures.plan c.if-is_err.ensures.value in
    omega (
      arith,
      c.rows-rows.ensures,
      push_rows g.met.F.Editable.laws c.args.plan.now c.push.new.self c.args.new c.requires.may_push is,
    )

pub grown_of-requires-clause-holds : goal.grown_of-requires-clause-holds
grown_of-requires-clause-holds g c κs within =
    let is = when_ok c.push.result _ c.push.ensures.plan c.if-is_err.ensures.value in
    push_stand g.met.F.Editable.laws c.args.plan.now c.push.new.self c.args.new c.requires.may_push is
    c.rows-rows.result c.args.root.now c.rows-rows.ensures c.requires.holds

pub put_grown-requires-clause-holds : goal.put_grown-requires-clause-holds
put_grown-requires-clause-holds g c κs within =
    let is = when_ok c.push.result _ c.push.ensures.plan c.if-is_err.ensures.value in
    push_stand g.met.F.Editable.laws c.args.plan.now c.push.new.self c.args.new c.requires.may_push is
    c.rows-rows.result c.args.root.now c.rows-rows.ensures c.requires.holds

pub returns-in-Ok-clause-holds : goal.returns-in-Ok-clause-holds
returns-in-Ok-clause-holds g c =
    let is = when_ok c.push.result _ c.push.ensures.plan c.if-is_err.ensures.value in
    let all : c.rows-rows.result + 1 ≡ g.F.Fused.rows c.push.new.self =
    ap (λ n. n + 1) c.rows-rows.ensures
    ∙ sym (push_rows g.met.F.Editable.laws c.args.plan.now c.push.new.self c.args.new c.requires.may_push is) in
    subst (λ n. Holds (g.F.Fused.stands c.push.new.self) 0 n c.put_grown.new.node) all c.put_grown.ensures.holds

pub returns-in-Ok-clause-cost : goal.returns-in-Ok-clause-cost
returns-in-Ok-clause-cost g c =
    let is = when_ok c.push.result _ c.push.ensures.plan c.if-is_err.ensures.value in
    push_cost g.met.F.Editable.laws c.args.plan.now c.push.new.self c.args.new c.requires.may_push is
    c.args.steps.now c.grown_of.new.steps c.args.root.now c.requires.holds c.grown_of.ensures.cost

pub returns-in-Err-clause-same_plan : goal.returns-in-Err-clause-same_plan
returns-in-Err-clause-same_plan g c =
    let is = when_ok c.push.result _ c.push.ensures.plan c.if-is_err.ensures.value in
    push_goes_back g.met.F.Editable.laws c.args.plan.now c.push.new.self c.args.new c.requires.may_push is
    c.pop.result c.pop.new.self c.pop.ensures.some_row c.pop.ensures.plan

pub returns-in-Err-clause-holds : goal.returns-in-Err-clause-holds
returns-in-Err-clause-holds g c =
    subst (λ p. Holds (g.F.Fused.stands p) 0 (g.F.Fused.rows p) c.args.root.now)
    (sym (returns-in-Err-clause-same_plan g c)) c.requires.holds

pub returns-in-Err-clause-cost : goal.returns-in-Err-clause-cost
returns-in-Err-clause-cost g c =
    let is = when_ok c.push.result _ c.push.ensures.plan c.if-is_err.ensures.value in
    push_cost g.met.F.Editable.laws c.args.plan.now c.push.new.self c.args.new c.requires.may_push is
    c.args.steps.now c.grown_of.new.steps c.args.root.now c.requires.holds c.grown_of.ensures.cost
