use Rattle.fuse_core.proofs.plan.PlanMaps.components.Goals as goal

pub returns-clause-is_lawful : goal.returns-clause-is_lawful
returns-clause-is_lawful g c = rw (← c.self.view_is) c.self.invariant
