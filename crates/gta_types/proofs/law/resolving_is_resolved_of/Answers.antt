use Rattle.gta_types.proofs.ResolvesEach.{resolves_each, resolves_once}
use Rattle.gta_types.proofs.law.resolving_is_resolved_of.Goals as goal

pub returns-clause-each : goal.returns-clause-each
returns-clause-each c = resolves_each

pub returns-clause-once : goal.returns-clause-once
returns-clause-once c = resolves_once
