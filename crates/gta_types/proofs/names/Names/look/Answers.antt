use Rattle.std.proofs.Common.{◌∙◌}
use Rattle.gta_types.proofs.Keys.{at_key}
use Rattle.gta_types.proofs.names.Names.look.Goals as goal

pub returns : goal.returns
returns c = c.copied.ensures ∙ c.get.ensures.value ∙ at_key c.args.self.now c.args.scope c.args.name.now
