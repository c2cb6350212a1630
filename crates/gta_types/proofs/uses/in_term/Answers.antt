use Rattle.std.proofs.Common.{sym}
use Rattle.gta_types.proofs.Unknown.{unknown_in-nil}
use Rattle.gta_types.proofs.uses.in_term.Goals as goal

pub returns-in-None : goal.returns-in-None
returns-in-None c =
    rw c.in-None.is (sym (unknown_in-nil c.args.names.now))
