use Rattle.std.proofs.Common.{sym}
use Rattle.gta_types.proofs.Unknown.{unknown_in-nil}
use Rattle.gta_types.proofs.uses.in_goal.Goals as goal

pub returns-in-Count : goal.returns-in-Count
returns-in-Count c =
    rw c.in-Count.is (sym (unknown_in-nil c.args.names.now))

pub returns-in-Any : goal.returns-in-Any
returns-in-Any c =
    rw c.in-Any.is (sym (unknown_in-nil c.args.names.now))
