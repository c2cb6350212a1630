use Rattle.std.proofs.Common.{sym}
use Rattle.gta_types.proofs.Unknown.{unknown_in-nil}
use Rattle.gta_types.proofs.uses.in_test.Goals as goal

pub returns-in-Length : goal.returns-in-Length
returns-in-Length c =
    rw c.in-Length.is (sym (unknown_in-nil c.args.names.now))
