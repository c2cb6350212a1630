use Rattle.std.proofs.Common.{sym}
use Rattle.gta_types.proofs.Unknown.{unknown_in-nil}
use Rattle.gta_types.proofs.uses.in_part.Goals as goal

pub returns-in-Columns : goal.returns-in-Columns
returns-in-Columns c =
    rw c.in-Columns.is (sym (unknown_in-nil c.args.names.now))

pub returns-in-Labels : goal.returns-in-Labels
returns-in-Labels c =
    rw c.in-Labels.is (sym (unknown_in-nil c.args.names.now))

pub returns-in-Generate : goal.returns-in-Generate
returns-in-Generate c =
    rw c.in-Generate.is (sym (unknown_in-nil c.args.names.now))
