use Rattle.std.proofs.Common.{map, ap, ◌∙◌}
use Rattle.std.specs.List.{find}
use Rattle.std.specs.Option.{unwrap_or}
use Rattle.gta_checked.specs.Plain.{PlainPick, plain_pick}
use Rattle.gta_checked.specs.PlainRows.{plain_rows}
use Rattle.gta_meaning.specs.Values.{holds}
use Rattle.gta_meaning.proofs.FirstPick.{unwrap_or-element_of}
use Rattle.gta_meaning.proofs.folds.picked.Goals as goal

pub returns : goal.returns
returns c =
    let rows = plain_rows c.args.rows.now in
    c.unwrap_or.ensures
    ∙ ap (λ found. unwrap_or found c.args.unit) c.first_pick.ensures
    ∙ unwrap_or-element_of c.args.unit
    (find (λ (pick : PlainPick). holds rows c.args.row c.args.label pick.cond) (map plain_pick c.args.picks.now))
