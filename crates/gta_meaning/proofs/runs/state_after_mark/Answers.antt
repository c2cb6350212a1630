use Rattle.std.proofs.Common.{map, ◌∙◌}
use Rattle.std.specs.List.{find}
use Rattle.auto_monoid.specs.AutoOf.{plain_auto}
use Rattle.gta_checked.specs.Plain.{PlainPick, plain_pick}
use Rattle.gta_checked.specs.PlainRows.{plain_rows}
use Rattle.gta_meaning.specs.Values.{holds}
use Rattle.gta_meaning.proofs.FirstPick.{moved_by-Some, moved_by-None, picked-within}
use Rattle.gta_meaning.proofs.runs.state_after_mark.Goals as goal

pub moved-requires-clause-is_letter : goal.moved-requires-clause-is_letter
moved-requires-clause-is_letter c =
    let rows = plain_rows c.args.rows.now in
    let w = c.requires.within in
    picked-within c.args.rows.now.columns w.0 c.args.automaton.now.letters
    (λ (pick : PlainPick). holds rows c.args.mark.row c.args.mark.label pick.cond)
    (map plain_pick c.args.picks.now) c.in-Some.letter w.1 c.in-Some.ensures

pub returns-in-Some-clause-after : goal.returns-in-Some-clause-after
returns-in-Some-clause-after c =
    let rows = plain_rows c.args.rows.now in
    let automaton = plain_auto c.args.automaton.now in
    c.moved.ensures.moved
    ∙ moved_by-Some automaton c.args.state c.in-Some.letter
    (find (λ (pick : PlainPick). holds rows c.args.mark.row c.args.mark.label pick.cond)
    (map plain_pick c.args.picks.now)) c.in-Some.ensures

pub returns-in-None-clause-after : goal.returns-in-None-clause-after
returns-in-None-clause-after c =
    let rows = plain_rows c.args.rows.now in
    moved_by-None (plain_auto c.args.automaton.now) c.args.state
    (find (λ (pick : PlainPick). holds rows c.args.mark.row c.args.mark.label pick.cond)
    (map plain_pick c.args.picks.now)) c.in-None.ensures
