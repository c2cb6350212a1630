use Rattle.std.proofs.Common.{map, ap, ◌∙◌}
use Rattle.std.specs.List.{find}
use Rattle.auto_monoid.specs.MonoidOf.{letter_element}
use Rattle.auto_monoid.specs.TransitionOf.{machine}
use Rattle.gta_checked.specs.Plain.{PlainPick, plain_pick}
use Rattle.gta_checked.specs.PlainRows.{plain_rows}
use Rattle.gta_meaning.specs.Values.{holds}
use Rattle.gta_meaning.proofs.FirstPick.{picked-within}
use Rattle.test_homs.proofs.RunLaw.{element_of-Some}
use Rattle.test_homs.proofs.run.RunKind.letter.Goals as goal

pub of_letter-requires : goal.of_letter-requires
of_letter-requires c =
    let test = c.args.self.now in
    let rows = plain_rows test.rows.now in
    let w = c.requires.within.0 in
    record {
      is_letter = picked-within test.rows.now.columns w.0 (machine test.automaton.now).letters
          (λ (pick : PlainPick). holds rows c.args.row c.args.label pick.cond) (map plain_pick test.picks.now)
          c.in-Some.letter w.1 c.in-Some.ensures;
    }

pub returns-in-Some : goal.returns-in-Some
returns-in-Some c =
    let test = c.args.self.now in
    let rows = plain_rows test.rows.now in
    let automaton = machine test.automaton.now in
    c.of_letter.ensures.element
    ∙ ap (λ functions. letter_element automaton functions c.in-Some.letter) c.transition_laws.ensures.complete
    ∙ element_of-Some automaton c.in-Some.letter
    (find (λ (pick : PlainPick). holds rows c.args.row c.args.label pick.cond) (map plain_pick test.picks.now))
    c.in-Some.ensures
