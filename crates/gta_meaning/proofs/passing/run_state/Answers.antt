use Rattle.std.proofs.Common.{◌<◌, ℕ, All, map, length, sym, ap, ◌∙◌, subst, arith}
use Rattle.std.proofs.lemmas.List.{length-map}
use Rattle.auto_monoid.specs.Auto.{PlainAuto}
use Rattle.auto_monoid.specs.AutoOf.{plain_auto}
use Rattle.auto_monoid.specs.TransitionOf.{machine}
use Rattle.gta_checked.specs.Plain.{plain_pick}
use Rattle.gta_checked.specs.PlainRows.{plain_rows}
use Rattle.gta_checked.specs.Tables.{no_automaton}
use Rattle.gta_checked.specs.Within.{IsPickWithin}
use Rattle.gta_meaning.specs.Runs.{state_reached}
use Rattle.gta_meaning.proofs.Parts.{item-at}
use Rattle.gta_meaning.proofs.passing.run_state.Goals as goal

pub state_reached-requires-clause-within : goal.state_reached-requires-clause-within
state_reached-requires-clause-within c =
    let checked = c.args.checked.now in
    let items = c.automata.result.now.items in
    let labels = length checked.labels in
    let picks = map plain_pick c.args.picks.now in
    let below : c.args.automaton < length items =
    omega (arith, c.requires.declared, sym (length-map items machine) ∙ ap length c.automata.ensures.automata) in
    let at = c.machine.ensures
    ∙ item-at machine items checked.automata c.automata.ensures.automata c.args.automaton c.index.result.now
    no_automaton below c.index.ensures in
    let lettered = subst (λ (letters : ℕ). All (IsPickWithin (length checked.columns) labels letters) picks)
    (ap (λ (automaton : PlainAuto). automaton.letters) (sym at)) c.requires.within in (
      labels,
      subst (λ (columns : ℕ). All (IsPickWithin columns labels c.machine.result.now.letters) picks)
          (sym c.requires.columns) lettered,
    )

pub returns : goal.returns
returns c =
    let checked = c.args.checked.now in
    let items = c.automata.result.now.items in
    let rows = plain_rows c.args.rows.now in
    let picks = map plain_pick c.args.picks.now in
    let below : c.args.automaton < length items =
    omega (arith, c.requires.declared, sym (length-map items machine) ∙ ap length c.automata.ensures.automata) in
    let at = c.machine.ensures
    ∙ item-at machine items checked.automata c.automata.ensures.automata c.args.automaton c.index.result.now
    no_automaton below c.index.ensures in
    c.state_reached.ensures
    ∙ ap (state_reached rows (plain_auto c.machine.result.now) picks) c.deref.ensures.value
    ∙ ap (λ (automaton : PlainAuto). state_reached rows automaton picks c.args.candidate.now.marks.items) at
