use Rattle.std.proofs.Common.{Option, Ok, ◌+◌, ◌≡◌, ◌++◌, ◌∷◌, [], List, Some, None, map, take, sym, ap, ◌∙◌}
use Rattle.std.specs.Option.{option_or}
use Rattle.std.proofs.lemmas.List.{append-nil, map-append, take_all}
use Rattle.outcome_kit.specs.Outcome.{unless}
use Rattle.monoid_kit.proofs.Finds.{option_or-first_none, option_or-second_none, some≢none}
use Rattle.auto_monoid.specs.Auto.{PlainAuto}
use Rattle.auto_monoid.specs.AutoOf.{plain_auto}
use Rattle.auto_monoid.specs.TransitionOf.{machine}
use Rattle.gta_spec.specs.Parts.{AutomatonTree, part_tree, automaton_tree}
use Rattle.spec_automata.specs.declared.fault.AutomataFault.{AutomataFault}
use Rattle.spec_automata.specs.Automata.{automata_in, automaton_of}
use Rattle.spec_automata.specs.Faults.{automata_fault, first_of, not_total, too_many}
use Rattle.spec_automata.proofs.Rows.{automata_in-next, automaton_ready, no_automaton_line}
use Rattle.spec_automata.proofs.Told.{first_of-push, first_of-same, added-fault, added-new, both_told, told-ends}
use Rattle.spec_automata.proofs.automata.checked_automata.Goals as goal
use Rattle.spec_automata.proofs.automata.checked_automata.Goals.{in-Automaton+in_ok-auto+in-Ok+in_ok-fault-in-Ok}
use Rattle.spec_automata.proofs.automata.checked_automata.Goals.{in-Automaton+in_ok-auto+in-Err, in_default}

pub total_automaton-requires : goal.total_automaton-requires
total_automaton-requires c = record {
  ready = automaton_ready c.args.parts.now c.loop-part.part-index c.part-item.result c.in-Automaton.automaton
      c.requires.ready c.loop-part-test.true c.part-item.is c.in-Automaton.is;
}

pub loop-part-preserved : goal.loop-part-preserved
loop-part-preserved c =
    let all = map part_tree c.args.parts.now in
    let i = c.loop-part.part-index in
    let so_far = automata_in (map part_tree (take i c.args.parts.now)) in
    let known = c.loop-part.invariant in
    let next = automata_in-next c.args.parts.now i c.part-item.result c.loop-part-test.true c.part-item.is in
    elim c.match-part.branch [
      | in-Automaton+in_ok-auto+in-Ok+in_ok-fault-in-Ok w ↦ (
          let automaton = automaton_tree w.in-Automaton.automaton in
          let more : automata_in (map part_tree (take (i + 1) c.args.parts.now)) ≡ so_far ++ automaton ∷ [] =
          rw w.in-Automaton.is at next in
          let total = rw w.in-Ok.is at w.in_ok-auto.ensures in
          let auto = plain_auto w.in-Ok.auto in
          let old = map machine c.loop-part.automata.items in
          let new = map machine w.add_monoid.new.automata.items in
          let fault = w.in_ok-fault-in-Ok.fault in
          let added = w.in_ok-fault-in-Ok.ensures.added in
          let none_before : c.match-part.not_total ≡ None → c.loop-part.not_total ≡ None =
          λ none. sym w.not_total-is ∙ none in
          let both : c.match-part.too_many ≡ option_or c.loop-part.too_many fault =
          w.too_many-is ∙ w.or-too_many.ensures in
          record {
            not_total = w.not_total-is ∙ known.not_total ∙ sym (first_of-same (not_total all) so_far automaton total.0)
                ∙ ap (first_of (not_total all)) (sym more);
            too_many = λ none. both
                ∙ ap (λ (o : Option AutomataFault). option_or o fault) (known.too_many (none_before none))
                ∙ ap (option_or (first_of (too_many all) so_far))
                (added-fault all automaton auto old new fault total.1 added)
                ∙ sym (first_of-push (too_many all) so_far automaton)
                ∙ ap (first_of (too_many all)) (sym more);
            automata = λ none few.
                let no_fault = option_or-second_none c.loop-part.too_many fault (sym both ∙ few) in
                let few_before = option_or-first_none c.loop-part.too_many fault (sym both ∙ few) in
                rw w.automata-is (added-new automaton.name auto old new fault added no_fault
                ∙ ap (λ (xs : List PlainAuto). xs ++ auto ∷ []) (known.automata (none_before none) few_before)
                ∙ ap (λ (x : PlainAuto). map (automaton_of all) so_far ++ x ∷ []) total.1
                ∙ sym (map-append (automaton_of all) so_far (automaton ∷ []))
                ∙ ap (map (automaton_of all)) (sym more));
            within = rw w.automata-is w.in_ok-fault-in-Ok.ensures.within;
          })
      | in-Automaton+in_ok-auto+in-Err w ↦ (
          let automaton = automaton_tree w.in-Automaton.automaton in
          let more : automata_in (map part_tree (take (i + 1) c.args.parts.now)) ≡ so_far ++ automaton ∷ [] =
          rw w.in-Automaton.is at next in
          let fault = w.in-Err.fault in
          let partial = rw w.in-Err.is at w.in_ok-auto.ensures in
          let both : c.match-part.not_total ≡ option_or c.loop-part.not_total (Some fault) =
          w.not_total-is ∙ w.or-not_total.ensures in
          let some : c.match-part.not_total ≡ None → ⊥ =
          λ none. some≢none fault (option_or-second_none c.loop-part.not_total (Some fault) (sym both ∙ none)) in
          record {
            not_total = both
                ∙ ap (λ (o : Option AutomataFault). option_or o (Some fault)) known.not_total
                ∙ ap (option_or (first_of (not_total all) so_far)) (sym partial)
                ∙ sym (first_of-push (not_total all) so_far automaton)
                ∙ ap (first_of (not_total all)) (sym more);
            too_many = λ none. absurd (some none);
            automata = λ none few. absurd (some none);
            within = rw w.automata-is known.within;
          })
      | in_default w ↦ (
          let more : automata_in (map part_tree (take (i + 1) c.args.parts.now)) ≡ so_far =
          next ∙ ap (λ (ts : List AutomatonTree). so_far ++ ts)
          (no_automaton_line c.part-item.result.kind w.in_default.not-Automaton) ∙ append-nil so_far in
          record {
            not_total = w.not_total-is ∙ known.not_total ∙ ap (first_of (not_total all)) (sym more);
            too_many = λ none. w.too_many-is ∙ known.too_many (sym w.not_total-is ∙ none)
                ∙ ap (first_of (too_many all)) (sym more);
            automata = λ none few.
                rw w.automata-is (known.automata (sym w.not_total-is ∙ none) (sym w.too_many-is ∙ few)
                ∙ ap (map (automaton_of all)) (sym more));
            within = rw w.automata-is known.within;
          })
    ]

pub returns-in-Some-clause-tells : goal.returns-in-Some-clause-tells
unfolding automata_fault
returns-in-Some-clause-tells c =
    let parts = map part_tree c.args.parts.now in
    let whole : take c.loop-part.part-index c.args.parts.now ≡ c.args.parts.now =
    take_all c.loop-part.part-index c.args.parts.now c.loop-part-test.false in
    let not_total_is = rw whole at c.loop-part.invariant.not_total in
    let too_many_is = rw whole at c.loop-part.invariant.too_many in
    let told = both_told c.loop-part.not_total c.loop-part.too_many (first_of (not_total parts) (automata_in parts))
    (first_of (too_many parts) (automata_in parts)) not_total_is too_many_is in
    told-ends (automata_fault parts) (Ok (map (automaton_of parts) (automata_in parts))) c.in-Some.fault
    (sym told ∙ sym c.or.ensures ∙ c.in-Some.is)

pub returns-in-None-clause-tells : goal.returns-in-None-clause-tells
unfolding automata_fault
returns-in-None-clause-tells c =
    let parts = map part_tree c.args.parts.now in
    let whole : take c.loop-part.part-index c.args.parts.now ≡ c.args.parts.now =
    take_all c.loop-part.part-index c.args.parts.now c.loop-part-test.false in
    let not_total_is = rw whole at c.loop-part.invariant.not_total in
    let too_many_is = rw whole at c.loop-part.invariant.too_many in
    let automata_are = rw whole at c.loop-part.invariant.automata in
    let told = both_told c.loop-part.not_total c.loop-part.too_many (first_of (not_total parts) (automata_in parts))
    (first_of (too_many parts) (automata_in parts)) not_total_is too_many_is in
    let none : option_or c.loop-part.not_total c.loop-part.too_many ≡ None = sym c.or.ensures ∙ c.in-None.is in
    let made = map (automaton_of parts) (automata_in parts) in
    ap (λ (o : Option AutomataFault). unless o (Ok made)) (sym told ∙ none)
    ∙ ap Ok (sym (automata_are (option_or-first_none c.loop-part.not_total c.loop-part.too_many none)
    (option_or-second_none c.loop-part.not_total c.loop-part.too_many none)))
