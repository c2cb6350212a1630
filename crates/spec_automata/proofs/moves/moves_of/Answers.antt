use Rattle.std.proofs.Common.{◌≡◌, ◌<◌, ◌++◌, List, ℕ, None, Some, map, length, get_or, sym, ap, ◌∙◌}
use Rattle.gta_spec.specs.Parts.{part_tree, automaton_tree, step_tree}
use Rattle.spec_automata.specs.Automata.{moves_of}
use Rattle.spec_automata.proofs.Total.{not_total_here, total_further, moves_further}
use Rattle.spec_automata.proofs.Lines.{moves_on-lines_of}
use Rattle.spec_automata.proofs.moves.moves_of.Goals as goal

pub returns-in-None : goal.returns-in-None
returns-in-None c =
    let parts = map part_tree c.args.parts.now in
    let automaton = automaton_tree c.args.automaton.now in
    let same = c.deref-letter-items.ensures.value in
    let below : c.loop-number.number < length automaton.letters = rw same at c.loop-number-test.true in
    let is : c.letter-item.result ≡ get_or automaton.letters c.loop-number.number c.letter-item.result =
    rw same at c.letter-item.is in
    let known = moves_on-lines_of (map (λ line. step_tree line.now) c.as_slice.result.now) parts automaton
    c.letter-item.result
    (ap (map (λ line. step_tree line.now)) c.as_slice.ensures.value ∙ c.in_ok-lines.ensures) in
    let none : moves_of parts automaton c.letter-item.result ≡ None =
    sym known ∙ rw c.in-None.is at (sym c.in_ok-states.ensures) in (
      below,
      not_total_here parts automaton c.loop-number.number c.letter-item.result below is
          c.loop-number.invariant.total none,
    )

pub loop-number-preserved : goal.loop-number-preserved
loop-number-preserved c =
    let parts = map part_tree c.args.parts.now in
    let automaton = automaton_tree c.args.automaton.now in
    let same = c.deref-letter-items.ensures.value in
    let below : c.loop-number.number < length automaton.letters = rw same at c.loop-number-test.true in
    let is : c.letter-item.result ≡ get_or automaton.letters c.loop-number.number c.letter-item.result =
    rw same at c.letter-item.is in
    let known = moves_on-lines_of (map (λ line. step_tree line.now) c.as_slice.result.now) parts automaton
    c.letter-item.result
    (ap (map (λ line. step_tree line.now)) c.as_slice.ensures.value ∙ c.in_ok-lines.ensures) in
    let there : moves_of parts automaton c.letter-item.result ≡ Some c.in-Some.states.items =
    sym known ∙ rw c.in-Some.is at (sym c.in_ok-states.ensures) in
    record {
      total = total_further parts automaton c.loop-number.number c.letter-item.result below is
          c.loop-number.invariant.total c.in-Some.states.items there;
      so_far = c.in_ok-extend_from_slice-in-Some.ensures.items
          ∙ ap (λ (ys : List ℕ). c.loop-number.moves.items ++ ys) c.deref.ensures.value
          ∙ moves_further parts automaton c.loop-number.number c.letter-item.result below is
          c.loop-number.invariant.total c.in-Some.states.items c.loop-number.moves.items there
          c.loop-number.invariant.so_far;
    }
