use Rattle.std.proofs.Common.{◌≡◌, ◌+◌, true, [], ◌∷◌, ◌++◌, map, take, drop, refl, sym, ap, ◌∙◌}
use Rattle.std.specs.Prelude.{option_map}
use Rattle.std.specs.Str.{bytes_eq}
use Rattle.gta_spec.specs.Parts.{step_tree}
use Rattle.spec_tables.specs.Tables.{only_one}
use Rattle.spec_tables.proofs.Rows.{only_one-second, some_mapped}
use Rattle.spec_automata.specs.Lines.{targets_by, targets_for}
use Rattle.spec_automata.proofs.Lines.{targets_for-split}
use Rattle.spec_automata.proofs.moves.only_line.Goals as goal

pub returns-then-is_some : goal.returns-then-is_some
returns-then-is_some c =
    let letter = c.args.letter.now in
    let i = c.loop-line.line-index in
    let line = c.line-item.result in
    let front = targets_for letter (map (λ line. step_tree line.now) (take i c.args.lines.now)) in
    let back = targets_for letter (map (λ line. step_tree line.now) (drop (i + 1) c.args.lines.now)) in
    let same : true ≡ bytes_eq line.now.letter letter =
    rw (c.bytes.ensures, c.bytes-in-loop-line.ensures) at c.if-eq.ensures in
    let here : targets_by letter (step_tree line.now) ≡ line.now.targets.items ∷ [] = rw (sym same) refl in
    let split = targets_for-split (λ line. step_tree line.now) letter c.args.lines.now i line
    c.loop-line-test.true c.line-item.is in
    sym (ap only_one (split ∙ ap (λ ps. front ++ (ps ++ back)) here)
    ∙ only_one-second front back (option_map (λ targets. targets.now) c.loop-line.found) line.now.targets.items
    (some_mapped (λ targets. targets.now) c.loop-line.found (sym c.if-is_some.ensures)) c.loop-line.invariant)
