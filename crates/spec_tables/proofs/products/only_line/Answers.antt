use Rattle.std.proofs.Common.{◌≡◌, ◌+◌, true, [], ◌∷◌, ◌++◌, map, take, drop, refl, sym, ap, ◌∙◌}
use Rattle.std.specs.Prelude.{option_map}
use Rattle.std.specs.Str.{bytes_eq}
use Rattle.gta_spec.specs.Parts.{times_tree}
use Rattle.spec_tables.specs.Tables.{only_one}
use Rattle.spec_tables.specs.Lines.{products_by, products_for}
use Rattle.spec_tables.proofs.Rows.{only_one-second, some_mapped}
use Rattle.spec_tables.proofs.Lines.{products_for-split}
use Rattle.spec_tables.proofs.products.only_line.Goals as goal

pub returns-then-is_some : goal.returns-then-is_some
returns-then-is_some c =
    let element = c.args.element.now in
    let i = c.loop-line.line-index in
    let line = c.line-item.result in
    let front = products_for element (map (λ line. times_tree line.now) (take i c.args.lines.now)) in
    let back = products_for element (map (λ line. times_tree line.now) (drop (i + 1) c.args.lines.now)) in
    let same : true ≡ bytes_eq line.now.element element =
    rw (c.bytes.ensures, c.bytes-in-loop-line.ensures) at c.if-eq.ensures in
    let here : products_by element (times_tree line.now) ≡ line.now.products.items ∷ [] = rw (sym same) refl in
    let split = products_for-split (λ line. times_tree line.now) element c.args.lines.now i line
    c.loop-line-test.true c.line-item.is in
    sym (ap only_one (split ∙ ap (λ ps. front ++ (ps ++ back)) here)
    ∙ only_one-second front back (option_map (λ row. row.now) c.loop-line.found) line.now.products.items
    (some_mapped (λ row. row.now) c.loop-line.found (sym c.if-is_some.ensures)) c.loop-line.invariant)
