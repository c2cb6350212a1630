use Rattle.std.proofs.Common.{◌≡◌, map, take, option_map}
use Rattle.gta_spec.specs.Parts.{times_tree}
use Rattle.spec_tables.specs.Tables.{option_list}
use Rattle.spec_tables.specs.Lines.{products_for}
use Rattle.spec_tables.proofs.products.only_line.Given as goal

abbrev pub invariant-loop-line : goal.invariant-loop-line
invariant-loop-line l =
    products_for l.element (map (λ line. times_tree line.now) (take l.line-index l.lines))
    ≡ option_list (option_map (λ row. row.now) l.found)
