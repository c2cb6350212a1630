use Rattle.std.proofs.Common.{◌≡◌, ◌++◌, ◌∷◌, [], append_assoc}
use Rattle.std.specs.Prelude.{codes}
use Rattle.gta_spec.specs.Symbols.{Word}
use Rattle.gta_spec.specs.Parts.{kind_tree}
use Rattle.gta_canonical.specs.Canonical.{spaced, line_text, names_front, kind_front}
use Rattle.gta_canonical.proofs.Fronts.{table_splits, joined}
use Rattle.gta_canonical.proofs.part_printing.put_kind.Goals as goal

pub returns-in_ok-put_united-in-Table : goal.returns-in_ok-put_united-in-Table
returns-in_ok-put_united-in-Table c =
    let united = line_text
    (spaced (Word c.in-Table.part.name) ∷ spaced (Word (codes "unit")) ∷ spaced (Word c.in-Table.part.unit) ∷
    []) in
    let parts : line_text (kind_front (kind_tree c.args.kind.now) []) ≡ (codes "table" ++ united) ++ line_text
    (spaced (Word (codes "elements")) ∷ names_front c.deref-in-Table.result.now []) =
    rw (c.in-Table.is, c.deref-in-Table.ensures.value)
    (table_splits c.in-Table.part.name c.in-Table.part.unit c.in-Table.part.elements.items) in
    let first : c.put_united.new.out.items ≡ c.args.out.now.items ++ (codes "table" ++ united) =
    rw (c.in_ok-put_united-in-Table.ensures, c.in_ok-extend_from_slice-in-Table.ensures.items)
    (append_assoc c.args.out.now.items (codes "table") united) in
    joined c.put_listed.result c.args.out.now.items c.put_united.new.out.items c.put_listed.new.out.items _ _ _
    c.put_listed.ensures first parts
