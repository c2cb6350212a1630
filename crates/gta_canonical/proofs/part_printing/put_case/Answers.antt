use Rattle.std.proofs.Common.{◌≡◌, ◌++◌, []}
use Rattle.gta_spec.specs.Parts.{case_tree}
use Rattle.gta_canonical.specs.Canonical.{line_text, form_front, if_front, case_front}
use Rattle.gta_canonical.proofs.Fronts.{form_splits, joined}
use Rattle.gta_canonical.proofs.part_printing.put_case.Goals as goal

pub returns : goal.returns
returns c =
    let parts : line_text (case_front (case_tree c.args.case.now) []) ≡ line_text (form_front c.deref.result.now [])
    ++ line_text (if_front c.deref-2.result.now []) =
    rw (c.deref.ensures.value, c.deref-2.ensures.value)
    (form_splits c.args.case.now.form.items (if_front c.args.case.now.cond.items [])) in
    joined c.put_if.result c.args.out.now.items c.put_form.new.out.items c.put_if.new.out.items _ _ _
    c.put_if.ensures c.in_ok-put_form.ensures parts
