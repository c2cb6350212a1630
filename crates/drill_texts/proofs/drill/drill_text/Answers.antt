use Rattle.std.proofs.Common.{rules, ◌≡◌}
use Rattle.drill_texts.specs.Drills.{spec_text}
use Rattle.drill_texts.proofs.Rows.{text_short}
use Rattle.drill_texts.proofs.drill.drill_text.Goals as goal

pub returns-clause-short : goal.returns-clause-short
returns-clause-short c =
    let spec : c.in_ok-text.text.items ≡ spec_text c.args.drill = search rules in
    text_short c.args.drill _ _ _ _ spec (search rules) c.in_ok-push_table.ensures
