use Rattle.std.proofs.Common.{◌≡◌, ◌+◌, ◌∷◌, [], drop, arith, sym, ◌∙◌}
use Rattle.std.proofs.lemmas.Grind.{common_steps}
use Rattle.gta_text.specs.Text.{line_view}
use Rattle.gta_spec.proofs.Items.{drop_at}
use Rattle.gta_syntax.proofs.PartLoops.{past_here, past_later, past_nowhere}
use Rattle.gta_syntax.proofs.reading.first_past.Goals as goal

pub returns-then-has_past : goal.returns-then-has_past
returns-then-has_past c =
    let cut : drop c.loop-line.line-index c.args.lines.now ≡ c.line-item.result ∷ drop (c.loop-line.line-index + 1)
    c.args.lines.now =
    drop_at _ _ c.line-item.result c.loop-line-test.true c.line-item.is in
    let so_far = rw cut at c.loop-line.invariant in
    sym (past_here c.args.source.version c.args.source.bytes.now (line_view c.line-item.result) _
    (rw (← c.deref.ensures.value) (sym c.if-has_past.ensures))) ∙ so_far

pub loop-line-preserved : goal.loop-line-preserved
loop-line-preserved c =
    let cut : drop c.loop-line.line-index c.args.lines.now ≡ c.line-item.result ∷ drop (c.loop-line.line-index + 1)
    c.args.lines.now =
    drop_at _ _ c.line-item.result c.loop-line-test.true c.line-item.is in
    let so_far = rw cut at c.loop-line.invariant in
    sym (past_later c.args.source.version c.args.source.bytes.now (line_view c.line-item.result) _
    (rw (← c.deref.ensures.value) (sym c.if-has_past.ensures))) ∙ so_far

pub returns : goal.returns
returns c =
    let empty : drop c.loop-line.line-index c.args.lines.now ≡ [] = grind (arith, common_steps) in
    sym (past_nowhere c.args.source.version c.args.source.bytes.now) ∙ (rw empty at c.loop-line.invariant)
