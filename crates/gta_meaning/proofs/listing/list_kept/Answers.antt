use Rattle.std.proofs.Common.{◌≡◌, ◌<◌, ◌++◌, ◌∷◌, [], List, length, get_or, take, sym, ap, ◌∙◌, subst, arith}
use Rattle.std.specs.List.{filter}
use Rattle.std.proofs.lemmas.List.{map-append}
use Rattle.shape_gen.specs.declared.mark.Mark.{Mark}
use Rattle.gta_checked.specs.PlainRows.{plain_rows}
use Rattle.gta_meaning.specs.InRange.{IsInRangeOf}
use Rattle.gta_meaning.specs.Kept.{generated}
use Rattle.gta_meaning.specs.Tests.{passes}
use Rattle.gta_meaning.specs.declared.candidate.Candidate.{Candidate}
use Rattle.gta_meaning.proofs.Generated.{generated-IsInRangeOf}
use Rattle.gta_meaning.proofs.ByNumber.{filter-kept, filter-dropped}
use Rattle.gta_meaning.proofs.listing.list_kept.Goals as goal
use Rattle.gta_meaning.proofs.listing.list_kept.Goals.{then-passes_by+in_ok-push, else-passes_by}

pub passes_by-requires-clause-in_range : goal.passes_by-requires-clause-in_range
passes_by-requires-clause-in_range c =
    let checked = c.args.checked.now in
    let rows = plain_rows c.args.rows.now in
    let whole = rw (c.shape-shape.ensures.shape, c.label_count-labels.ensures.labels) at c.sizes-extent.ensures.candidates in
    let below : c.loop-number.number < length (generated checked rows) = omega
    (arith, whole, c.loop-number-test.true) in
    let same : c.in_ok-candidate.candidate.marks.items ≡ get_or (generated checked rows) c.loop-number.number [] =
    rw (c.shape-shape.ensures.shape, c.label_count-labels.ensures.labels) at c.in_ok-candidate.ensures in
    subst (IsInRangeOf checked rows) (sym same) (generated-IsInRangeOf checked rows c.loop-number.number [] below)

pub loop-number-preserved : goal.loop-number-preserved
loop-number-preserved c =
    let checked = c.args.checked.now in
    let rows = plain_rows c.args.rows.now in
    let all = generated checked rows in
    let i = c.loop-number.number in
    let whole = rw (c.shape-shape.ensures.shape, c.label_count-labels.ensures.labels) at c.sizes-extent.ensures.candidates in
    let below : i < length all = omega (arith, whole, c.loop-number-test.true) in
    let same : c.in_ok-candidate.candidate.marks.items ≡ get_or all i [] =
    rw (c.shape-shape.ensures.shape, c.label_count-labels.ensures.labels) at c.in_ok-candidate.ensures in
    let answer = c.passes_by.ensures ∙ ap (passes checked rows) same in
    elim c.if-passes_by.branch [
      | then-passes_by+in_ok-push w ↦
          rw (w.list-is, w.in_ok-push.ensures.items)
          (map-append (λ (x : Candidate). x.marks.items) c.loop-number.list.items (c.in_ok-candidate.candidate ∷ [])
          ∙ ap (λ (ms : List (List Mark)). ms ++ c.in_ok-candidate.candidate.marks.items ∷ []) c.loop-number.invariant
          ∙ ap (λ (m : List Mark). filter (passes checked rows) (take i all) ++ m ∷ []) same
          ∙ sym (filter-kept (passes checked rows) all i [] below (sym answer ∙ w.if-passes_by.true)))
      | else-passes_by w ↦
          rw w.list-is
          (c.loop-number.invariant
          ∙ sym (filter-dropped (passes checked rows) all i [] below (sym answer ∙ w.if-passes_by.false)))
    ]
