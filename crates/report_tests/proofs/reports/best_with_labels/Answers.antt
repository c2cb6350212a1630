-- Both entries have labels below 2.
use Rattle.std.proofs.Common.{◌≡◌, ◌<◌, ℤ, [], ◌∷◌, ◌++◌, sym, ap, subst, ◌∙◌}
use Rattle.std.specs.List.{All}
use Rattle.std.proofs.lemmas.List.Elements.{All-nil, All-push}
use Rattle.shape_gen.specs.declared.mark.Mark.{Mark}
use Rattle.best_k.specs.declared.entry.Entry.{Entry}
use Rattle.report_tests.proofs.reports.best_with_labels.Goals as goal

pub report-requires : goal.report-requires
report-requires g c =
    let labelled : Entry ℤ → Type 0 = λ e. 0 < 2 → All (λ (m : Mark). m.label < 2) e.witness in
    let first = c.in_ok-first.first in
    let second = c.in_ok-second.second in
    let is : c.of-3.result ≡ ([] ++ first ∷ []) ++ second ∷ [] =
    c.of-3.ensures ∙ c.in_ok-push-2.ensures.items
    ∙ ap (λ l. l ++ second ∷ [])
    (c.in_ok-push.ensures.items ∙ ap (λ l. l ++ first ∷ []) c.new-entries.ensures.items) in
    subst (All labelled) (sym is)
    (All-push labelled ([] ++ first ∷ []) second
    (All-push labelled [] first (All-nil labelled) (λ some. c.in_ok-first.ensures))
    (λ some. c.in_ok-second.ensures))
