-- Labels of marks, and their text.
use Rattle.std.proofs.Common.{◌≡◌, ℕ, ◌<◌, List, [], ◌∷◌, ◌++◌, length, get_or, codes, sym, ap, subst, ◌∙◌, arith}
use Rattle.std.specs.List.{All}
use Rattle.std.proofs.lemmas.List.{get_or_default}
use Rattle.std.proofs.lemmas.List.Elements.{All-tail}
use Rattle.shape_gen.specs.declared.mark.Mark.{Mark}
use Rattle.report_text.specs.Texts.{label_text, AreLabelled}

-- the text of a label that there is
pub label_text-name : (labels : List (List ℕ)) (label : ℕ) (name : List ℕ)
    → label < length labels → name ≡ get_or labels label name → label_text labels label ≡ codes ":" ++ name
label_text-name [] label name within is = absurd (omega arith)
label_text-name (first ∷ names) label name within is =
    ap (λ l. codes ":" ++ l) (get_or_default (first ∷ names) label [] name within ∙ sym is)

-- the marks behind the first have their labels
pub labelled_more : (labels : List (List ℕ)) (marks : List Mark) (mark : Mark) (more : List Mark)
    → marks ≡ mark ∷ more → AreLabelled labels marks → AreLabelled labels more
labelled_more labels marks mark more is labelled = λ some.
    All-tail (λ (m : Mark). m.label < length labels) mark more
    (subst (All (λ (m : Mark). m.label < length labels)) is (labelled some))
