use Rattle.std.proofs.Common.{◌≡◌, ◌∙◌, ap, sym, ◌++◌, ◌∷◌, [], map, arith}
use Rattle.std.specs.List.{range_with_len}
use Rattle.std.proofs.lemmas.List.FromFn.{map-range_with_len_more}
use Rattle.fuse_core.specs.declared.wiring.Growth.TheVariants.{Before}
use Rattle.fuse_core.proofs.shapes.labelled.Goals as goal

pub loop-label-preserved : goal.loop-label-preserved
loop-label-preserved c =
    c.in_ok-push.ensures.items
    ∙ ap (λ l. l ++ Before c.loop-label.label 0 ∷ []) c.loop-label.invariant
    ∙ sym (map-range_with_len_more (λ label. Before label 0) 0 c.loop-label.label c.loop-label.label (omega arith))

pub returns : goal.returns
returns c =
    let all : c.loop-label.label ≡ c.args.labels = omega arith in
    c.loop-label.invariant ∙ ap (λ n. map (λ label. Before label 0) (range_with_len 0 n)) all
