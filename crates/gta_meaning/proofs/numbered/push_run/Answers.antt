use Rattle.std.proofs.Common.{◌+◌, ◌++◌, ◌∷◌, [], List, sym, ap, ◌∙◌, append_assoc, arith}
use Rattle.std.proofs.lemmas.List.FromFn.{map-range_with_len_more}
use Rattle.shape_gen.specs.declared.mark.Mark.{Mark}
use Rattle.shape_gen.specs.Candidates.{mark, run}
use Rattle.gta_meaning.proofs.numbered.push_run.Goals as goal

pub loop-place-preserved : goal.loop-place-preserved
loop-place-preserved c =
    let more = map-range_with_len_more (λ row. mark row 0) c.args.first c.loop-place.place
    (c.args.first + c.loop-place.place) (omega arith) in
    c.in_ok-push.ensures.items
    ∙ ap (λ (ms : List Mark). ms ++ mark (c.args.first + c.loop-place.place) 0 ∷ []) c.loop-place.invariant
    ∙ append_assoc c.args.marks.now.items (run c.args.first c.loop-place.place)
    (mark (c.args.first + c.loop-place.place) 0 ∷ [])
    ∙ ap (λ (ms : List Mark). c.args.marks.now.items ++ ms) (sym more)
