use Rattle.std.proofs.Common.{◌++◌, List, ap, ◌∙◌, arith}
use Rattle.shape_gen.specs.declared.mark.Mark.{Mark}
use Rattle.gta_meaning.proofs.ByNumber.{segment-first-at, segment-behind-at, segments-length-at}
use Rattle.gta_meaning.proofs.numbered.push_segment.Goals as goal

pub returns-then-number-lengths : goal.returns-then-number-lengths
returns-then-number-lengths c =
    let below = rw c.from-lengths.ensures at c.if-number-lengths.true in
    let at = segment-first-at c.args.rows c.loop-first.first c.loop-first-test.true c.loop-first.number below in
    rw (c.loop-first.invariant.so_far ∙ ap (λ (ms : List Mark). c.loop-first.marks.items ++ ms) at) c.push_run.ensures

pub loop-first-preserved : goal.loop-first-preserved
loop-first-preserved c =
    let past = rw c.from-lengths.ensures at c.if-number-lengths.false in
    let whole = segments-length-at c.args.rows c.loop-first.first c.loop-first-test.true in
    let at = segment-behind-at c.args.rows c.loop-first.first c.loop-first-test.true c.loop-first.number past in
    rw c.from-lengths.ensures record {
      in_range = omega (arith, whole, past, c.loop-first.invariant.in_range);
      so_far = c.loop-first.invariant.so_far ∙ ap (λ (ms : List Mark). c.loop-first.marks.items ++ ms) at;
    }
