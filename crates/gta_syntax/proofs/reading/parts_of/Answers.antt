use Rattle.std.proofs.Common.{◌≡◌, ◌+◌, ◌∷◌, ◌++◌, [], drop, map, arith}
use Rattle.std.proofs.lemmas.Grind.{common_steps}
use Rattle.std.proofs.lemmas.Result.{err_from_is_err_and}
use Rattle.std.proofs.lemmas.List.{map_push}
use Rattle.gta_spec.specs.Parts.{part_tree}
use Rattle.gta_spec.proofs.Items.{drop_at}
use Rattle.gta_syntax.proofs.PartLoops.{parts_at_end, parts_at_line, parts_at_fault}
use Rattle.gta_syntax.proofs.reading.parts_of.Goals as goal

pub returns-in_err-part : goal.returns-in_err-part
returns-in_err-part c =
    let cut : drop c.loop-line.line-index c.args.lines.now ≡ c.line-item.result ∷ drop (c.loop-line.line-index + 1)
    c.args.lines.now =
    drop_at _ _ c.line-item.result c.loop-line-test.true c.line-item.is in
    let so_far = rw cut at c.loop-line.invariant in
    let p = err_from_is_err_and c.from_residual.result c.from_residual.ensures.1 in
    rw (p.1, p.2) (parts_at_fault so_far c.in_err-part.field-0.0 c.in_err-part.ensures)

pub loop-line-preserved : goal.loop-line-preserved
loop-line-preserved c =
    let cut : drop c.loop-line.line-index c.args.lines.now ≡ c.line-item.result ∷ drop (c.loop-line.line-index + 1)
    c.args.lines.now =
    drop_at _ _ c.line-item.result c.loop-line-test.true c.line-item.is in
    let so_far = rw cut at c.loop-line.invariant in
    let e : map part_tree c.push.new.self.items ≡ map part_tree c.loop-line.parts.items ++ part_tree
    c.in_ok-part.part ∷ [] =
    rw c.in_ok-push.ensures.items (map_push _ c.loop-line.parts.items c.in_ok-part.part) in
    rw e (parts_at_line so_far (part_tree c.in_ok-part.part) c.in_ok-part.ensures)

pub returns : goal.returns
returns c =
    let empty : drop c.loop-line.line-index c.args.lines.now ≡ [] = grind (arith, common_steps) in
    parts_at_end (rw empty at c.loop-line.invariant)
