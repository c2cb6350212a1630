use Rattle.std.proofs.Common.{ℕ, List, ap, ◌∙◌}
use Rattle.auto_monoid.specs.Functions.{composition, number_of}
use Rattle.auto_monoid.proofs.Found.{map-items-more}
use Rattle.auto_monoid.proofs.table.add_products.Goals as goal

pub loop-right-preserved : goal.loop-right-preserved
loop-right-preserved c =
    let fs = c.args.functions.now in
    map-items-more (λ (g : List ℕ). number_of fs (composition c.args.left.now g)) fs
    c.loop-right.right-index c.right-item.result
    c.args.cells.now.items c.loop-right.cells.items c.push.new.self.items c.place_of.result
    c.loop-right-test.true c.right-item.is c.loop-right.invariant c.in_ok-push.ensures.items
    (c.place_of.ensures.place ∙ ap (number_of fs) c.in_ok-product.ensures)
