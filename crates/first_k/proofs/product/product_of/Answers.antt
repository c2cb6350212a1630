-- One candidate on the one side keeps the other side in its order.
use Rattle.std.proofs.Common.{◌≡◌, IfOk, subst}
use Rattle.first_k.proofs.Rows.{first_of-row, first_of-column}
use Rattle.first_k.proofs.product.product_of.Goals as goal

pub returns-then-a-eq1 : goal.returns-then-a-eq1
returns-then-a-eq1 g c =
    let m = g.R.Ranked in
    let ranked = c.args.ranked.now in
    subst (λ v. IfOk c.row_of.result (λ firsts. firsts ≡ v))
    (first_of-row (m.order ranked) (g.met.R.Ranked.ranking ranked) (m.joint ranked) c.args.k
    c.args.a.now c.args.b.now c.index-a-0.result c.if-a-eq1.true c.index-a-0.is
    ((g.met.R.Ranked.keeps ranked).keeps_left c.index-a-0.result) c.requires.right_is_ranked)
    c.row_of.ensures

pub returns-then-b-eq1 : goal.returns-then-b-eq1
returns-then-b-eq1 g c =
    let m = g.R.Ranked in
    let ranked = c.args.ranked.now in
    subst (λ v. IfOk c.column_of.result (λ firsts. firsts ≡ v))
    (first_of-column (m.order ranked) (g.met.R.Ranked.ranking ranked) (m.joint ranked) c.args.k
    c.args.a.now c.args.b.now c.index-b-0.result c.if-b-eq1.true c.index-b-0.is
    (λ x z. (g.met.R.Ranked.keeps ranked).keeps_right x z c.index-b-0.result) c.requires.left_is_ranked)
    c.column_of.ensures
