-- A sum with an empty list is the other one.
use Rattle.std.proofs.Common.{◌≡◌, length, ap, sym, ◌∙◌}
use Rattle.std.proofs.lemmas.Bool.{eqb-true}
use Rattle.first_k.proofs.Merges.{first_of-none_left, first_of-none_right}
use Rattle.first_k.proofs.kit.FirstKSemiring.sum.Goals as goal

pub returns-then-is_empty : goal.returns-then-is_empty
returns-then-is_empty g c =
    let kit = c.args.self.now in
    let none : length c.args.a ≡ 0 =
    ap length (sym c.items.ensures)
    ∙ eqb-true (length c.items.result.now) 0 (sym c.is_empty.ensures ∙ c.if-is_empty.true) in
    first_of-none_left (g.R.Ranked.order kit.ranked) (g.met.R.Ranked.ranking kit.ranked) kit.k c.args.a c.args.b
    none c.requires.right_is_good.sound

pub returns-then-is_empty-2 : goal.returns-then-is_empty-2
returns-then-is_empty-2 g c =
    let kit = c.args.self.now in
    let none : length c.args.b ≡ 0 =
    ap length (sym c.items-2.ensures)
    ∙ eqb-true (length c.items-2.result.now) 0 (sym c.is_empty-2.ensures ∙ c.if-is_empty-2.true) in
    first_of-none_right (g.R.Ranked.order kit.ranked) (g.met.R.Ranked.ranking kit.ranked) kit.k c.args.a c.args.b
    none c.requires.left_is_good.sound
