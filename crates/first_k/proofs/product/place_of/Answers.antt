-- What the pick comes after lies on one side of the middle.
use Rattle.std.proofs.Common.{◌+◌, ◌-◌, ◌/◌, ℕ, sym, ◌∙◌, arith}
use Rattle.first_k.specs.Picks.{product_at}
use Rattle.first_k.proofs.Picks.{after_up_to, not_after_from}
use Rattle.first_k.proofs.product.place_of.Goals as goal

pub halving-preserved-then-pick_comes_after : goal.halving-preserved-then-pick_comes_after
halving-preserved-then-pick_comes_after g c =
    let m = g.R.Ranked in
    let ranked = c.args.ranked.now in
    let at = product_at (m.joint ranked) (m.unit ranked) c.args.a.now c.args.b.now in
    let mid : ℕ = c.halving.lo + (c.halving.hi - c.halving.lo) / 2 in
    record {
      in_order = omega arith;
      within = omega arith;
      below =
          after_up_to (m.order ranked) (g.met.R.Ranked.ranking ranked) at (record { left = 0; right = 0 })
          c.args.picks.now c.args.pick c.requires.picks_in_order mid (omega arith)
          (sym c.pick_comes_after.ensures ∙ c.if-pick_comes_after.true);
      above = c.halving.invariant.above;
    }

pub halving-preserved : goal.halving-preserved
halving-preserved g c =
    let m = g.R.Ranked in
    let ranked = c.args.ranked.now in
    let at = product_at (m.joint ranked) (m.unit ranked) c.args.a.now c.args.b.now in
    let mid : ℕ = c.halving.lo + (c.halving.hi - c.halving.lo) / 2 in
    record {
      in_order = omega arith;
      within = omega arith;
      below = c.halving.invariant.below;
      above =
          not_after_from (m.order ranked) (g.met.R.Ranked.ranking ranked) at (record { left = 0; right = 0 })
          c.args.picks.now c.args.pick c.requires.picks_in_order mid
          (sym c.pick_comes_after.ensures ∙ c.if-pick_comes_after.false);
    }
