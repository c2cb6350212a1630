use Rattle.std.proofs.Common.{◌≡◌, ℕ, ◌-◌, ◌<◌, ◌≤◌, true, false, length}
use Rattle.std.specs.Ordering.{is_gt}
use Rattle.first_k.specs.Picks.{product_at, pick_at}
use Rattle.first_k.proofs.product.place_of.Given as goal

-- the pick comes after those below lo, and after none from hi on
abbrev pub invariant-halving : goal.invariant-halving
invariant-halving g l =
    let m = g.R.Ranked in
    let at = product_at (m.joint l.ranked) (m.unit l.ranked) l.a l.b in
    let after = λ (i : ℕ). is_gt (m.order l.ranked (at l.pick) (at (pick_at l.picks i))) in
    record {
      in_order : l.lo ≤ l.hi;
      within : l.hi ≤ length l.picks;
      below : (i : ℕ) → i < l.lo → after i ≡ true;
      above : (i : ℕ) → l.hi ≤ i → i < length l.picks → after i ≡ false;
    }

abbrev pub decreases-halving : goal.decreases-halving
decreases-halving g l = l.hi - l.lo
