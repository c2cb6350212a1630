-- One more product of the row, or the first that is left out, behind which the row ends.
use Rattle.std.proofs.Common.{◌≡◌, true, ◌++◌, ◌-◌, ◌<◌, length, map, take, sym, ap, subst, ◌∙◌, arith}
use Rattle.std.specs.Prelude.{slice_index_or}
use Rattle.std.proofs.lemmas.List.{append-nil, length-map}
use Rattle.witness_order.specs.Ranked.{first_of, IsRankedWithin}
use Rattle.witness_order.proofs.Firsts.{first_of-same, first_of-IsRankedWithin}
use Rattle.first_k.specs.Picks.{product_at}
use Rattle.first_k.proofs.Picks.{after_mapped}
use Rattle.first_k.proofs.Rows.{row_more, row_ends}
use Rattle.first_k.proofs.product.add_row.Goals as goal

pub row-init : goal.row-init
row-init g c =
    let m = g.R.Ranked in
    let ranked = c.args.ranked.now in
    let order = m.order ranked in
    let sum = map (product_at (m.joint ranked) (m.unit ranked) c.args.a.now c.args.b.now) c.args.picks.now.items in
    record {
      within = c.requires.picks_are_within;
      so_far =
          sym (ap (first_of order c.args.k) (append-nil sum)
          ∙ first_of-same order (g.met.R.Ranked.ranking ranked) c.args.k sum c.requires.picks_in_order);
    }

pub add_pick-requires-clause-picks_in_order : goal.add_pick-requires-clause-picks_in_order
add_pick-requires-clause-picks_in_order g c =
    let m = g.R.Ranked in
    let ranked = c.args.ranked.now in
    let order = m.order ranked in
    let at = product_at (m.joint ranked) (m.unit ranked) c.args.a.now c.args.b.now in
    let left = slice_index_or c.args.a.now c.args.left (m.unit ranked) in
    subst (IsRankedWithin order c.args.k) (sym c.row.invariant.so_far)
    (first_of-IsRankedWithin order (g.met.R.Ranked.ranking ranked) c.args.k
    (map at c.args.picks.now.items ++ map (m.joint ranked left) (take c.row.right c.args.b.now)))

pub row-preserved : goal.row-preserved
row-preserved g c =
    let m = g.R.Ranked in
    let ranked = c.args.ranked.now in
    let at = product_at (m.joint ranked) (m.unit ranked) c.args.a.now c.args.b.now in
    let left = slice_index_or c.args.a.now c.args.left (m.unit ranked) in
    record {
      within = c.in_ok-add_pick.ensures.picks_are_within;
      so_far =
          row_more (m.order ranked) (g.met.R.Ranked.ranking ranked) (m.joint ranked left)
          ((g.met.R.Ranked.keeps ranked).keeps_left left) c.args.k (map at c.args.picks.now.items)
          (map at c.row.picks.items) c.args.b.now c.row.right (m.unit ranked) c.row-test.true
          c.row.invariant.so_far (map at c.add_pick.new.picks.items) c.in_ok-add_pick.ensures.value;
    }

pub returns-then-not-branch-clause-value : goal.returns-then-not-branch-clause-value
returns-then-not-branch-clause-value g c =
    let m = g.R.Ranked in
    let ranked = c.args.ranked.now in
    let order = m.order ranked in
    let at = product_at (m.joint ranked) (m.unit ranked) c.args.a.now c.args.b.now in
    let left = slice_index_or c.args.a.now c.args.left (m.unit ranked) in
    let picks = c.add_pick.new.picks.items in
    let even : length (map at picks) ≡ length picks = length-map picks at in
    let past = c.in_ok-add_pick.ensures.left_out c.if-not-branch.true in
    let last : c.args.k - 1 < length picks = (past (c.args.k - 1) (omega arith)).0 in
    row_ends order (g.met.R.Ranked.ranking ranked) (m.joint ranked left)
    ((g.met.R.Ranked.keeps ranked).keeps_left left) c.args.k (map at c.args.picks.now.items)
    (map at c.row.picks.items) c.args.b.now c.row.right (m.unit ranked) c.row-test.true c.row.invariant.so_far
    (map at picks) c.in_ok-add_pick.ensures.value c.requires.in_order (at (record { left = 0; right = 0 }))
    (omega (arith, even, last))
    (λ j below.
    after_mapped order (g.met.R.Ranked.ranking ranked) at (record { left = 0; right = 0 }) picks
    (record { left = c.args.left; right = c.row.right }) true j (past j below).1)
