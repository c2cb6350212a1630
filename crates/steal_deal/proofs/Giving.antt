-- What a draw tells its hand: the number is the lowest of its block that is left, or none is left.
use Rattle.std.proofs.Common.{◌≡◌, ℕ, ◌+◌, ◌-◌, ◌<◌, ◌≤◌, slice_index, subst, sym, arith}
use Rattle.steal_deal.specs.declared.partition.Partition.{Partition}
use Rattle.steal_deal.specs.declared.view.View.{View}
use Rattle.steal_deal.specs.Partition.{block_begin, block_size, one_below}
use Rattle.steal_deal.specs.Views.{times_taken}
use Rattle.steal_deal.specs.Draws.{NotMet, IsOf, DrawnFrom, GivesLeaf, FindsNone}
use Rattle.steal_deal.specs.Steps.{DrawsAt}
use Rattle.steal_deal.proofs.Partitions.{ends_within}

-- a number of a block is handed out where its place is below the number of draws
taken_where : (v : View) (d : DrawnFrom v) (b x : ℕ) → b < v.partition.workers → IsOf v b x
    → times_taken d.blocks.views x ≡ one_below (slice_index d.blocks.words b) (x - block_begin v.partition b)
taken_where v d b x in_range of_block =
    let start : block_begin v.partition b ≤ x = of_block.0 in
    let stop : x < block_begin v.partition b + block_size v.partition b = of_block.1 in
    let place : block_begin v.partition b + (x - block_begin v.partition b) ≡ x = omega arith in
    subst (λ (y : ℕ). times_taken d.blocks.views y ≡ one_below (slice_index d.blocks.words b)
    (x - block_begin v.partition b)) place
    (d.rule.taken_once b (x - block_begin v.partition b) in_range (omega arith))

module _ (p : Partition) (v w : View) (b n : ℕ) (known : p ≡ v.partition) (not_met : NotMet v b)
    (in_range : b < p.workers) (drawn : DrawsAt v b n w) where
  in_view : b < v.partition.workers
  in_view = subst (λ (q : Partition). b < q.workers) known in_range

  pub gives_leaf : (y : ℕ) → y ≡ block_begin p b + n → n < block_size p b → GivesLeaf v b y w
  gives_leaf y at_place is_inside =
      let word = drawn.word in
      let inside : n < block_size v.partition b = subst (λ (q : Partition). n < block_size q b) known is_inside in
      let here : block_begin v.partition b + n ≡ y = sym
      (subst (λ (q : Partition). y ≡ block_begin q b + n) known at_place) in
      subst (λ (x : ℕ). GivesLeaf v b x w) here record {
        not_met = not_met;
        lowest = record {
          before = drawn.before;
          within = omega arith;
          is_next = omega arith;
          lower_gone = λ x of_block lower. let taken = taken_where v drawn.before b x in_view of_block in let start =
              of_block.0 in omega arith;
          others_left = λ x of_block upper. let taken = taken_where v drawn.before b x in_view of_block in omega arith;
        };
        below = let within = ends_within v.partition b in_view in omega arith;
        joins = drawn.gives inside;
      }

  pub gives_none : block_size p b ≤ n → FindsNone v b w
  gives_none is_past =
      let word = drawn.word in
      let past : block_size v.partition b ≤ n = subst (λ (q : Partition). block_size q b ≤ n) known is_past in
      record {
        not_met = not_met;
        used_up = record {
          before = drawn.before;
          none_left = omega arith;
          all_gone = λ x of_block. let taken = taken_where v drawn.before b x in_view of_block in let start =
              of_block.0 in let stop = of_block.1 in omega arith;
        };
        joins = drawn.finds_none past;
      }
