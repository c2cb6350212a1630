-- The walk over a cut costs no more than a leaf and a join for each leaf of it.
use Rattle.std.proofs.Common.{◌≡◌, ℕ, ◌+◌, ◌-◌, ◌≤◌, ◌==◌, nat_lt, true, false, cond, List, [], ◌∷◌, drop, get_or}
use Rattle.std.proofs.Common.{sym, subst, arith, sum_by}
use Rattle.std.proofs.lemmas.List.Sums.{sum_by-cons}
use Rattle.std.proofs.lemmas.Bool.Decides.{nat_tests}
use Rattle.interval_kit.specs.declared.piece.Piece.{Piece}
use Rattle.worker_pool.specs.Walk.{Part, part, part_at, part_cost, longest_end, walk_from, walk, walk_cost}
use Rattle.worker_pool.specs.Walk.{sizes_from, sizes_cost, cut_cost}

module _ {W : Type 0} (leaf : ℕ → ℕ) (join : ℕ) (bounds : List ℕ) (pieces : List (Piece W)) where
  abbrev part_with_join : Part → ℕ
  part_with_join q = join + part_cost leaf q

  abbrev leaf_with_join : ℕ → ℕ
  leaf_with_join n = leaf n + join

  part_within : (lo next : ℕ) → part_cost leaf (part_at bounds pieces lo next) ≤ leaf (next - lo)
  part_within lo next =
      elim (longest_end bounds pieces lo == 0) as
      (λ t. part_cost leaf (cond t (part lo next true) (part lo (longest_end bounds pieces lo) false)) ≤ leaf
      (next - lo)) [
        | true ↦ omega arith
        | false ↦ omega arith
      ]

  parts_within : (at lo : ℕ) (later : List ℕ)
      → sum_by part_with_join (walk_from bounds pieces at lo later) ≤ sum_by leaf_with_join (sizes_from lo later)
  parts_within at lo [] = omega arith
  parts_within at lo (next ∷ later) =
      let p = part_at bounds pieces lo next in
      let skip = parts_within at next later in
      let take = parts_within p.hi next later in
      elim (nat_lt lo at) as
      (λ t. sum_by part_with_join
      (cond t (walk_from bounds pieces at next later) (p ∷ walk_from bounds pieces p.hi next later))
      ≤ sum_by leaf_with_join ((next - lo) ∷ sizes_from next later)) [
        | true ↦ omega (arith, sum_by-cons leaf_with_join (next - lo) (sizes_from next later), skip)
        | false ↦ omega (
          arith,
          sum_by-cons leaf_with_join (next - lo) (sizes_from next later),
          sum_by-cons part_with_join p (walk_from bounds pieces p.hi next later),
          part_within lo next,
          take,
        )
      ]

  within_from : (lo : ℕ) (later : List ℕ)
      → walk_cost leaf join (walk_from bounds pieces 0 lo later) ≤ sizes_cost leaf join (sizes_from lo later)
  within_from lo [] = omega arith
  within_from lo (next ∷ later) =
      let p = part_at bounds pieces lo next in
      let first : nat_lt lo 0 ≡ false = grind (arith, nat_tests) in
      let take = parts_within p.hi next later in
      subst (λ t. walk_cost leaf join
      (cond t (walk_from bounds pieces 0 next later) (p ∷ walk_from bounds pieces p.hi next later))
      ≤ sum_by leaf_with_join ((next - lo) ∷ sizes_from next later)) (sym first)
      (omega (arith, sum_by-cons leaf_with_join (next - lo) (sizes_from next later), part_within lo next, take))

  pub walk_within : walk_cost leaf join (walk bounds pieces) ≤ cut_cost leaf join bounds
  walk_within = within_from (get_or bounds 0 0) (drop 1 bounds)
