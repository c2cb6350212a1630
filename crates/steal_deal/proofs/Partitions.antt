-- Blocks lie in order, none over another, and end where the count does.
use Rattle.std.proofs.Common.{◌≡◌, ◌≢◌, ℕ, zero, suc, ◌+◌, ◌*◌, ◌/◌, ◌%◌, ◌<◌, ◌≤◌, min, subst, suc-mul, div-add-mod'}
use Rattle.std.proofs.Common.{mod-lt, lt_of_not-le, arith}
use native.Mathlib.Decide.{dec_le}
use mathlib.Core.Logic.{dite}
use Rattle.steal_deal.specs.declared.partition.Partition.{Partition}
use Rattle.steal_deal.specs.Partition.{block_begin, block_size}

module _ (p : Partition) where
  pub block_begin-closed : (b : ℕ) → block_begin p b ≡ b * (p.count / p.workers) + min b (p.count % p.workers)
  block_begin-closed zero = omega arith
  block_begin-closed (suc b) =
      let earlier = block_begin-closed b in
      let size : ℕ = p.count / p.workers in
      let more : ℕ = p.count % p.workers in
      let product : ℕ = b * size in
      let one_more : suc b * size ≡ product + size = suc-mul b size in
      omega arith

  pub block_begin-last : 0 < p.workers → block_begin p p.workers ≡ p.count
  block_begin-last some_workers =
      let closed = block_begin-closed p.workers in
      let rest : p.count % p.workers < p.workers = mod-lt p.count some_workers in
      let whole = div-add-mod' p.count p.workers in
      omega (arith, closed, rest, whole)

  -- a block ends where a later one begins, or before
  pub ends_before : (b c : ℕ) → b < c → block_begin p b + block_size p b ≤ block_begin p c
  ends_before b zero below = absurd (omega arith)
  ends_before b (suc c) below = dite (dec_le c b)
      (λ last. let same : b ≡ c = omega arith in
      subst (λ (n : ℕ). block_begin p b + block_size p b ≤ block_begin p n + block_size p n) same (omega arith))
      (λ earlier. let before = ends_before b c (lt_of_not-le earlier) in omega arith)

  pub ends_within : (b : ℕ) → b < p.workers → block_begin p b + block_size p b ≤ p.count
  ends_within b below =
      let before = ends_before b p.workers below in
      let whole = block_begin-last (omega arith) in
      omega arith

  pub place_below : (b k : ℕ) → b < p.workers → k < block_size p b → block_begin p b + k < p.count
  place_below b k below of_block = let within = ends_within b below in omega arith

  -- numbers at places of two blocks are different
  pub places_differ : (b c k j : ℕ) → b ≢ c → k < block_size p b → j < block_size p c
      → block_begin p b + k ≢ block_begin p c + j
  places_differ b c k j differ in_b in_c same = dite (dec_le b c)
      (λ le. let before = ends_before b c (omega arith) in omega arith)
      (λ not_le. let before = ends_before c b (lt_of_not-le not_le) in omega arith)
