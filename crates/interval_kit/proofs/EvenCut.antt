-- The cut by a leaf size is a cut.
use Rattle.std.proofs.Common.{◌≡◌, ℕ, ◌+◌, ◌-◌, ◌*◌, ◌<◌, ◌≤◌, ◌∙◌, min, List, [], ◌∷◌, ◌++◌, length, map, Some}
use Rattle.std.proofs.Common.{get_or, ap, arith, sym, subst}
use Rattle.std.specs.Int.{div_ceil}
use Rattle.std.specs.List.{range_with_len}
use Rattle.std.specs.Prelude.{slice_get}
use Rattle.std.proofs.lemmas.Grind.{div_ceil_times}
use Rattle.std.proofs.lemmas.List.FromFn.{get_or-map-range_with_len, length-map-range_with_len, map-range_with_len_more}
use Rattle.std.proofs.lemmas.Option.{slice_get-get_or, get_or_from_slice_get}
use Rattle.interval_kit.specs.Cut.{IsCut, even_cut, last_bound}

-- a cut is one of the rows that its last bound names
pub IsCut-last : (rows : ℕ) (bounds : List ℕ) → IsCut rows bounds → IsCut (last_bound bounds) bounds
IsCut-last rows bounds cut =
    let P : ℕ → Type 0 = λ n. IsCut n bounds in
    subst P (sym (get_or_from_slice_get bounds (length bounds - 1) rows 0 cut.ends)) cut

module _ (rows leaf : ℕ) (nonempty : 1 ≤ leaf) where
  -- each leaf begins below the end of the rows
  pub leaf_below : (k : ℕ) → k < div_ceil rows leaf → k * leaf < rows
  leaf_below k h =
      let above : div_ceil rows leaf * leaf < rows + leaf = (div_ceil_times rows leaf nonempty).1 in
      let whole : (k + 1) * leaf ≤ div_ceil rows leaf * leaf = grind arith in
      omega arith

  pub leaves_reach : rows ≤ div_ceil rows leaf * leaf
  leaves_reach = (div_ceil_times rows leaf nonempty).0

  even_at : (k : ℕ) → k ≤ div_ceil rows leaf → get_or (even_cut rows leaf) k 0 ≡ min (k * leaf) rows
  even_at k h = get_or-map-range_with_len (λ j. min (j * leaf) rows) 0 (div_ceil rows leaf + 1) k k 0 (omega arith)
      (omega arith)

  even_length : length (even_cut rows leaf) ≡ div_ceil rows leaf + 1
  even_length = length-map-range_with_len (λ j. min (j * leaf) rows) 0 (div_ceil rows leaf + 1)

  even_get : (k : ℕ) → k ≤ div_ceil rows leaf → slice_get (even_cut rows leaf) k ≡ Some (min (k * leaf) rows)
  even_get k h = slice_get-get_or (even_cut rows leaf) k 0 (omega (arith, even_length)) ∙ ap (λ n. Some n) (even_at k h)

  pub even_cut-IsCut : IsCut rows (even_cut rows leaf)
  even_cut-IsCut = record {
    starts = even_get 0 (omega arith) ∙ ap (λ n. Some n) (omega arith);
    ends =
        let last : length (even_cut rows leaf) - 1 ≡ div_ceil rows leaf = omega (arith, even_length) in
        ap (λ k. slice_get (even_cut rows leaf) k) last ∙ even_get (div_ceil rows leaf) (omega arith)
        ∙ ap (λ n. Some n) (omega (arith, leaves_reach));
    rises = λ k h.
        let below : k < div_ceil rows leaf = omega (arith, even_length) in
        let next : (k + 1) * leaf ≡ k * leaf + leaf = omega arith in
        omega (arith, even_at k (omega arith), even_at (k + 1) (omega arith), leaf_below k below);
  }

  -- the bounds of the first k leaves, and the bound after them
  pub one_more : (k : ℕ) → k < div_ceil rows leaf
      → map (λ j. min (j * leaf) rows) (range_with_len 0 k) ++ k * leaf ∷ [] ≡ map (λ j. min (j * leaf) rows)
      (range_with_len 0 (k + 1))
  one_more k h =
      let start : k * leaf ≡ min (k * leaf) rows = omega (arith, leaf_below k h) in
      ap (λ n. map (λ j. min (j * leaf) rows) (range_with_len 0 k) ++ n ∷ []) start
      ∙ sym (map-range_with_len_more (λ j. min (j * leaf) rows) 0 k k (omega arith))

  pub with_end : (k : ℕ) → k ≡ div_ceil rows leaf
      → map (λ j. min (j * leaf) rows) (range_with_len 0 k) ++ rows ∷ [] ≡ even_cut rows leaf
  with_end k h =
      let end : rows ≡ min (k * leaf) rows = omega (arith, leaves_reach, ap (λ n. n * leaf) h) in
      ap (λ n. map (λ j. min (j * leaf) rows) (range_with_len 0 k) ++ n ∷ []) end
      ∙ sym (map-range_with_len_more (λ j. min (j * leaf) rows) 0 k k (omega arith))
      ∙ ap (λ n. map (λ j. min (j * leaf) rows) (range_with_len 0 (n + 1))) h
