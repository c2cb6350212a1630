-- Walks are cut anywhere.
use Rattle.std.proofs.Common.{◌≡◌, ℕ, zero, suc, ◌+◌, ◌<◌, Bool, true, false, nat_eq, cond, List, [], ◌∷◌, ◌++◌, map}
use Rattle.std.proofs.Common.{All, refl, sym, ap, ◌∙◌, subst, append_assoc, arith}
use Rattle.std.specs.List.{flat_map, range_with_len}
use Rattle.std.specs.List.Sorted.{IsPermutation}
use Rattle.std.proofs.lemmas.List.{append-nil, map-append}
use Rattle.std.proofs.lemmas.List.Sorted.{IsPermutation-refl, IsPermutation-map, IsPermutation-trans}
use Rattle.std.proofs.lemmas.Grind.{flat_map-append}
use Rattle.shape_gen.proofs.Lists.{flat_map-same}
use Rattle.shape_gen.specs.declared.mark.Mark.{Mark}
use Rattle.walk_gen.specs.declared.walker.Move.{Move}
use Rattle.walk_gen.specs.Walks.{IsBetween, at_end, between, is_end, moved, taken, walks}
use Rattle.walk_gen.specs.Splits.{EndsAtEnds, SplitsAnywhere, joints}
use Rattle.walk_gen.proofs.Orders.{each_moved, none_of_each, of_one, swapped}
use Rattle.walk_gen.proofs.Sizes.{map_bare, step}

behind_none : (ds : List (List Mark)) → joints ([] ∷ []) ds ≡ ds
behind_none ds = append-nil (map (λ d. [] ++ d) ds) ∙ map_bare ds

-- where a walk takes no row it is at its end
joints-at_end : (r state : ℕ) (ds : List (List Mark))
    → joints (at_end (nat_eq r) state) ds ≡ cond (nat_eq r state) ds []
joints-at_end r state ds = by_test (nat_eq r state)
  where
    by_test : (test : Bool) → joints (cond test ([] ∷ []) []) ds ≡ cond test ds []
    by_test true = behind_none ds
    by_test false = refl

-- a row in front of the earlier lists is one in front of all
in_front : (t c : List Mark) (ds : List (List Mark))
    → map (λ d. (t ++ c) ++ d) ds ≡ map (λ l. t ++ l) (map (λ d. c ++ d) ds)
in_front t c [] = refl
in_front t c (d ∷ ds) = rw (append_assoc t c d, in_front t c ds) refl

joints-in_front : (t : List Mark) (cs ds : List (List Mark))
    → joints (map (λ c. t ++ c) cs) ds ≡ map (λ l. t ++ l) (joints cs ds)
joints-in_front t [] ds = refl
joints-in_front t (c ∷ cs) ds =
    rw (in_front t c ds, joints-in_front t cs ds) (sym (map-append (λ l. t ++ l) (map (λ d. c ++ d) ds) (joints cs ds)))

-- what a move takes, before what follows it on both sides of the cut
joints-step : (row : ℕ) (lists : ℕ → List (List Mark)) (state : ℕ) (m : Move) (ds : List (List Mark))
    → joints (step row lists state m) ds
    ≡ cond (nat_eq m.from state) (map (λ l. taken row m.take ++ l) (joints (lists m.to) ds)) []
joints-step row lists state m ds = by_test (nat_eq m.from state)
  where
    by_test : (test : Bool) → joints (cond test (map (λ rest. taken row m.take ++ rest) (lists m.to)) []) ds
        ≡ cond test (map (λ l. taken row m.take ++ l) (joints (lists m.to) ds)) []
    by_test true = joints-in_front (taken row m.take) (lists m.to) ds
    by_test false = refl

joints-moved : (moves : List Move) (row : ℕ) (lists : ℕ → List (List Mark)) (state : ℕ) (ds : List (List Mark))
    → joints (moved moves row lists state) ds
    ≡ flat_map (λ m. cond (nat_eq m.from state) (map (λ l. taken row m.take ++ l) (joints (lists m.to) ds)) []) moves
joints-moved [] row lists state ds = refl
joints-moved (m ∷ moves) row lists state ds =
    flat_map-append (λ (c : List Mark). map (λ d. c ++ d) ds) (step row lists state m) (moved moves row lists state)
    ∙ rw (joints-step row lists state m ds, joints-moved moves row lists state ds) refl

-- a move in front of lists by the state at the cut
step_by_state : (row state : ℕ) (m : Move) (F : ℕ → List (List Mark)) (rs : List ℕ)
    → cond (nat_eq m.from state) (map (λ l. taken row m.take ++ l) (flat_map F rs)) []
    ≡ flat_map (λ r. cond (nat_eq m.from state) (map (λ l. taken row m.take ++ l) (F r)) []) rs
step_by_state row state m F rs = by_test (nat_eq m.from state)
  where
    mapped : (rs : List ℕ) → map (λ l. taken row m.take ++ l) (flat_map F rs)
        ≡ flat_map (λ r. map (λ l. taken row m.take ++ l) (F r)) rs
    mapped [] = refl
    mapped (r ∷ rs) = map-append (λ l. taken row m.take ++ l) (F r) (flat_map F rs)
        ∙ ap (λ l. map (λ l. taken row m.take ++ l) (F r) ++ l) (mapped rs)

    by_test : (test : Bool) → cond test (map (λ l. taken row m.take ++ l) (flat_map F rs)) []
        ≡ flat_map (λ r. cond test (map (λ l. taken row m.take ++ l) (F r)) []) rs
    by_test true = mapped rs
    by_test false = sym (none_of_each rs)

module _ (moves : List Move) (states : ℕ) (within : All (IsBetween states) moves) (ends : ℕ → Bool) (b : ℕ) where
  abbrev cut : ℕ → ℕ → ℕ → List (List Mark)
  cut a first state =
      flat_map (λ r. joints (walks moves (nat_eq r) first a state) (walks moves ends (first + a) b r))
      (range_with_len 0 states)

  pub walks_cut : (a first state : ℕ) → state < states
      → IsPermutation (walks moves ends first (a + b) state) (cut a first state)
  walks_cut zero first state below =
      let alone : flat_map (λ r. joints (at_end (nat_eq r) state) (walks moves ends (first + 0) b r))
      (range_with_len 0 states) ≡ walks moves ends first b state =
      flat_map-same _ _ (range_with_len 0 states)
      (λ r. joints-at_end r state (walks moves ends (first + 0) b r))
      ∙ of_one (λ r. walks moves ends (first + 0) b r) state 0 states (omega arith) (omega arith)
      ∙ ap (λ n. walks moves ends n b state) (let e : first + 0 ≡ first = omega arith in e) in
      let none : b ≡ 0 + b = omega arith in
      subst (λ n. IsPermutation (walks moves ends first n state)
      (flat_map (λ r. joints (at_end (nat_eq r) state) (walks moves ends (first + 0) b r))
      (range_with_len 0 states))) none
      (subst (λ l. IsPermutation (walks moves ends first b state) l) (sym alone)
      (IsPermutation-refl (walks moves ends first b state)))
  walks_cut (suc a) first state below =
      let next : first + 1 + a ≡ first + suc a = omega arith in
      let later = λ (r : ℕ). walks moves ends (first + suc a) b r in
      let rest = λ (r : ℕ). walks moves (nat_eq r) (first + 1) a in
      let there = λ (m : Move). flat_map (λ r. joints (rest r m.to) (later r)) (range_with_len 0 states) in
      let pair = λ (m : Move) (r : ℕ). cond (nat_eq m.from state)
      (map (λ l. taken first m.take ++ l) (joints (rest r m.to) (later r))) [] in
      let by_move : IsPermutation (moved moves first (walks moves ends (first + 1) (a + b)) state)
      (flat_map (λ m. flat_map (pair m) (range_with_len 0 states)) moves) =
      subst (λ l. IsPermutation (moved moves first (walks moves ends (first + 1) (a + b)) state) l)
      (flat_map-same _ _ moves (λ m. step_by_state first state m (λ r. joints (rest r m.to) (later r))
      (range_with_len 0 states)))
      (each_moved (IsBetween states) (step first (walks moves ends (first + 1) (a + b)) state)
      (λ m. cond (nat_eq m.from state) (map (λ l. taken first m.take ++ l) (there m)) []) moves within
      (λ m fits. by_test (nat_eq m.from state) m
      (subst (λ n. IsPermutation (walks moves ends (first + 1) (a + b) m.to)
      (flat_map (λ r. joints (rest r m.to) (walks moves ends n b r)) (range_with_len 0 states))) next
      (walks_cut a (first + 1) m.to fits.1)))) in
      let one_more : suc (a + b) ≡ suc a + b = omega arith in
      subst (λ n. IsPermutation (walks moves ends first n state) (cut (suc a) first state)) one_more
      (subst (λ l. IsPermutation (moved moves first (walks moves ends (first + 1) (a + b)) state) l)
      (sym (flat_map-same _ _ (range_with_len 0 states)
      (λ r. joints-moved moves first (rest r) state (later r))))
      (IsPermutation-trans _ _ _ by_move (swapped pair moves (range_with_len 0 states))))
    where
      by_test : (test : Bool) (m : Move) {xs ys : List (List Mark)} → IsPermutation xs ys
          → IsPermutation (cond test (map (λ l. taken first m.take ++ l) xs) [])
          (cond test (map (λ l. taken first m.take ++ l) ys) [])
      by_test true m {xs} {ys} moved = IsPermutation-map (λ l. taken first m.take ++ l) xs ys moved
      by_test false m moved = IsPermutation-refl []

pub splits_anywhere : SplitsAnywhere
splits_anywhere walker valid from to lo earlier later below =
    walks_cut walker.moves.items walker.states valid.moves (nat_eq to) later earlier lo from below

pub ends_at_ends : EndsAtEnds
ends_at_ends walker valid n =
    let all : n + 0 ≡ n = omega arith in
    subst (λ k. IsPermutation (walks walker.moves.items (is_end walker.ends.items) 0 k walker.start)
    (flat_map (λ r. joints (between walker walker.start r 0 n) (walks walker.moves.items
    (is_end walker.ends.items) n 0 r)) (range_with_len 0 walker.states))) all
    (walks_cut walker.moves.items walker.states valid.moves (is_end walker.ends.items) 0 n 0 walker.start valid.start)
