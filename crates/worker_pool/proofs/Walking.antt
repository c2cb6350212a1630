-- The walk over the bounds, place by place.
use Rattle.std.proofs.Common.{◌≡◌, ◌≢◌, ℕ, suc, ◌+◌, ◌-◌, ◌<◌, ◌≤◌, ◌==◌, nat_lt, true, false, cond, List, [], ◌∷◌}
use Rattle.std.proofs.Common.{length, get_or, set, drop, drop-cons, sum_by, Option, Some, None, MatchOption, refl, ap}
use Rattle.std.proofs.Common.{sym, subst, ◌∙◌, arith, ⊎_elim}
use Rattle.std.specs.Prelude.{slice_get}
use Rattle.std.specs.List.{Contains, All}
use Rattle.std.proofs.lemmas.List.Sums.{sum_by-cons}
use Rattle.std.proofs.lemmas.List.{get_or-set_other}
use Rattle.std.proofs.Math.ListN.{drop_of_length-le}
use Rattle.std.proofs.lemmas.List.Elements.{All-contains}
use Rattle.std.proofs.lemmas.List.Folds.{Any-from_list_any}
use Rattle.board_core.proofs.PlaceLemmas.{item_is}
use Rattle.std.proofs.lemmas.Option.{get_or_from_slice_get}
use Rattle.std.proofs.lemmas.Bool.Decides.{nat_tests}
use Rattle.interval_kit.specs.declared.piece.Piece.{Piece}
use Rattle.interval_kit.specs.Cut.{IsCut}
use Rattle.worker_pool.specs.Walk.{IsGood, Part, part, part_at, part_cost, walk_from, walk, walk_cost, longest_end}
use Rattle.worker_pool.specs.Slots.{IsLongest, AreLongest, IsGoodSlot, part_of}
use Rattle.worker_pool.proofs.Bounds.{alike, is_same, unlike, rising, not_falling, below_or_not}

some_element : (xs : List ℕ) (x : ℕ) → slice_get xs 0 ≡ Some x → 1 ≤ length xs
some_element [] x h = cc
some_element (y ∷ ys) x h = omega arith

-- what a join with each of these parts costs
abbrev pub still_to_pay : (ℕ → ℕ) → ℕ → List Part → ℕ
still_to_pay leaf join parts = sum_by (λ p. join + part_cost leaf p) parts

module _ {W : Type 0} (stands : ℕ → ℕ → W → Type 0) (leaf : ℕ → ℕ) (join : ℕ) (bounds : List ℕ)
    (pieces : List (Piece W)) where
  abbrev pub at_bound : ℕ → ℕ
  at_bound k = get_or bounds k 0

  -- the parts from `at` on, where the bounds before this place are done with
  abbrev pub parts_left : ℕ → ℕ → List Part
  parts_left place at = walk_from bounds pieces at (at_bound place) (drop (place + 1) bounds)

  -- what was spent and what is left to be spent are within the whole
  abbrev pub IsWorth : ℕ → Option W → ℕ → ℕ → List Part → Type 0
  IsWorth at value before steps left =
      MatchOption value ((at ≡ 0) × (left ≡ walk bounds pieces) × (steps ≤ before))
      (λ v. stands 0 at v × (steps + still_to_pay leaf join left ≤ before + walk_cost leaf join (walk bounds pieces)))

  pub record Walked (place at : ℕ) (value : Option W) (slots : List (Option (Piece W))) (before steps : ℕ) : Type 0
    where
      pub longest : AreLongest bounds pieces place slots
      pub on_bound : (j : ℕ) × (place ≤ j) × (j < length bounds) × (at_bound j ≡ at)
      pub worth : IsWorth at value before steps (parts_left place at)

  -- the part at this place, by what its slot holds
  abbrev pub part_here : ℕ → List (Option (Piece W)) → Part
  part_here place slots = part_of (at_bound place) (at_bound (place + 1)) (get_or slots place None)

  walk_step : (place at : ℕ) → place + 1 < length bounds
      → parts_left place at ≡ cond (nat_lt (at_bound place) at) (parts_left (place + 1) at)
      (part_at bounds pieces (at_bound place) (at_bound (place + 1)) ∷ parts_left (place + 1)
      (part_at bounds pieces (at_bound place) (at_bound (place + 1))).hi)
  walk_step place at within =
      let more : suc (place + 1) ≡ place + 1 + 1 = omega arith in
      ap (λ later. walk_from bounds pieces at (at_bound place) later)
      (drop-cons bounds (place + 1) 0 within ∙ ap (λ k. at_bound (place + 1) ∷ drop k bounds) more)

  part_is : (lo next : ℕ) (slot : Option (Piece W)) → IsLongest bounds pieces lo slot
      → ((p : Piece W) → Contains pieces p → p.lo < p.hi)
      → part_at bounds pieces lo next ≡ part_of lo next slot
  part_is lo next None longest nonempty =
      ap (λ t. cond t (part lo next true) (part lo (longest_end bounds pieces lo) false))
      (is_same (longest_end bounds pieces lo) 0 longest)
  part_is lo next (Some p) longest nonempty =
      let later : longest_end bounds pieces lo ≢ 0 = λ none. absurd (omega (arith, nonempty p longest.0, longest.3)) in
      ap (λ t. cond t (part lo next true) (part lo (longest_end bounds pieces lo) false))
      (unlike (longest_end bounds pieces lo) 0 later)
      ∙ ap (λ hi. part lo hi false) (sym longest.3)

  -- the part is paid for, and the join with what came before it
  pub part_paid : (at : ℕ) (value : Option W) (before steps paid : ℕ) (left rest : List Part) (p : Part)
      → left ≡ p ∷ rest
      → IsWorth at value before steps left → paid ≤ steps + part_cost leaf p
      → paid ≤ before + walk_cost leaf join (walk bounds pieces)
  part_paid at None before steps paid left rest p e worth cost =
      let whole : walk_cost leaf join (walk bounds pieces) ≡ part_cost leaf p + still_to_pay leaf join rest = ap
      (walk_cost leaf join) (sym worth.1 ∙ e) in
      omega (arith, worth.2)
  part_paid at (Some v) before steps paid left rest p e worth cost =
      let first : still_to_pay leaf join left ≡ (join + part_cost leaf p) + still_to_pay leaf join rest =
      ap (still_to_pay leaf join) e ∙ sum_by-cons (λ q. join + part_cost leaf q) p rest in
      omega (arith, worth.1)

  pub join_paid : (at : ℕ) (value : Option W) (before steps paid joined : ℕ) (left rest : List Part) (p : Part)
      → left ≡ p ∷ rest
      → IsWorth at value before steps left → paid ≤ steps + part_cost leaf p
      → MatchOption value (joined ≡ paid) (λ _. joined ≤ paid + join)
      → joined + still_to_pay leaf join rest ≤ before + walk_cost leaf join (walk bounds pieces)
  join_paid at None before steps paid joined left rest p e worth cost last =
      let whole : walk_cost leaf join (walk bounds pieces) ≡ part_cost leaf p + still_to_pay leaf join rest = ap
      (walk_cost leaf join) (sym worth.1 ∙ e) in
      omega (arith, worth.2, last)
  join_paid at (Some v) before steps paid joined left rest p e worth cost last =
      let first : still_to_pay leaf join left ≡ (join + part_cost leaf p) + still_to_pay leaf join rest =
      ap (still_to_pay leaf join) e ∙ sum_by-cons (λ q. join + part_cost leaf q) p rest in
      omega (arith, worth.1, last)

  -- what there is before the part, for the join
  pub before_stands : (at : ℕ) (value : Option W) (before steps : ℕ) (left : List Part)
      → IsWorth at value before steps left
      → MatchOption value (at ≡ 0) (stands 0 at)
  before_stands at None before steps left worth = worth.0
  before_stands at (Some v) before steps left worth = worth.0

  module _ (rows : ℕ) (cut : IsCut rows bounds) (good : All (IsGood rows stands) pieces) where
    is_good : (p : Piece W) → Contains pieces p → IsGood rows stands p
    is_good p there = All-contains (IsGood rows stands) pieces p good there

    first_is : at_bound 0 ≡ 0
    first_is = get_or_from_slice_get bounds 0 0 0 cut.starts

    last_is : at_bound (length bounds - 1) ≡ rows
    last_is = get_or_from_slice_get bounds (length bounds - 1) rows 0 cut.ends

    pub some_bound : 1 ≤ length bounds
    some_bound = some_element bounds 0 cut.starts

    pub starts : (slots : List (Option (Piece W))) (before : ℕ) → AreLongest bounds pieces 0 slots
        → Walked 0 0 None slots before before
    starts slots before longest = record {
      longest = longest;
      on_bound = (0, omega arith, omega (arith, some_bound), first_is);
      worth = (refl, refl, omega arith);
    }

    pub next_within : (place : ℕ) → place + 1 < length bounds
        → (at_bound place ≤ at_bound (place + 1)) × (at_bound (place + 1) ≤ rows)
    next_within place within = (
      omega (arith, rising bounds cut.rises place (place + 1) (omega arith) within),
      omega (arith, not_falling bounds cut.rises (place + 1) (length bounds - 1) (omega arith) (omega arith), last_is),
    )

    good_slot : (lo : ℕ) (slot : Option (Piece W)) → IsLongest bounds pieces lo slot → IsGoodSlot rows stands lo slot
    good_slot lo None longest = tt
    good_slot lo (Some p) longest = (longest.1, is_good p longest.0)

    module _ (place at : ℕ) (value : Option W) (slots : List (Option (Piece W))) (before steps : ℕ)
        (within : place + 1 < length bounds)
        (walked : Walked place at value slots before steps) where
      longest_here : IsLongest bounds pieces (at_bound place) (get_or slots place None)
      longest_here = walked.longest place (omega arith) (omega arith)

      pub slot_is_good : IsGoodSlot rows stands (at_bound place) (get_or slots place None)
      slot_is_good = good_slot (at_bound place) (get_or slots place None) longest_here

      ends_within : (slot : Option (Piece W)) → IsGoodSlot rows stands (at_bound place) slot
          → (at_bound place ≤ (part_of (at_bound place) (at_bound (place + 1)) slot).hi) ×
          ((part_of (at_bound place) (at_bound (place + 1)) slot).hi ≤ rows)
      ends_within None good = next_within place within
      ends_within (Some p) good = (omega (arith, good.0, good.1.nonempty), good.1.within)

      pub part_within : (at_bound place ≤ (part_here place slots).hi) × ((part_here place slots).hi ≤ rows)
      part_within = ends_within (get_or slots place None) slot_is_good

      -- the bound lies within the part before
      pub skipped : at_bound place < at → Walked (place + 1) at value slots before steps
      skipped inside =
          let other : walked.on_bound.0 ≢ place = λ here. absurd (omega (arith, walked.on_bound.3, ap at_bound here)) in
          let test : nat_lt (at_bound place) at ≡ true = grind (arith, nat_tests) in
          let later : parts_left place at ≡ parts_left (place + 1) at = walk_step place at within
          ∙ ap (λ t. cond t (parts_left (place + 1) at)
          (part_at bounds pieces (at_bound place) (at_bound (place + 1)) ∷ parts_left (place + 1)
          (part_at bounds pieces (at_bound place) (at_bound (place + 1))).hi)) test in
          record {
            longest = λ j from below. walked.longest j (omega arith) below;
            on_bound = (walked.on_bound.0, omega (arith, walked.on_bound.1), walked.on_bound.2, walked.on_bound.3);
            worth = subst (λ left. IsWorth at value before steps left) later walked.worth;
          }

      module _ (begins : at ≤ at_bound place) where
        pub at_is : at ≡ at_bound place
        at_is = omega (
          arith,
          not_falling bounds cut.rises place walked.on_bound.0 walked.on_bound.1
              walked.on_bound.2,
          walked.on_bound.3,
        )

        parts_are : parts_left place at ≡ part_here place slots ∷ parts_left (place + 1) (part_here place slots).hi
        parts_are =
            let test : nat_lt (at_bound place) at ≡ false = grind (arith, nat_tests) in
            walk_step place at within
            ∙ ap (λ t. cond t (parts_left (place + 1) at)
            (part_at bounds pieces (at_bound place) (at_bound (place + 1)) ∷ parts_left (place + 1)
            (part_at bounds pieces (at_bound place) (at_bound (place + 1))).hi)) test
            ∙ ap (λ p. p ∷ parts_left (place + 1) p.hi)
            (part_is (at_bound place) (at_bound (place + 1)) (get_or slots place None) longest_here
            (λ p there. (is_good p there).nonempty))

        pub part_affords : (paid : ℕ) → paid ≤ steps + part_cost leaf (part_here place slots)
            → paid ≤ before + walk_cost leaf join (walk bounds pieces)
        part_affords paid cost =
            part_paid at value before steps paid (parts_left place at)
            (parts_left (place + 1) (part_here place slots).hi) (part_here place slots) parts_are walked.worth
            cost

        pub before_part : MatchOption value (at_bound place ≡ 0) (stands 0 (at_bound place))
        before_part = subst (λ lo. MatchOption value (lo ≡ 0) (stands 0 lo)) at_is
            (before_stands at value before steps (parts_left place at) walked.worth)

        pub ends_on_bound : (slot : Option (Piece W)) → IsLongest bounds pieces (at_bound place) slot
            → (j : ℕ) × (place + 1 ≤ j) × (j < length bounds) ×
            (at_bound j ≡ (part_of (at_bound place) (at_bound (place + 1)) slot).hi)
        ends_on_bound None longest = (place + 1, omega arith, within, refl)
        ends_on_bound (Some p) longest =
            let found = Any-from_list_any (λ b. b == p.hi) bounds longest.2 in
            let here : at_bound found.0 ≡ p.hi = item_is bounds found.0 found.1 0 found.2 (sym found.3)
            ∙ alike found.1 p.hi found.4 in
            let grows = (is_good p longest.0).nonempty in
            let beyond : place + 1 ≤ found.0 = ⊎_elim
            (λ (above : place < found.0). omega arith)
            (λ (below : found.0 ≤ place). absurd
            (omega (arith, not_falling bounds cut.rises found.0 place below (omega arith), here, longest.1)))
            (below_or_not place found.0) in
            (found.0, beyond, found.2, here)

        -- the part comes to the value
        pub stepped : (slots' : List (Option (Piece W))) (hi paid joined : ℕ) (v : W) → slots' ≡ set slots place None
            → hi ≡ (part_here place slots).hi
            → stands 0 hi v → paid ≤ steps + part_cost leaf (part_here place slots)
            → MatchOption value (joined ≡ paid) (λ _. joined ≤ paid + join)
            → Walked (place + 1) hi (Some v) slots' before joined
        stepped slots' hi paid joined v taken end v_stands cost last =
            let bound = ends_on_bound (get_or slots place None) longest_here in
            record {
              longest = λ j from below.
                  let other : j ≢ place = omega arith in
                  subst (λ slot. IsLongest bounds pieces (at_bound j) slot)
                  (sym (ap (λ ss. get_or ss j None) taken ∙ get_or-set_other slots place j None None other))
                  (walked.longest j (omega arith) below);
              on_bound = (bound.0, bound.1, bound.2, bound.3 ∙ sym end);
              worth = (
                v_stands,
                subst (λ h. joined + still_to_pay leaf join (parts_left (place + 1) h) ≤ before + walk_cost leaf join
                    (walk bounds pieces)) (sym end)
                    (join_paid at value before steps paid joined (parts_left place at)
                    (parts_left (place + 1) (part_here place slots).hi) (part_here place slots)
                    parts_are walked.worth cost last),
              );
            }

        pub joined_affords : (paid joined : ℕ) → paid ≤ steps + part_cost leaf (part_here place slots)
            → MatchOption value (joined ≡ paid) (λ _. joined ≤ paid + join)
            → joined ≤ before + walk_cost leaf join (walk bounds pieces)
        joined_affords paid joined cost last =
            omega (
              arith,
              join_paid at value before steps paid joined (parts_left place at)
                  (parts_left (place + 1) (part_here place slots).hi) (part_here place slots)
                  parts_are walked.worth cost last,
            )

    -- the walk is over
    pub no_parts_left : (place at : ℕ) → place + 1 ≡ length bounds → parts_left place at ≡ []
    no_parts_left place at end =
        let past : drop (place + 1) bounds ≡ [] = drop_of_length-le bounds {i = place + 1} (omega arith) in
        ap (λ later. walk_from bounds pieces at (at_bound place) later) past

    pub at_end : (place at : ℕ) (value : Option W) (slots : List (Option (Piece W))) (before steps : ℕ)
        → place + 1 ≡ length bounds
        → Walked place at value slots before steps → at ≡ rows
    at_end place at value slots before steps end walked =
        let there : walked.on_bound.0 ≡ length bounds - 1 = omega (arith, walked.on_bound.1, walked.on_bound.2) in
        sym walked.on_bound.3 ∙ ap at_bound there ∙ last_is

    pub value_stands : (place at : ℕ) (v : W) (slots : List (Option (Piece W))) (before steps : ℕ)
        → place + 1 ≡ length bounds
        → Walked place at (Some v) slots before steps
        → stands 0 rows v × (steps ≤ before + walk_cost leaf join (walk bounds pieces))
    value_stands place at v slots before steps end walked = (
      subst (λ hi. stands 0 hi v) (at_end place at (Some v) slots before steps end walked) walked.worth.0,
      omega
          (arith, walked.worth.1),
    )

    pub no_rows : (place at : ℕ) (slots : List (Option (Piece W))) (before steps : ℕ) → place + 1 ≡ length bounds
        → Walked place at None slots before steps
        → (rows ≡ 0) × (steps + leaf 0 ≤ before + walk_cost leaf join (walk bounds pieces))
    no_rows place at slots before steps end walked =
        let none : walk_cost leaf join (walk bounds pieces) ≡ leaf 0 = ap (walk_cost leaf join)
        (sym walked.worth.1 ∙ no_parts_left place at end) in
        (sym (at_end place at None slots before steps end walked) ∙ walked.worth.0, omega (arith, walked.worth.2))
