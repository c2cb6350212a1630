-- What an aggregate of several totals answers: they are compared one after the other.
use Rattle.std.specs.Prelude.{ℕ, cond, ℤ, List, [], ◌∷◌, map, Option, Some, None, option_map}
use Rattle.std.specs.List.{fold}
use Rattle.std.specs.Ordering.{is_gt, ordering_then}
use Rattle.std.specs.declared.cmp.Ordering.{Ordering}
use Rattle.std.specs.declared.cmp.Ordering.TheVariants.{Equal}
use Rattle.shape_gen.specs.declared.mark.Mark.{Mark}
use Rattle.witness_order.specs.Before.{better}
use Rattle.witness_order.specs.Ranked.{first_of}
use Rattle.witness_order.specs.Shortlex.{shortlex}
use Rattle.gta_checked.specs.PlainRows.{PlainRows}
use Rattle.gta_checked.specs.declared.resolved.Rank.{Rank}
use Rattle.gta_checked.specs.Plain.{PlainChecked}
use Rattle.gta_meaning.specs.Kept.{kept}
use Rattle.gta_meaning.specs.Values.{total}

-- the totals of a candidate, rank by rank
abbrev pub totals_by : PlainChecked → PlainRows → List Rank → List Mark → List ℤ
totals_by checked rows ranks candidate = map (λ rank. total checked rows rank.measure candidate) ranks

-- the candidate of the better totals first: at the first rank where they differ, its total is the better one
abbrev pub rank_order : PlainChecked → PlainRows → List Rank → List Mark → List Mark → Ordering
rank_order checked rows [] c d = Equal
rank_order checked rows (rank ∷ ranks) c d =
    ordering_then
    (better rank.greatest (total checked rows rank.measure c) (total checked rows rank.measure d))
    (rank_order checked rows ranks c d)

-- and among candidates of the same totals, the one that is first by shortlex
abbrev pub rank_before : PlainChecked → PlainRows → List Rank → List Mark → List Mark → Ordering
rank_before checked rows ranks c d = ordering_then (rank_order checked rows ranks c d) (shortlex c d)

-- the former of two by an order, and the foremost of a list, or none where it is empty

abbrev pub former : {X : Type 0} → (X → X → Ordering) → X → X → X
former order x y = cond (is_gt (order x y)) y x

abbrev pub foremost : {X : Type 0} → (X → X → Ordering) → List X → Option X
foremost order [] = None
foremost order (x ∷ xs) = Some (fold (former order) x xs)

-- the totals than which no candidate that passes has better ones, or none where none passes
abbrev pub best_totals : PlainChecked → PlainRows → List Rank → Option (List ℤ)
best_totals checked rows ranks =
    option_map (totals_by checked rows ranks) (foremost (rank_order checked rows ranks) (kept checked rows))

-- a candidate with its totals
abbrev pub ranked_entry : PlainChecked → PlainRows → List Rank → List Mark → List ℤ × List Mark
ranked_entry checked rows ranks candidate = (totals_by checked rows ranks candidate, candidate)

-- the first k of the candidates that pass, or all where they are fewer, each with its totals
abbrev pub best_ranked : PlainChecked → PlainRows → ℕ → List Rank → List (List ℤ × List Mark)
best_ranked checked rows k ranks =
    map (ranked_entry checked rows ranks)
    (first_of (rank_before checked rows ranks) k (kept checked rows))
