-- What an aggregate answers over the candidates that pass.
use Rattle.std.specs.Prelude.{ℕ, min, ℤ, Bool, nat_lt, List, [], ◌∷◌, map, length}
use Rattle.std.specs.Prelude.{Option, Some, None}
use Rattle.std.specs.Int.{int_max, int_min}
use Rattle.std.specs.List.{fold}
use Rattle.shape_gen.specs.declared.mark.Mark.{Mark}
use Rattle.witness_order.specs.Before.{before}
use Rattle.witness_order.specs.Ranked.{first_of}
use Rattle.gta_checked.specs.PlainRows.{PlainRows}
use Rattle.gta_checked.specs.Plain.{PlainChecked}
use Rattle.gta_meaning.specs.Values.{total}
use Rattle.gta_meaning.specs.Kept.{kept}

-- a greater number of candidates is cut to this one
abbrev pub count_cap : ℕ
count_cap = 18446744073709551615

-- how many candidates pass, cut at the cap
abbrev pub count : PlainChecked → PlainRows → ℕ
count checked rows = min (length (kept checked rows)) count_cap

-- whether a candidate passes
abbrev pub any : PlainChecked → PlainRows → Bool
any checked rows = nat_lt 0 (length (kept checked rows))

-- the totals of the candidates that pass
abbrev pub totals : PlainChecked → PlainRows → ℕ → List ℤ
totals checked rows measure = map (total checked rows measure) (kept checked rows)

-- the greatest of a list, or none where it is empty
abbrev pub greatest_of : List ℤ → Option ℤ
greatest_of [] = None
greatest_of (x ∷ xs) = Some (fold int_max x xs)

-- the least of a list, or none where it is empty
abbrev pub least_of : List ℤ → Option ℤ
least_of [] = None
least_of (x ∷ xs) = Some (fold int_min x xs)

-- the greatest total of the candidates that pass, or none where none passes
abbrev pub greatest : PlainChecked → PlainRows → ℕ → Option ℤ
greatest checked rows measure = greatest_of (totals checked rows measure)

-- the least total of the candidates that pass, or none where none passes
abbrev pub least : PlainChecked → PlainRows → ℕ → Option ℤ
least checked rows measure = least_of (totals checked rows measure)

-- a candidate with its total
abbrev pub entry_of : PlainChecked → PlainRows → ℕ → List Mark → ℤ × List Mark
entry_of checked rows measure candidate = (total checked rows measure candidate, candidate)

-- the first k of the candidates that pass, or all where they are fewer, each with its total: those of better
-- totals first, and among equal totals by shortlex
abbrev pub best : PlainChecked → PlainRows → ℕ → Bool → ℕ → List (ℤ × List Mark)
best checked rows k greatest measure =
    first_of (before greatest) k (map (entry_of checked rows measure) (kept checked rows))
