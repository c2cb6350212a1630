-- Two or three totals as one weight, of which the greatest is best: where the least total of a measure is asked for, its
-- numbers are negated.
use Rattle.std.specs.Prelude.{ℤ, pos, neg_ℤ, Bool, cond, List, [], ◌∷◌, map, get_or, Option, Some, None}
use Rattle.std.specs.Prelude.{option_map}
use Rattle.shape_gen.specs.declared.mark.Mark.{Mark}
use Rattle.semiring_kit.specs.declared.weight.Lex.{Lex}
use Rattle.gta_checked.specs.PlainRows.{PlainRows}
use Rattle.gta_checked.specs.Plain.{PlainChecked}
use Rattle.gta_checked.specs.declared.resolved.Rank.{Rank}
use Rattle.best_k.specs.declared.entry.Entry.{Entry}
use Rattle.best_k.specs.Best.{entry_of}
use Rattle.gta_meaning.specs.Ranks.{best_totals}
use Rattle.gta_meaning.specs.Values.{value}
use Rattle.fuse_answer.specs.declared.ranks.Ranks.{Ranks}

-- the ranks, one after the other

abbrev pub third_of : Option Rank → List Rank
third_of None = []
third_of (Some rank) = rank ∷ []

abbrev pub list_of : Ranks → List Rank
list_of ranks = ranks.first ∷ ranks.second ∷ third_of ranks.third

-- a number as it is compared, and a compared number as it is printed

abbrev pub signed : Bool → ℤ → ℤ
signed greatest n = cond greatest n (neg_ℤ n)

abbrev pub signed_third : Option Rank → ℤ → ℤ
signed_third None n = n
signed_third (Some rank) n = signed rank.greatest n

abbrev pub signed_lex : Ranks → Lex → Lex
signed_lex ranks lex = record {
  first = signed ranks.first.greatest lex.first;
  second = signed ranks.second.greatest lex.second;
  third = signed_third ranks.third lex.third;
}

-- up to three totals; a missing one is 0
abbrev pub lex_of : List ℤ → Lex
lex_of totals = record {
  first = get_or totals 0 (pos 0);
  second = get_or totals 1 (pos 0);
  third = get_or totals 2 (pos 0);
}

-- the values of the ranks' measures at a mark
abbrev pub values_by : PlainChecked → PlainRows → List Rank → Mark → List ℤ
values_by checked rows ranks mark = map (λ rank. value checked rows rank.measure mark.row mark.label) ranks

-- what a mark weighs: these values, as they are compared
abbrev pub ranks_weight : Ranks → PlainChecked → PlainRows → Mark → Lex
ranks_weight ranks checked rows mark = signed_lex ranks (lex_of (values_by checked rows (list_of ranks) mark))

-- an entry with its totals as they are printed
abbrev pub printed : Ranks → Entry Lex → Entry Lex
printed ranks entry = record { total = signed_lex ranks entry.total; witness = entry.witness }

-- an entry of the answer: a candidate with its totals
abbrev pub ranked_answer : List ℤ × List Mark → Entry Lex
ranked_answer entry = entry_of (lex_of entry.0, entry.1)

-- the best totals as the answer has them
abbrev pub totals_answer : Ranks → PlainChecked → PlainRows → Option Lex
totals_answer ranks checked rows = option_map lex_of (best_totals checked rows (list_of ranks))
