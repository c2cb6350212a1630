-- What is read of a line `aggregate` is derived.
use Rattle.std.proofs.Common.{ℕ, ◌<◌, List, [], ◌∷◌, length, arith}
use Rattle.std.specs.Prelude.{nat_lt, codes}
use Rattle.std.proofs.lemmas.Bool.Decides.{nat_tests}
use Rattle.gta_spec.specs.declared.parts.RankPart.{RankPart}
use Rattle.gta_spec.specs.declared.limits.TheConstants.{RANK_LIMIT}
use Rattle.gta_spec.specs.Symbols.{Symbol}
use Rattle.gta_spec.specs.Grammar.{IsWord, IsDigits, IsEnd, IsFirstRank, IsNextRank, IsGoal}
use Rattle.gta_spec.specs.Grammar.{Listed, listed, none, behind}
use Rattle.gta_syntax.specs.Rules.{end_at, first_rank_at, next_rank_at, ranks_at, goal_of, best_of, best_at, goal_at}
use Rattle.gta_syntax.proofs.Each.{Each, done, and_then, either, then_is, many_takes}
use Rattle.gta_syntax.proofs.SoundSymbols.{when, word_takes, later_takes, digits_takes, name_takes}

end_takes : (ts : List Symbol) → Each (end_at ts) (λ x. IsEnd x.0 ts x.1)
unfolding end_at
end_takes ts = either (word_takes (codes "max") ts) (λ a w. done (IsEnd.greatest w))
    (and_then (word_takes (codes "min") ts) (λ a w. done (IsEnd.least w)))

first_rank_takes : (ts : List Symbol) → Each (first_rank_at ts) (λ x. IsFirstRank x.0 ts x.1)
unfolding first_rank_at
first_rank_takes ts = and_then (end_takes ts)
    (λ e f. and_then (name_takes e.1) (λ x n. done (IsFirstRank.rank f n)))

next_rank_takes : (ts : List Symbol) → Each (next_rank_at ts) (λ x. IsNextRank x.0 ts x.1)
unfolding next_rank_at
next_rank_takes ts = and_then (later_takes (codes "then") ts)
    (λ a w. then_is (first_rank_takes a) (λ x d. behind w d))

-- a first rank and others, of which there are not too many
record AreRanks (x : RankPart) (others : List RankPart) (ts rest : List Symbol) : Type 0 where
  ranks : Listed IsFirstRank IsNextRank (x ∷ others) ts rest
  few : length others < RANK_LIMIT

ranks_takes : (ts : List Symbol) → Each (ranks_at ts) (λ xs. AreRanks xs.0.0 xs.0.1 ts xs.1)
unfolding ranks_at
ranks_takes ts = and_then (first_rank_takes ts)
    (λ x d. and_then (many_takes _ next_rank_takes (length x.1) x.1)
    (λ xs ds. when ((x.0, xs.0), xs.1) (nat_lt (length xs.0) RANK_LIMIT)
    (λ e. record { ranks = listed d ds; few = grind (arith, nat_tests) })))

goal_is : {x : RankPart} (others : List RankPart) {ts rest : List Symbol}
    → Listed IsFirstRank IsNextRank (x ∷ others) ts rest → length others < RANK_LIMIT
    → IsGoal (goal_of x others) ts rest
goal_is [] (listed (IsFirstRank.rank (IsEnd.greatest w) n) none) few = IsGoal.max w n
goal_is [] (listed (IsFirstRank.rank (IsEnd.least w) n) none) few = IsGoal.min w n
goal_is (next ∷ others) ranks few = IsGoal.ranked
    (record { ranks = ranks; several = omega arith; few = omega arith })

best_is : {k : ℕ} {x : RankPart} (others : List RankPart) {ts a b rest : List Symbol} → IsWord (codes "best") ts a
    → IsDigits k a b → Listed IsFirstRank IsNextRank (x ∷ others) b rest → length others < RANK_LIMIT
    → IsGoal (best_of k x others) ts rest
best_is [] w d (listed (IsFirstRank.rank e n) none) few = IsGoal.best w d e n
best_is (next ∷ others) w d ranks few = IsGoal.best_ranked w d
    (record { ranks = ranks; several = omega arith; few = omega arith })

best_takes : (ts : List Symbol)
    → Each (best_at ts) (λ x. (a : List Symbol) → IsWord (codes "best") a ts → IsGoal x.0 a x.1)
unfolding best_at
best_takes ts = and_then (digits_takes ts)
    (λ k d. and_then (ranks_takes k.1) (λ xs r. done (λ a w. best_is xs.0.1 w d r.ranks r.few)))

pub goal_takes : (ts : List Symbol) → Each (goal_at ts) (λ x. IsGoal x.0 ts x.1)
unfolding goal_at
goal_takes ts = either (word_takes (codes "count") ts) (λ a w. done (IsGoal.count w))
    (either (word_takes (codes "any") ts) (λ a w. done (IsGoal.any w))
    (either (word_takes (codes "best") ts) (λ a w. then_is (best_takes a) (λ x d. d ts w))
    (and_then (ranks_takes ts) (λ xs r. done (goal_is xs.0.1 r.ranks r.few)))))
