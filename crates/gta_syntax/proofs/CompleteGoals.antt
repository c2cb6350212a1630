-- A line `aggregate` that is derived is read.
use Rattle.std.proofs.Common.{◌≡◌, ℕ, ◌≤◌, ◌<◌, Bool, true, false, List, [], ◌∷◌, length, refl, ap, arith}
use Rattle.std.specs.Prelude.{nat_lt, Some, None, codes}
use Rattle.std.specs.Str.{bytes_eq}
use Rattle.std.proofs.lemmas.Bool.Decides.{nat_tests}
use Rattle.gta_spec.specs.declared.parts.GoalPart.{GoalPart}
use Rattle.gta_spec.specs.declared.parts.GoalPart.TheVariants.{Best, Ranked}
use Rattle.gta_spec.specs.declared.parts.RankPart.{RankPart}
use Rattle.gta_spec.specs.declared.limits.TheConstants.{RANK_LIMIT}
use Rattle.gta_spec.specs.Symbols.{Symbol}
use Rattle.gta_spec.specs.Grammar.{IsDigits, IsName, IsEnd, IsFirstRank, IsNextRank, IsGoal}
use Rattle.gta_spec.specs.Grammar.{Listed, listed, none, behind}
use Rattle.gta_syntax.specs.Rules.{word_at, digits_at, begins_later, end_at, first_rank_at, next_rank_at}
use Rattle.gta_syntax.specs.Rules.{ranks_at, best_at, goal_at}
use Rattle.gta_syntax.proofs.Again.{IsReadable, many_again}
use Rattle.gta_syntax.proofs.CompleteSymbols.{word_again, later_again, digits_again, name_again, no_other_word}
use Rattle.gta_syntax.proofs.CompleteSymbols.{name_shorter}

end_again : {x : Bool} {ts rest : List Symbol} → IsEnd x ts rest → end_at ts ≡ Some (x, rest)
unfolding end_at word_at
end_again (IsEnd.greatest w) = rw w refl
end_again (IsEnd.least w) = rw w refl

end_shorter : {x : Bool} {ts rest : List Symbol} → IsEnd x ts rest → length rest < length ts
end_shorter (IsEnd.greatest w) = omega (arith, ap length w)
end_shorter (IsEnd.least w) = omega (arith, ap length w)

no_word_at_end_word : (w : List ℕ) {x : Bool} {ts rest : List Symbol} → IsEnd x ts rest
    → bytes_eq (codes "max") w ≡ false → bytes_eq (codes "min") w ≡ false → word_at w ts ≡ None
no_word_at_end_word w (IsEnd.greatest v) no_max no_min = no_other_word w v no_max
no_word_at_end_word w (IsEnd.least v) no_max no_min = no_other_word w v no_min

first_rank_again : {x : RankPart} {ts rest : List Symbol} → IsFirstRank x ts rest → first_rank_at ts ≡ Some (x, rest)
unfolding first_rank_at
first_rank_again (IsFirstRank.rank e n) = rw (end_again e, name_again n) refl

first_rank_shorter : {x : RankPart} {ts rest : List Symbol} → IsFirstRank x ts rest → length rest < length ts
first_rank_shorter (IsFirstRank.rank e n) = omega (arith, end_shorter e, name_shorter n)

no_word_at_rank : (w : List ℕ) {x : RankPart} {ts rest : List Symbol} → IsFirstRank x ts rest
    → bytes_eq (codes "max") w ≡ false → bytes_eq (codes "min") w ≡ false → word_at w ts ≡ None
no_word_at_rank w (IsFirstRank.rank e n) no_max no_min = no_word_at_end_word w e no_max no_min

next_rank_again : {x : RankPart} {ts rest : List Symbol} → IsNextRank x ts rest → next_rank_at ts ≡ Some (x, rest)
unfolding next_rank_at
next_rank_again (behind w d) = rw (later_again w, first_rank_again d) refl

next_rank_begun : {x : RankPart} {ts rest : List Symbol} → IsNextRank x ts rest
    → begins_later (codes "then") ts ≡ true
next_rank_begun (behind w d) = rw (later_again w) refl

next_rank_shorter : {x : RankPart} {ts rest : List Symbol} → IsNextRank x ts rest → length rest < length ts
next_rank_shorter (behind w d) = omega (arith, ap length w, first_rank_shorter d)

ranks_readable : IsReadable IsNextRank next_rank_at (begins_later (codes "then")) (λ ts. Unit {0})
ranks_readable = record {
  again = λ x ts a d last. next_rank_again d;
  begun = λ x ts a d. next_rank_begun d;
  goes_on = λ x ts a d. tt;
  shorter = λ x ts a d. next_rank_shorter d;
}

ranks_again : {x : RankPart} {others : List RankPart} {ts rest : List Symbol}
    → Listed IsFirstRank IsNextRank (x ∷ others) ts rest → begins_later (codes "then") rest ≡ false
    → length others < RANK_LIMIT → ranks_at ts ≡ Some ((x, others), rest)
unfolding ranks_at
ranks_again {others = others} (listed {a = a} d ms) off few =
    let on : nat_lt (length others) RANK_LIMIT ≡ true = grind (arith, nat_tests) in
    rw (first_rank_again d, many_again ranks_readable (length a) ms off tt (omega arith), on) refl

ranked_again : (keys : List RankPart) {ts rest : List Symbol} → Listed IsFirstRank IsNextRank keys ts rest
    → 2 ≤ length keys → length keys ≤ RANK_LIMIT → begins_later (codes "then") rest ≡ false
    → goal_at ts ≡ Some (Ranked None keys, rest)
unfolding goal_at
ranked_again [] ranks several few off = absurd (omega arith)
ranked_again (x ∷ []) ranks several few off = absurd (omega arith)
ranked_again (x ∷ next ∷ others) (listed d ms) several few off =
    rw (
      no_word_at_rank (codes "count") d refl refl,
      no_word_at_rank (codes "any") d refl refl,
      no_word_at_rank (codes "best") d refl refl,
      ranks_again (listed d ms) off (omega arith),
    ) refl

best_ranked_again : (k : ℕ) (keys : List RankPart) (ts : List Symbol) {b rest : List Symbol}
    → digits_at ts ≡ Some (k, b)
    → Listed IsFirstRank IsNextRank keys b rest → 2 ≤ length keys → length keys ≤ RANK_LIMIT
    → begins_later (codes "then") rest ≡ false → best_at ts ≡ Some (Ranked (Some k) keys, rest)
unfolding best_at
best_ranked_again k [] ts digits ranks several few off = absurd (omega arith)
best_ranked_again k (x ∷ []) ts digits ranks several few off = absurd (omega arith)
best_ranked_again k (x ∷ next ∷ others) ts digits ranks several few off =
    rw (digits, ranks_again ranks off (omega arith)) refl

best_again : {k : ℕ} {greatest : Bool} {x : List ℕ} {ts b c rest : List Symbol} → IsDigits k ts b
    → IsEnd greatest b c → IsName x c rest → begins_later (codes "then") rest ≡ false
    → best_at ts ≡ Some (Best k greatest x, rest)
unfolding best_at
best_again d e n off = rw
    (digits_again d, ranks_again (listed (IsFirstRank.rank e n) none) off (omega arith)) refl

pub goal_again : {x : GoalPart} {ts rest : List Symbol} → IsGoal x ts rest → begins_later (codes "then") rest ≡ false
    → goal_at ts ≡ Some (x, rest)
unfolding goal_at
goal_again (IsGoal.count w) off = rw (word_again w) refl
goal_again (IsGoal.any w) off = rw (no_other_word (codes "count") w refl, word_again w) refl
goal_again (IsGoal.max w n) off =
    rw (
      no_other_word (codes "count") w refl,
      no_other_word (codes "any") w refl,
      no_other_word (codes "best") w refl,
      ranks_again (listed (IsFirstRank.rank (IsEnd.greatest w) n) none) off (omega arith),
    ) refl
goal_again (IsGoal.min w n) off =
    rw (
      no_other_word (codes "count") w refl,
      no_other_word (codes "any") w refl,
      no_other_word (codes "best") w refl,
      ranks_again (listed (IsFirstRank.rank (IsEnd.least w) n) none) off (omega arith),
    ) refl
goal_again (IsGoal.best w d e n) off =
    rw (
      no_other_word (codes "count") w refl,
      no_other_word (codes "any") w refl,
      word_again w,
      best_again d e n off,
    ) refl
goal_again (IsGoal.ranked {keys = keys} r) off = ranked_again keys r.ranks r.several r.few off
goal_again (IsGoal.best_ranked {k = k} {keys = keys} w d r) off =
    rw (
      no_other_word (codes "count") w refl,
      no_other_word (codes "any") w refl,
      word_again w,
      best_ranked_again k keys _ (digits_again d) r.ranks r.several r.few off,
    ) refl
