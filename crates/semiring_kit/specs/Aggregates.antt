-- What a semiring adds up over a list of candidates, and the answers that these sums are.
use Rattle.std.specs.Prelude.{◌≡◌, ℕ, ℤ, ◌≤ℤ◌, Bool, true, false, min, List, [], ◌∷◌, length, map, Option}
use Rattle.std.specs.Prelude.{Some, None}
use Rattle.std.specs.Int.{int_max, int_min}
use Rattle.std.specs.Ordering.{is_gt}
use Rattle.monoid_kit.specs.Items.{IsIn, AllElements}
use Rattle.monoid_kit.specs.Product.{product_by}
use Rattle.shape_gen.specs.declared.mark.Mark.{Mark}
use Rattle.semiring_kit.specs.Semiring.{SemiringOn}
use Rattle.semiring_kit.specs.Total.{total}
use Rattle.semiring_kit.specs.Chosen.{chosen, greater_by}
use Rattle.semiring_kit.specs.Count.{count_cap, count, count_of_mark}
use Rattle.semiring_kit.specs.Truth.{truth, truth_of_mark}
use Rattle.semiring_kit.specs.MaxPlus.{max_plus}
use Rattle.semiring_kit.specs.MinPlus.{min_plus}
use Rattle.semiring_kit.specs.declared.weight.Lex.{Lex}
use Rattle.semiring_kit.specs.Lex.{lex_order, lexes}
use Rattle.semiring_kit.specs.RankPlus.{rank_plus}
use Rattle.semiring_kit.specs.Weight.{WeightsOn, numbers}

-- the sum over candidates of the products of their marks' elements
abbrev pub sum_over : {E W : Type 0} → SemiringOn E → (Mark → W → E) → (Mark → W)
    → List (List Mark) → E
sum_over r of_mark weight candidates =
    total r (λ c. product_by r.one r.mul (λ m. of_mark m (weight m)) c) candidates

-- the weights of a candidate's marks, added up
abbrev pub total_by : {W : Type 0} → WeightsOn W → (Mark → W) → List Mark → W
total_by weights weight c = product_by weights.nothing weights.plus weight c

abbrev pub total_weight : (Mark → ℤ) → List Mark → ℤ
total_weight weight c = total_by numbers weight c

-- the number of items, cut at the greatest count
abbrev pub cut_length : {X : Type 0} → List X → ℕ
cut_length xs = min (length xs) count_cap

-- whether there is an item
abbrev pub has_item : {X : Type 0} → List X → Bool
has_item [] = false
has_item (x ∷ xs) = true

-- the one of a list that is chosen over all others, or none where the list is empty
abbrev pub chosen_of : {W : Type 0} → (W → W → W) → List W → Option W
chosen_of choose [] = None
chosen_of choose (w ∷ ws) = chosen choose (Some w) (chosen_of choose ws)

-- the greatest of a list, or none where it is empty
abbrev pub greatest : List ℤ → Option ℤ
greatest weights = chosen_of int_max weights

-- the least of a list, or none where it is empty
abbrev pub least : List ℤ → Option ℤ
least weights = chosen_of int_min weights

-- the greatest of a list of three numbers each, or none where it is empty
abbrev pub greatest_lex : List Lex → Option Lex
greatest_lex weights = chosen_of (greater_by lex_order) weights

-- one of the list, up to which all of them are; or none, where the list is empty
abbrev pub IsFurthest : {W : Type 0} → (W → W → Type 0) → List W → Option W → Type 0
IsFurthest up_to ws None = ws ≡ []
IsFurthest up_to ws (Some w) = IsIn w ws × AllElements (λ u. up_to u w) (λ u. u) ws

-- the sum in each kit is its aggregate

abbrev pub SumCounts : Type 0
SumCounts = (weight : Mark → ℤ) (cs : List (List Mark))
    → sum_over count count_of_mark weight cs ≡ cut_length cs

abbrev pub SumTells : Type 0
SumTells = (weight : Mark → ℤ) (cs : List (List Mark))
    → sum_over truth truth_of_mark weight cs ≡ has_item cs

abbrev pub SumIsGreatest : Type 0
SumIsGreatest = (weight : Mark → ℤ) (cs : List (List Mark))
    → sum_over max_plus (λ mark weight. Some weight) weight cs ≡ greatest (map (total_weight weight) cs)

abbrev pub SumIsLeast : Type 0
SumIsLeast = (weight : Mark → ℤ) (cs : List (List Mark))
    → sum_over min_plus (λ mark weight. Some weight) weight cs ≡ least (map (total_weight weight) cs)

abbrev pub SumIsGreatestLex : Type 0
SumIsGreatestLex = (weight : Mark → Lex) (cs : List (List Mark))
    → sum_over rank_plus (λ mark weight. Some weight) weight cs ≡ greatest_lex (map (total_by lexes weight) cs)

-- greatest and least are what they are called

abbrev pub GreatestIsUpper : Type 0
GreatestIsUpper = (weights : List ℤ) → IsFurthest (λ u w. u ≤ℤ w) weights (greatest weights)

abbrev pub LeastIsLower : Type 0
LeastIsLower = (weights : List ℤ) → IsFurthest (λ u w. w ≤ℤ u) weights (least weights)

abbrev pub GreatestLexIsUpper : Type 0
GreatestLexIsUpper = (weights : List Lex)
    → IsFurthest (λ u w. is_gt (lex_order u w) ≡ false) weights (greatest_lex weights)
