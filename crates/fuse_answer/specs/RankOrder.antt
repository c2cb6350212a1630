-- The weight of a candidate by ranks is its totals as they are compared, and weights compare as ranks do.
use Rattle.std.proofs.Common.{◌≡◌, ℕ, ◌≤◌, ◌<◌, ℤ, pos, ◌+ℤ◌, unsigned_abs, Bool, true, false, List, [], ◌∷◌}
use Rattle.std.proofs.Common.{map, get_or, Option, Some, None, inl, inr, refl, sym, ap, ◌∙◌, arith}
use Rattle.std.specs.Ordering.{int_cmp, ordering_then}
use Rattle.std.specs.declared.cmp.Ordering.{Ordering}
use Rattle.std.specs.declared.cmp.Ordering.TheVariants.{Less, Equal, Greater}
use Rattle.std.proofs.lemmas.Bool.Decides.{nat_tests}
use Rattle.std.proofs.lemmas.Int.{ints}
use Rattle.shape_gen.specs.declared.mark.Mark.{Mark}
use Rattle.semiring_kit.specs.declared.weight.Lex.{Lex}
use Rattle.semiring_kit.specs.Aggregates.{total_by}
use Rattle.semiring_kit.specs.Lex.{lex_order, lex_plus, lex_reach, lexes}
use Rattle.witness_order.specs.Before.{better}
use Rattle.gta_checked.specs.PlainRows.{PlainRows}
use Rattle.gta_checked.specs.Plain.{PlainChecked}
use Rattle.gta_checked.specs.declared.resolved.Rank.{Rank}
use Rattle.gta_meaning.specs.Heavy.{rank_measures, row_weight}
use Rattle.gta_meaning.specs.InRange.{label_count}
use Rattle.gta_meaning.specs.Ranks.{rank_order, totals_by}
use Rattle.gta_meaning.specs.Values.{total}
use Rattle.monoid_kit.specs.Items.{IsIn}
use Rattle.fuse_answer.specs.declared.ranks.Ranks.{Ranks}
use Rattle.fuse_answer.specs.Ranks.{third_of, list_of, signed, signed_third, signed_lex, lex_of, ranks_weight}
use Rattle.fuse_answer.specs.Weighed.{value_at}
use Rattle.fuse_answer.specs.WeightLaws.{value-within}

abbrev lex : ℤ → ℤ → ℤ → Lex
lex a b c = record { first = a; second = b; third = c }

same : (a b c d e f : ℤ) → a ≡ d → b ≡ e → c ≡ f → lex a b c ≡ lex d e f
same a b c d e f first second third =
    ap (λ n. lex n b c) first ∙ ap (λ n. lex d n c) second ∙ ap (lex d e) third

-- one number

signed-nothing : (greatest : Bool) → pos 0 ≡ signed greatest (pos 0)
signed-nothing true = refl
signed-nothing false = refl

signed-plus : (greatest : Bool) (a b : ℤ) → signed greatest a +ℤ signed greatest b ≡ signed greatest (a +ℤ b)
signed-plus true a b = refl
signed-plus false a b = omega (arith, ints)

signed-twice : (greatest : Bool) (a : ℤ) → signed greatest (signed greatest a) ≡ a
signed-twice true a = refl
signed-twice false a = omega (arith, ints)

signed-reach : (greatest : Bool) (a : ℤ) → unsigned_abs (signed greatest a) ≡ unsigned_abs a
signed-reach true a = refl
signed-reach false a = omega (arith, ints)

signed-order : (greatest : Bool) (a b : ℤ) → int_cmp (signed greatest b) (signed greatest a) ≡ better greatest a b
signed-order true a b = refl
signed-order false a b = grind (arith, ints, nat_tests)

-- the third number, which may be missing

abbrev third_by : Option Rank → (Rank → ℤ) → ℤ
third_by third f = signed_third third (get_or (map f (third_of third)) 0 (pos 0))

third-nothing : (third : Option Rank) → pos 0 ≡ third_by third (λ rank. pos 0)
third-nothing None = refl
third-nothing (Some rank) = signed-nothing rank.greatest

third-plus : (third : Option Rank) (f g : Rank → ℤ)
    → third_by third f +ℤ third_by third g ≡ third_by third (λ rank. f rank +ℤ g rank)
third-plus None f g = refl
third-plus (Some rank) f g = signed-plus rank.greatest (f rank) (g rank)

third-twice : (third : Option Rank) (a : ℤ) → signed_third third (signed_third third a) ≡ a
third-twice None a = refl
third-twice (Some rank) a = signed-twice rank.greatest a

then-equal : (o : Ordering) → o ≡ ordering_then o Equal
then-equal Less = refl
then-equal Equal = refl
then-equal Greater = refl

third-order : (third : Option Rank) (checked : PlainChecked) (rows : PlainRows) (c d : List Mark)
    → int_cmp (third_by third (λ rank. total checked rows rank.measure d))
    (third_by third (λ rank. total checked rows rank.measure c))
    ≡ rank_order checked rows (third_of third) c d
third-order None checked rows c d = refl
third-order (Some rank) checked rows c d =
    let t = λ (c : List Mark). total checked rows rank.measure c in
    signed-order rank.greatest (t c) (t d) ∙ then-equal (better rank.greatest (t c) (t d))

-- all of them

pub lex-twice : (ranks : Ranks) (a : Lex) → signed_lex ranks (signed_lex ranks a) ≡ a
lex-twice ranks a =
    let back = signed_lex ranks (signed_lex ranks a) in
    same back.first back.second back.third a.first a.second a.third
    (signed-twice ranks.first.greatest a.first) (signed-twice ranks.second.greatest a.second)
    (third-twice ranks.third a.third)

module _ (ranks : Ranks) (checked : PlainChecked) (rows : PlainRows) where
  -- the totals of a candidate, as they are compared
  abbrev pub compared : List Mark → Lex
  compared c = signed_lex ranks (lex_of (totals_by checked rows (list_of ranks) c))

  pub weight-totals : (c : List Mark) → total_by lexes (ranks_weight ranks checked rows) c ≡ compared c
  weight-totals [] =
      let none = compared [] in
      same (pos 0) (pos 0) (pos 0) none.first none.second none.third
      (signed-nothing ranks.first.greatest) (signed-nothing ranks.second.greatest) (third-nothing ranks.third)
  weight-totals (m ∷ c) =
      let here = ranks_weight ranks checked rows m in
      let rest = compared c in
      let both = compared (m ∷ c) in
      let value = λ (rank : Rank). value_at checked rows rank.measure m in
      let total_of = λ (rank : Rank). total checked rows rank.measure c in
      ap (lex_plus here) (weight-totals c)
      ∙ same (here.first +ℤ rest.first) (here.second +ℤ rest.second) (here.third +ℤ rest.third)
      both.first both.second both.third
      (signed-plus ranks.first.greatest (value ranks.first) (total_of ranks.first))
      (signed-plus ranks.second.greatest (value ranks.second) (total_of ranks.second))
      (third-plus ranks.third value total_of)

  -- and back, as they are printed
  pub printed-totals : (c : List Mark)
      → signed_lex ranks (total_by lexes (ranks_weight ranks checked rows) c)
      ≡ lex_of (totals_by checked rows (list_of ranks) c)
  printed-totals c =
      ap (signed_lex ranks) (weight-totals c) ∙ lex-twice ranks (lex_of (totals_by checked rows (list_of ranks) c))

  -- the greater weight is that of the better totals
  pub order-is : (c d : List Mark)
      → lex_order (compared d) (compared c) ≡ rank_order checked rows (list_of ranks) c d
  order-is c d =
      let t = λ (rank : Rank) (c : List Mark). total checked rows rank.measure c in
      let first = signed-order ranks.first.greatest (t ranks.first c) (t ranks.first d) in
      let second = signed-order ranks.second.greatest (t ranks.second c) (t ranks.second d) in
      let third = third-order ranks.third checked rows c d in
      ap (λ o. ordering_then o (ordering_then (int_cmp (compared d).second (compared c).second)
      (int_cmp (compared d).third (compared c).third))) first
      ∙ ap (λ o. ordering_then (better ranks.first.greatest (t ranks.first c) (t ranks.first d))
      (ordering_then o (int_cmp (compared d).third (compared c).third))) second
      ∙ ap (λ o. ordering_then (better ranks.first.greatest (t ranks.first c) (t ranks.first d))
      (ordering_then (better ranks.second.greatest (t ranks.second c) (t ranks.second d)) o)) third

  third-within : (third : Option Rank) (m : Mark) (bound : ℕ)
      → ((rank : Rank) → third ≡ Some rank → unsigned_abs (value_at checked rows rank.measure m) ≤ bound)
      → unsigned_abs (third_by third (λ rank. value_at checked rows rank.measure m)) ≤ bound
  third-within None m bound within = omega arith
  third-within (Some rank) m bound within =
      let near = within rank refl in
      let far = signed-reach rank.greatest (value_at checked rows rank.measure m) in
      omega (arith, near, far)

  third-in : (third : Option Rank) (rank : Rank) → third ≡ Some rank → IsIn rank.measure (rank_measures (third_of third))
  third-in None rank is = cc
  third-in (Some other) rank is = inl (sym (ap (λ r. third_measure r) is))
    where
      third_measure : Option Rank → ℕ
      third_measure None = 0
      third_measure (Some rank) = rank.measure

  -- a weight reaches no further than its row weighs
  pub ranks-within : (measures : List ℕ) (m : Mark)
      → ((measure : ℕ) → IsIn measure (rank_measures (list_of ranks)) → IsIn measure measures)
      → m.label < label_count checked
      → lex_reach (ranks_weight ranks checked rows m) ≤ row_weight checked rows measures m.row
  ranks-within measures m weighed below =
      let near = λ (measure : ℕ) (measure_in : IsIn measure (rank_measures (list_of ranks))).
      value-within checked rows measures measure m (weighed measure measure_in) below in
      let first = near ranks.first.measure (inl refl) in
      let second = near ranks.second.measure (inr (inl refl)) in
      let first_far = signed-reach ranks.first.greatest (value_at checked rows ranks.first.measure m) in
      let second_far = signed-reach ranks.second.greatest (value_at checked rows ranks.second.measure m) in
      let third = third-within ranks.third m (row_weight checked rows measures m.row)
      (λ rank is. near rank.measure (inr (inr (third-in ranks.third rank is)))) in
      omega (arith, first, second, first_far, second_far, third)
