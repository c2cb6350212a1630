-- Each kind of test keeps the law, where no compared sum has a negative value.
use Rattle.std.proofs.Common.{◌≡◌, ℕ, ◌+◌, ◌<◌, pos, ◌≤ℤ◌, Bool, List, [], ◌∷◌, length, All, None, ap, ◌∙◌, arith}
use Rattle.std.proofs.lemmas.Int.{ints}
use Rattle.std.proofs.lemmas.List.Elements.{All-head, All-tail, All-cons}
use Rattle.shape_gen.specs.declared.mark.Mark.{Mark}
use Rattle.gta_spec.specs.declared.parts.Check.{Check}
use Rattle.gta_spec.specs.declared.parts.Check.TheVariants.{Compare, Mod}
use Rattle.gta_checked.specs.PlainRows.{PlainRows}
use Rattle.gta_checked.specs.Plain.{PlainTest, Sum, Length, Fold, Run, PlainChecked}
use Rattle.gta_checked.specs.Tables.{automaton_at, no_automaton, table_at, no_table}
use Rattle.gta_checked.specs.Within.{IsCheckWithin, IsTestWithin, IsWithinLimits}
use Rattle.gta_meaning.specs.InRange.{label_count}
use Rattle.gta_meaning.specs.Tests.{meets, passes_test}
use Rattle.test_homs.specs.declared.added.Added.{Added}
use Rattle.test_homs.specs.declared.added.Added.TheVariants.{Measure, One}
use Rattle.test_homs.specs.Added.{added_at}
use Rattle.test_homs.specs.Hom.{Hom, IsHomOf}
use Rattle.test_homs.specs.Kinds.{hom_of, hom_of_check}
use Rattle.test_homs.specs.Negatives.{negative_of_test, negative_from, first_negative}
use Rattle.test_homs.proofs.AddedTotal.{added_total, added_total-one}
use Rattle.test_homs.proofs.ComparedLaw.{compared-IsHomOf}
use Rattle.test_homs.proofs.Firsts.{natural-values, negative_from-cons_none}
use Rattle.test_homs.proofs.FoldLaw.{fold_in-IsHomOf}
use Rattle.test_homs.proofs.RemainderLaw.{remainder-IsHomOf}
use Rattle.test_homs.proofs.RunLaw.{run_of-IsHomOf}

-- the same candidates pass
IsHomOf-same : (rows : PlainRows) (labels : ℕ) (passes others : List Mark → Bool) (hom : Hom)
    → ((marks : List Mark) → passes marks ≡ others marks) → IsHomOf rows labels passes hom
    → IsHomOf rows labels others hom
IsHomOf-same rows labels passes others hom same law = record {
  monoid = law.monoid;
  letters = law.letters;
  decides = λ marks in_range. law.decides marks in_range ∙ same marks;
}

module _ (checked : PlainChecked) (rows : PlainRows) (within : IsWithinLimits checked) where
  abbrev AreNatural : Check → Added → Type 0
  AreNatural (Compare cmp number) added =
      (row label : ℕ) → row < rows.count → label < label_count checked → pos 0 ≤ℤ added_at checked rows added row label
  AreNatural (Mod modulus residue) added = Unit {0}

  hom_of_check-IsHomOf : (added : Added) (check : Check) → IsCheckWithin check → AreNatural check added
      → IsHomOf rows (label_count checked) (λ marks. meets check (added_total checked rows added marks))
      (hom_of_check checked added check)
  hom_of_check-IsHomOf added (Compare cmp number) check_within natural =
      compared-IsHomOf checked rows (label_count checked) added cmp number check_within.0 natural
  hom_of_check-IsHomOf added (Mod modulus residue) check_within natural =
      remainder-IsHomOf checked rows (label_count checked) added modulus residue
      (let below = check_within.1 in omega arith)

  values_natural : (number measure : ℕ) (check : Check)
      → negative_of_test checked rows number (Sum measure check) ≡ None → AreNatural check (Measure measure)
  values_natural number measure (Compare cmp bound) none = natural-values checked rows number measure none
  values_natural number measure (Mod modulus residue) none = tt

  ones_natural : (check : Check) → AreNatural check One
  ones_natural (Compare cmp bound) = λ row label row_in label_in. omega (arith, ints)
  ones_natural (Mod modulus residue) = tt

  abbrev Within : PlainTest → Type 0
  Within test =
      IsTestWithin (length checked.columns) (length checked.labels) (length checked.measures) checked.tables
      checked.automata test

  abbrev IsHomFor : PlainTest → Type 0
  IsHomFor test =
      IsHomOf rows (label_count checked) (λ marks. passes_test checked rows marks test) (hom_of checked test)

  hom_of-IsHomOf : (number : ℕ) (test : PlainTest) → Within test → negative_of_test checked rows number test ≡ None
      → IsHomFor test
  hom_of-IsHomOf number (Sum measure check) test_within none =
      hom_of_check-IsHomOf (Measure measure) check test_within.1 (values_natural number measure check none)
  hom_of-IsHomOf number (Length check) test_within none =
      IsHomOf-same rows (label_count checked) _ _ _ (λ marks. ap (meets check) (added_total-one checked rows marks))
      (hom_of_check-IsHomOf One check test_within (ones_natural check))
  hom_of-IsHomOf number (Fold table picks accept) test_within none =
      fold_in-IsHomOf rows (length checked.columns) (length checked.labels) (label_count checked)
      (table_at checked.tables table).products picks accept (within.tables table no_table test_within.declared).lawful
      test_within.each_pick
  hom_of-IsHomOf number (Run automaton picks accept) test_within none =
      let automaton_within = within.automata automaton no_automaton test_within.declared in
      run_of-IsHomOf rows (length checked.columns) (length checked.labels) (automaton_at checked.automata automaton)
      picks automaton_within.is_auto automaton_within.few test_within.each_pick (label_count checked) accept

  homs-from : (tests : List PlainTest) (number : ℕ) → All Within tests → negative_from checked rows number tests ≡ None
      → All IsHomFor tests
  homs-from [] number all none = λ k test below. absurd (omega arith)
  homs-from (t ∷ ts) number all none =
      let both = negative_from-cons_none checked rows t ts number none in
      All-cons IsHomFor t ts (hom_of-IsHomOf number t (All-head Within t ts all) both.0)
      (homs-from ts (number + 1) (All-tail Within t ts all) both.1)

  pub homs_of-AreHoms : first_negative checked rows ≡ None → All IsHomFor checked.tests
  homs_of-AreHoms none = homs-from checked.tests 0 within.tests none
