-- What a line of well spelled symbols says is well formed: a lemma for each rule, with a line for each alternative.
use Rattle.std.proofs.Common.{◌≡◌, ℕ, zero, suc, ◌≤◌, Bool, List, length, refl, arith}
use Rattle.std.specs.Prelude.{ℤ, pos, neg_ℤ, nat_abs, codes}
use Rattle.gta_spec.specs.declared.parts.ColumnItem.{ColumnItem}
use Rattle.gta_spec.specs.declared.parts.TermPart.{TermPart}
use Rattle.gta_spec.specs.declared.parts.AtomPart.{AtomPart}
use Rattle.gta_spec.specs.declared.parts.Check.{Check}
use Rattle.gta_spec.specs.declared.parts.Cmp.{Cmp}
use Rattle.gta_spec.specs.declared.parts.GoalPart.{GoalPart}
use Rattle.gta_spec.specs.Symbols.{Symbol}
use Rattle.gta_spec.specs.Parts.{CaseTree, PickTree, TestTree, KindTree}
use Rattle.gta_spec.specs.Grammar.{IsNames, IsNum, IsItem, IsCmp, IsAtom, IsAnd, IsIf}
use Rattle.gta_spec.specs.Grammar.{IsTerm, IsFirstTerm, IsNextTerm, IsCase, IsNextCase, IsPick, IsNextPick, IsCheck}
use Rattle.gta_spec.specs.Grammar.{IsTest, IsEnd, IsGoal, IsLine, none, some, Listed, listed, behind}
use Rattle.gta_spec.specs.WellFormed.{FitsName, FitsNum, EachFits, SomeFit, FitsItem, FitsAtom, FitsTerm, FitsCase}
use Rattle.gta_spec.specs.WellFormed.{FitsPick, FitsCheck, FitsTest, FitsGoal, FitsKind}
use Rattle.gta_spec.specs.declared.parts.RankPart.{RankPart}
use Rattle.gta_spec.specs.Grammar.{some, IsFirstRank, IsNextRank, IsRanks}
use Rattle.gta_spec.specs.WellFormed.{FitsRank, FitRanks}
use Rattle.gta_spec.proofs.Goods.{Good, first_good, from_second, from_third, after, digits_good, text_good, listed_fits}
use Rattle.gta_spec.proofs.Goods.{named, name_fits}
use Rattle.gta_spec.proofs.Said.{keep_fits}

abs_neg : (n : ℕ) → nat_abs (neg_ℤ (pos n)) ≡ n
abs_neg zero = refl
abs_neg (suc n) = refl

module _ {version : ℕ} where
  names_fit : {xs : List (List ℕ)} {ts rest : List Symbol} → IsNames xs ts rest → Good version ts
      → SomeFit (FitsName version) xs × Good version rest
  names_fit d good = listed_fits (λ x ts a n g. name_fits n g) (λ x ts a n g. name_fits n g) d good

  item_fits : {x : ColumnItem} {ts rest : List Symbol} → IsItem x ts rest → Good version ts → FitsItem version x
      × Good version rest
  item_fits (IsItem.bare n) good = ((named n good, tt), after n.front good)
  item_fits (IsItem.headed n s t) good =
      ((named n good, text_good t (after s (after n.front good))), after t (after s (after n.front good)))

  num_fits : {z : ℤ} {ts rest : List Symbol} → IsNum z ts rest → Good version ts → FitsNum z × Good version rest
  num_fits (IsNum.plain d) good = (digits_good d good, after d good)
  num_fits (IsNum.minus {n = n} s d) good = (rw (abs_neg n) (digits_good d (after s good)), after d (after s good))

  cmp_fits : {c : Cmp} {ts rest : List Symbol} → IsCmp c ts rest → Good version ts → Good version rest
  cmp_fits (IsCmp.at_most s) good = after s good
  cmp_fits (IsCmp.at_least s) good = after s good
  cmp_fits (IsCmp.equal s) good = after s good

  atom_fits : {x : AtomPart} {ts rest : List Symbol} → IsAtom x ts rest → Good version ts → FitsAtom version x
      × Good version rest
  atom_fits (IsAtom.label w n) good = name_fits n (after w good)
  atom_fits (IsAtom.column n c z) good =
      let number = num_fits z (cmp_fits c (after n.front good)) in
      ((named n good, number.0), number.1)

  and_fits : {x : AtomPart} {ts rest : List Symbol} → IsAnd x ts rest → Good version ts → FitsAtom version x
      × Good version rest
  and_fits (behind w d) good = atom_fits d (after w good)

  if_fits : {xs : List AtomPart} {ts rest : List Symbol} → IsIf xs ts rest → Good version ts → EachFits
      (FitsAtom version) xs × Good version rest
  if_fits IsIf.always good = (tt, good)
  if_fits (IsIf.given w c) good =
      let atoms = listed_fits (λ x ts a d g. atom_fits d g) (λ x ts a d g. and_fits d g) c (after w good) in
      (atoms.0.1, atoms.1)

  term_fits : {m : Bool} {x : TermPart} {ts rest : List Symbol} → IsTerm m x ts rest → Good version ts
      → FitsTerm version x × Good version rest
  term_fits (IsTerm.constant d) good = (digits_good d good, after d good)
  term_fits (IsTerm.column n) good = name_fits n good
  term_fits (IsTerm.multiple d s n) good =
      ((digits_good d good, named n (after s (after d good))), after n.front (after s (after d good)))

  first_term_fits : {x : TermPart} {ts rest : List Symbol} → IsFirstTerm x ts rest → Good version ts
      → FitsTerm version x × Good version rest
  first_term_fits (IsFirstTerm.plain d) good = term_fits d good
  first_term_fits (IsFirstTerm.minus s d) good = term_fits d (after s good)

  next_term_fits : {x : TermPart} {ts rest : List Symbol} → IsNextTerm x ts rest → Good version ts
      → FitsTerm version x × Good version rest
  next_term_fits (IsNextTerm.plus s d) good = term_fits d (after s good)
  next_term_fits (IsNextTerm.minus s d) good = term_fits d (after s good)

  case_fits : {x : CaseTree} {ts rest : List Symbol} → IsCase x ts rest → Good version ts → FitsCase version x
      × Good version rest
  case_fits (IsCase.case f i) good =
      let form = listed_fits (λ x ts a d g. first_term_fits d g) (λ x ts a d g. next_term_fits d g) f good in
      let cond = if_fits i form.1 in
      ((form.0, cond.0), cond.1)

  next_case_fits : {x : CaseTree} {ts rest : List Symbol} → IsNextCase x ts rest → Good version ts
      → FitsCase version x × Good version rest
  next_case_fits (behind s d) good = case_fits d (after s good)

  pick_fits : {x : PickTree} {ts rest : List Symbol} → IsPick x ts rest → Good version ts → FitsPick version x
      × Good version rest
  pick_fits (IsPick.pick n i) good = let cond = if_fits i (after n.front good) in ((named n good, cond.0), cond.1)

  next_pick_fits : {x : PickTree} {ts rest : List Symbol} → IsNextPick x ts rest → Good version ts
      → FitsPick version x × Good version rest
  next_pick_fits (behind s d) good = pick_fits d (after s good)

  check_fits : {x : Check} {ts rest : List Symbol} → IsCheck x ts rest → Good version ts → FitsCheck x
      × Good version rest
  check_fits (IsCheck.compare c z) good = num_fits z (cmp_fits c good)
  check_fits (IsCheck.modulo w d s e) good = (
    (digits_good d (after w good), digits_good e (after s (after d (after w good)))),
    after e
        (after s (after d (after w good))),
  )

  test_fits : {x : TestTree} {ts rest : List Symbol} → IsTest x ts rest → Good version ts → FitsTest version x
  test_fits (IsTest.sum w n k) good = (named n (after w good), (check_fits k (after n.front (after w good))).0)
  test_fits (IsTest.length w k) good = (check_fits k (after w good)).0
  test_fits (IsTest.fold w n v p u e) good =
      let picks = listed_fits (λ x ts a d g. pick_fits d g) (λ x ts a d g. next_pick_fits d g) p
      (after v (after n.front (after w good))) in
      (named n (after w good), picks.0, (names_fit e (after u picks.1)).0)
  test_fits (IsTest.run w n v p u e) good =
      let picks = listed_fits (λ x ts a d g. pick_fits d g) (λ x ts a d g. next_pick_fits d g) p
      (after v (after n.front (after w good))) in (
        from_third version (codes "run") refl refl (first_good w good).0,
        named n (after w good),
        picks.0,
        (names_fit e (after u picks.1)).0,
      )

  end_fits : {x : Bool} {ts rest : List Symbol} → IsEnd x ts rest → Good version ts → Good version rest
  end_fits (IsEnd.greatest w) good = after w good
  end_fits (IsEnd.least w) good = after w good

  first_rank_fits : {x : RankPart} {ts rest : List Symbol} → IsFirstRank x ts rest → Good version ts
      → FitsRank version x × Good version rest
  first_rank_fits (IsFirstRank.rank e n) good =
      (named n (end_fits e good), after n.front (end_fits e good))

  next_rank_fits : {x : RankPart} {ts rest : List Symbol} → IsNextRank x ts rest → Good version ts
      → FitsRank version x × Good version rest
  next_rank_fits (behind w r) good = first_rank_fits r (after w good)

  -- the second of several ranks begins with a word that comes later
  ranks_later : {keys : List RankPart} {ts rest : List Symbol} → Listed IsFirstRank IsNextRank keys ts rest
      → 2 ≤ length keys → Good version ts → 2 ≤ version
  ranks_later (listed r none) several good = absurd (omega (arith, several))
  ranks_later (listed r (some (behind w q) ms)) several good =
      from_second version (codes "then") (first_good w (first_rank_fits r good).1).0

  ranks_fit : {keys : List RankPart} {ts rest : List Symbol} → IsRanks keys ts rest → Good version ts
      → FitRanks version keys
  ranks_fit r good = record {
    later = ranks_later r.ranks r.several good;
    names = (listed_fits (λ x ts a d g. first_rank_fits d g) (λ x ts a d g. next_rank_fits d g) r.ranks good).0.1;
    several = r.several;
    few = r.few;
  }

  goal_fits : {x : GoalPart} {ts rest : List Symbol} → IsGoal x ts rest → Good version ts → FitsGoal version x
  goal_fits (IsGoal.count w) good = tt
  goal_fits (IsGoal.any w) good = tt
  goal_fits (IsGoal.max w n) good = named n (after w good)
  goal_fits (IsGoal.min w n) good = named n (after w good)
  goal_fits (IsGoal.best w d e n) good =
      (digits_good d (after w good), named n (end_fits e (after d (after w good))))
  goal_fits (IsGoal.ranked r) good = (tt, ranks_fit r good)
  goal_fits (IsGoal.best_ranked w d r) good = (digits_good d (after w good), ranks_fit r (after d (after w good)))

  pub line_fits : {x : KindTree} {ts rest : List Symbol} → IsLine version x ts rest → Good version ts
      → FitsKind version x
  line_fits (IsLine.columns w d) good =
      (listed_fits (λ x ts a i g. item_fits i g) (λ x ts a i g. item_fits i g) d (after w good)).0
  line_fits (IsLine.labels w d) good = (names_fit d (after w good)).0
  line_fits (IsLine.measure w n s d) good = (
    named n (after w good),
    (listed_fits (λ x ts a k g. case_fits k g) (λ x ts a k g. next_case_fits k g) d
        (after s (after n.front (after w good)))).0,
  )
  line_fits (IsLine.table w n u m v d) good = (
    named n (after w good),
    named m (after u (after n.front (after w good))),
    (names_fit d (after v (after m.front (after u (after n.front (after w good)))))).0,
  )
  line_fits (IsLine.times w n m s d) good = (
    named n (after w good),
    named m (after n.front (after w good)),
    (names_fit d (after s (after m.front (after n.front (after w good))))).0,
  )
  line_fits (IsLine.automaton w n v p u s l q) good =
      let states = names_fit p (after v (after n.front (after w good))) in
      let letters = after l (after s.front (after u states.1)) in (
        from_third version (codes "automaton") refl refl (first_good w good).0,
        named n (after w good),
        states.0,
        named s (after u states.1),
        (names_fit q letters).0,
      )
  line_fits (IsLine.step w n m s d) good = (
    from_third version (codes "step") refl refl (first_good w good).0,
    named n (after w good),
    named m (after n.front (after w good)),
    (names_fit d (after s (after m.front (after n.front (after w good))))).0,
  )
  line_fits (IsLine.generate w d) good = tt
  line_fits (IsLine.test w d) good = test_fits d (after w good)
  line_fits (IsLine.named l w n s t) good =
      (l, named n (after w good), test_fits t (after s (after n.front (after w good))))
  line_fits (IsLine.keep w k) good = keep_fits w k good
  line_fits (IsLine.aggregate w d) good = goal_fits d (after w good)
