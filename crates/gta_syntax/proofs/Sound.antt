-- What is read is derived: a lemma for each rule, with a line for each alternative.
use Rattle.std.proofs.Common.{ℕ, Bool, true, false, List, [], ◌∷◌, arith}
use Rattle.std.specs.Prelude.{nat_le, codes}
use Rattle.std.proofs.lemmas.Bool.Decides.{nat_tests}
use Rattle.gta_spec.specs.Symbols.{Symbol}
use Rattle.gta_spec.specs.Parts.{PickTree, Fold, Run, KindTree}
use Rattle.gta_spec.specs.Grammar.{IsWord, IsLater, IsName, IsNames, IsNum, IsItem, IsCmp, IsAtom}
use Rattle.gta_spec.specs.Grammar.{IsAnd, IsCond, IsIf, IsTerm, IsFirstTerm, IsNextTerm, IsForm, IsCase, IsNextCase}
use Rattle.gta_spec.specs.Grammar.{IsCases, IsPick, IsNextPick, IsPicks, IsCheck, IsTest, IsShape}
use Rattle.gta_spec.specs.Grammar.{IsLine, IsPart, behind}
use Rattle.gta_syntax.specs.Rules.{names_at, num_at, item_at, cmp_at}
use Rattle.gta_syntax.specs.Rules.{atom_at, and_at, cond_at, if_at, term_at, first_term_at, next_term_at, form_at}
use Rattle.gta_syntax.specs.Rules.{case_at, next_case_at, cases_at, pick_at, next_pick_at, picks_at, check_at}
use Rattle.gta_syntax.specs.Rules.{by_at, fold_at, run_at, test_at, shape_at, measure_at, table_at, times_at}
use Rattle.gta_syntax.specs.Rules.{automaton_at, step_at, named_at, test_line_at, later_line_at, line_at, part_at}
use Rattle.gta_syntax.specs.Rules.{ended_by}
use Rattle.gta_syntax.proofs.Each.{Each, done, nothing, and_then, either, then_is, list_takes}
use Rattle.gta_syntax.proofs.SoundSymbols.{only_when, word_takes, later_takes, sign_takes, digits_takes, text_takes}
use Rattle.gta_syntax.proofs.SoundSymbols.{name_takes}
use Rattle.gta_syntax.proofs.SoundGoals.{goal_takes}
use Rattle.gta_syntax.proofs.SoundKeep.{keep_takes}

names_takes : (ts : List Symbol) → Each (names_at ts) (λ xs. IsNames xs.0 ts xs.1)
names_takes ts = list_takes _ name_takes name_takes ts

num_takes : (ts : List Symbol) → Each (num_at ts) (λ z. IsNum z.0 ts z.1)
unfolding num_at
num_takes ts = either (sign_takes (codes "-") ts)
    (λ a s. and_then (digits_takes a) (λ n d. done (IsNum.minus s d)))
    (and_then (digits_takes ts) (λ n d. done (IsNum.plain d)))

item_takes : (ts : List Symbol) → Each (item_at ts) (λ x. IsItem x.0 ts x.1)
unfolding item_at
item_takes ts = and_then (name_takes ts) (λ x n. either (sign_takes (codes "=") x.1)
    (λ a s. and_then (text_takes a) (λ t d. done (IsItem.headed n s d)))
    (done (IsItem.bare n)))

cmp_takes : (ts : List Symbol) → Each (cmp_at ts) (λ c. IsCmp c.0 ts c.1)
unfolding cmp_at
cmp_takes ts = either (sign_takes (codes "<=") ts) (λ a s. done (IsCmp.at_most s))
    (either (sign_takes (codes ">=") ts) (λ a s. done (IsCmp.at_least s))
    (and_then (sign_takes (codes "=") ts) (λ a s. done (IsCmp.equal s))))

atom_takes : (ts : List Symbol) → Each (atom_at ts) (λ x. IsAtom x.0 ts x.1)
unfolding atom_at
atom_takes ts = either (word_takes (codes "label") ts)
    (λ a w. and_then (name_takes a) (λ x n. done (IsAtom.label w n)))
    (and_then (name_takes ts)
    (λ x n. and_then (cmp_takes x.1) (λ c k. and_then (num_takes c.1) (λ z d. done (IsAtom.column n k d)))))

and_takes : (ts : List Symbol) → Each (and_at ts) (λ x. IsAnd x.0 ts x.1)
unfolding and_at
and_takes ts = and_then (word_takes (codes "and") ts) (λ a w. then_is (atom_takes a) (λ x d. behind w d))

cond_takes : (ts : List Symbol) → Each (cond_at ts) (λ xs. IsCond xs.0 ts xs.1)
cond_takes ts = list_takes _ atom_takes and_takes ts

if_takes : (ts : List Symbol) → Each (if_at ts) (λ xs. IsIf xs.0 ts xs.1)
unfolding if_at
if_takes ts = either (word_takes (codes "if") ts) (λ a w. then_is (cond_takes a) (λ xs d. IsIf.given w d))
    (done IsIf.always)

term_takes : (minus : Bool) (ts : List Symbol) → Each (term_at minus ts) (λ x. IsTerm minus x.0 ts x.1)
unfolding term_at
term_takes minus ts = either (digits_takes ts)
    (λ n d. either (sign_takes (codes "*") n.1)
    (λ a s. and_then (name_takes a) (λ x m. done (IsTerm.multiple d s m)))
    (done (IsTerm.constant d)))
    (and_then (name_takes ts) (λ x m. done (IsTerm.column m)))

first_term_takes : (ts : List Symbol) → Each (first_term_at ts) (λ x. IsFirstTerm x.0 ts x.1)
unfolding first_term_at
first_term_takes ts = either (sign_takes (codes "-") ts)
    (λ a s. then_is (term_takes true a) (λ x d. IsFirstTerm.minus s d))
    (then_is (term_takes false ts) (λ x d. IsFirstTerm.plain d))

next_term_takes : (ts : List Symbol) → Each (next_term_at ts) (λ x. IsNextTerm x.0 ts x.1)
unfolding next_term_at
next_term_takes ts = either (sign_takes (codes "+") ts)
    (λ a s. then_is (term_takes false a) (λ x d. IsNextTerm.plus s d))
    (and_then (sign_takes (codes "-") ts) (λ a s. then_is (term_takes true a) (λ x d. IsNextTerm.minus s d)))

form_takes : (ts : List Symbol) → Each (form_at ts) (λ xs. IsForm xs.0 ts xs.1)
form_takes ts = list_takes _ first_term_takes next_term_takes ts

case_takes : (ts : List Symbol) → Each (case_at ts) (λ x. IsCase x.0 ts x.1)
unfolding case_at
case_takes ts = and_then (form_takes ts) (λ xs f. and_then (if_takes xs.1) (λ ys d. done (IsCase.case f d)))

next_case_takes : (ts : List Symbol) → Each (next_case_at ts) (λ x. IsNextCase x.0 ts x.1)
unfolding next_case_at
next_case_takes ts = and_then (sign_takes (codes ";") ts) (λ a s. then_is (case_takes a) (λ x d. behind s d))

cases_takes : (ts : List Symbol) → Each (cases_at ts) (λ xs. IsCases xs.0 ts xs.1)
cases_takes ts = list_takes _ case_takes next_case_takes ts

pick_takes : (ts : List Symbol) → Each (pick_at ts) (λ x. IsPick x.0 ts x.1)
unfolding pick_at
pick_takes ts = and_then (name_takes ts) (λ x n. and_then (if_takes x.1) (λ ys d. done (IsPick.pick n d)))

next_pick_takes : (ts : List Symbol) → Each (next_pick_at ts) (λ x. IsNextPick x.0 ts x.1)
unfolding next_pick_at
next_pick_takes ts = and_then (sign_takes (codes ";") ts) (λ a s. then_is (pick_takes a) (λ x d. behind s d))

picks_takes : (ts : List Symbol) → Each (picks_at ts) (λ xs. IsPicks xs.0 ts xs.1)
picks_takes ts = list_takes _ pick_takes next_pick_takes ts

check_takes : (ts : List Symbol) → Each (check_at ts) (λ x. IsCheck x.0 ts x.1)
unfolding check_at
check_takes ts = either (word_takes (codes "mod") ts)
    (λ a w. and_then (digits_takes a)
    (λ m d. and_then (sign_takes (codes "=") m.1)
    (λ b s. and_then (digits_takes b) (λ r e. done (IsCheck.modulo w d s e)))))
    (and_then (cmp_takes ts) (λ c k. and_then (num_takes c.1) (λ z d. done (IsCheck.compare k d))))

-- "by" picks "accept" NAME { NAME }
data IsBy : List PickTree → List (List ℕ) → List Symbol → List Symbol → Type 0 where
  by : {ps : List PickTree} {es : List (List ℕ)} {ts a b c rest : List Symbol} → IsWord (codes "by") ts a
      → IsPicks ps a b → IsWord (codes "accept") b c → IsNames es c rest → IsBy ps es ts rest

by_takes : (ts : List Symbol) → Each (by_at ts) (λ x. IsBy x.0.0 x.0.1 ts x.1)
unfolding by_at
by_takes ts = and_then (word_takes (codes "by") ts)
    (λ a w. and_then (picks_takes a) (λ ps p. and_then (word_takes (codes "accept") ps.1)
    (λ b v. and_then (names_takes b) (λ es e. done (IsBy.by w p v e)))))

fold_is : {x : List ℕ} {ps : List PickTree} {es : List (List ℕ)} {ts a b rest : List Symbol}
    → IsWord (codes "fold") ts a → IsName x a b → IsBy ps es b rest → IsTest (Fold x ps es) ts rest
fold_is f n (IsBy.by w p v e) = IsTest.fold f n w p v e

fold_takes : (ts : List Symbol)
    → Each (fold_at ts) (λ x. (a : List Symbol) → IsWord (codes "fold") a ts → IsTest x.0 a x.1)
unfolding fold_at
fold_takes ts = and_then (name_takes ts)
    (λ x n. and_then (by_takes x.1) (λ y d. done (λ a f. fold_is f n d)))

run_is : {x : List ℕ} {ps : List PickTree} {es : List (List ℕ)} {ts a b rest : List Symbol}
    → IsLater (codes "run") ts a → IsName x a b → IsBy ps es b rest → IsTest (Run x ps es) ts rest
run_is r n (IsBy.by w p v e) = IsTest.run r n w p v e

run_takes : (ts : List Symbol)
    → Each (run_at ts) (λ x. (a : List Symbol) → IsLater (codes "run") a ts → IsTest x.0 a x.1)
unfolding run_at
run_takes ts = and_then (name_takes ts)
    (λ x n. and_then (by_takes x.1) (λ y d. done (λ a r. run_is r n d)))

test_takes : (ts : List Symbol) → Each (test_at ts) (λ x. IsTest x.0 ts x.1)
unfolding test_at
test_takes ts = either (word_takes (codes "sum") ts)
    (λ a w. and_then (name_takes a) (λ x n. and_then (check_takes x.1) (λ k d. done (IsTest.sum w n d))))
    (either (word_takes (codes "length") ts)
    (λ a w. and_then (check_takes a) (λ k d. done (IsTest.length w d)))
    (either (later_takes (codes "run") ts) (λ a w. then_is (run_takes a) (λ x d. d ts w))
    (and_then (word_takes (codes "fold") ts) (λ a w. then_is (fold_takes a) (λ x d. d ts w)))))

shape_takes : (ts : List Symbol) → Each (shape_at ts) (λ x. IsShape x.0 ts x.1)
unfolding shape_at
shape_takes ts = either (word_takes (codes "sublists") ts) (λ a w. done (IsShape.sublists w))
    (either (word_takes (codes "segments") ts) (λ a w. done (IsShape.segments w))
    (either (word_takes (codes "prefixes") ts) (λ a w. done (IsShape.prefixes w))
    (either (word_takes (codes "suffixes") ts) (λ a w. done (IsShape.suffixes w))
    (and_then (word_takes (codes "assign") ts) (λ a w. done (IsShape.assign w))))))

measure_takes : (version : ℕ) (ts : List Symbol)
    → Each (measure_at ts) (λ x. (a : List Symbol) → IsWord (codes "measure") a ts → IsLine version x.0 a x.1)
unfolding measure_at
measure_takes version ts = and_then (name_takes ts)
    (λ x n. and_then (sign_takes (codes "=") x.1)
    (λ a s. and_then (cases_takes a) (λ ks k. done (λ t w. IsLine.measure w n s k))))

table_takes : (version : ℕ) (ts : List Symbol)
    → Each (table_at ts) (λ x. (a : List Symbol) → IsWord (codes "table") a ts → IsLine version x.0 a x.1)
unfolding table_at
table_takes version ts = and_then (name_takes ts)
    (λ x n. and_then (word_takes (codes "unit") x.1) (λ a u. and_then (name_takes a) (λ y m.
    and_then (word_takes (codes "elements") y.1)
    (λ b v. and_then (names_takes b) (λ es e. done (λ t w. IsLine.table w n u m v e))))))

times_takes : (version : ℕ) (ts : List Symbol)
    → Each (times_at ts) (λ x. (a : List Symbol) → IsWord (codes "times") a ts → IsLine version x.0 a x.1)
unfolding times_at
times_takes version ts = and_then (name_takes ts)
    (λ x n. and_then (name_takes x.1) (λ y m. and_then (sign_takes (codes "=") y.1) (λ a s.
    and_then (names_takes a) (λ ps p. done (λ t w. IsLine.times w n m s p)))))

automaton_takes : (version : ℕ) (ts : List Symbol) → Each (automaton_at ts)
    (λ x. (a : List Symbol) → IsLater (codes "automaton") a ts → IsLine version x.0 a x.1)
unfolding automaton_at
automaton_takes version ts = and_then (name_takes ts)
    (λ x n. and_then (later_takes (codes "states") x.1) (λ a v. and_then (names_takes a) (λ ps p.
    and_then (later_takes (codes "start") ps.1) (λ b u. and_then (name_takes b) (λ s m.
    and_then (later_takes (codes "letters") s.1)
    (λ c l. and_then (names_takes c) (λ ls q. done (λ t w. IsLine.automaton w n v p u m l q))))))))

step_takes : (version : ℕ) (ts : List Symbol)
    → Each (step_at ts) (λ x. (a : List Symbol) → IsLater (codes "step") a ts → IsLine version x.0 a x.1)
unfolding step_at
step_takes version ts = and_then (name_takes ts)
    (λ x n. and_then (name_takes x.1) (λ y m. and_then (sign_takes (codes "=") y.1) (λ a s.
    and_then (names_takes a) (λ ps p. done (λ t w. IsLine.step w n m s p)))))

named_takes : (version : ℕ) (x : List ℕ) (ts : List Symbol) → Each (named_at version x ts)
    (λ y. (a b : List Symbol) → IsWord (codes "test") a b → IsName x b ts → IsLine version y.0 a y.1)
unfolding named_at
named_takes version x ts = only_when (nat_le 2 version)
    (λ e. and_then (sign_takes (codes "=") ts)
    (λ a s. and_then (test_takes a) (λ t d. done (λ b c w n. IsLine.named (grind (arith, nat_tests)) w n s d))))

test_line_takes : (version : ℕ) (ts : List Symbol) → Each (test_line_at version ts)
    (λ x. (a : List Symbol) → IsWord (codes "test") a ts → IsLine version x.0 a x.1)
unfolding test_line_at
test_line_takes version ts = either (name_takes ts)
    (λ x n. then_is (named_takes version x.0 x.1) (λ y d a w. d a ts w n))
    (and_then (test_takes ts) (λ t d. done (λ a w. IsLine.test w d)))

later_line_takes : (version : ℕ) (ts : List Symbol) → Each (later_line_at ts) (λ x. IsLine version x.0 ts x.1)
unfolding later_line_at
later_line_takes version ts = either (later_takes (codes "keep") ts)
    (λ a w. and_then (keep_takes a) (λ x d. done (IsLine.keep w d)))
    (either (later_takes (codes "automaton") ts) (λ a w. then_is (automaton_takes version a) (λ x d. d ts w))
    (and_then (later_takes (codes "step") ts) (λ a w. then_is (step_takes version a) (λ x d. d ts w))))

line_takes : (version : ℕ) (ts : List Symbol) → Each (line_at version ts) (λ x. IsLine version x.0 ts x.1)
unfolding line_at
line_takes version ts = either (word_takes (codes "columns") ts)
    (λ a w. and_then (list_takes _ item_takes item_takes a) (λ xs d. done (IsLine.columns w d)))
    (either (word_takes (codes "labels") ts) (λ a w. and_then (names_takes a) (λ xs d. done (IsLine.labels w d)))
    (either (word_takes (codes "measure") ts) (λ a w. then_is (measure_takes version a) (λ x d. d ts w))
    (either (word_takes (codes "table") ts) (λ a w. then_is (table_takes version a) (λ x d. d ts w))
    (either (word_takes (codes "times") ts) (λ a w. then_is (times_takes version a) (λ x d. d ts w))
    (either (word_takes (codes "generate") ts) (λ a w. and_then (shape_takes a) (λ s d. done (IsLine.generate w d)))
    (either (word_takes (codes "test") ts) (λ a w. then_is (test_line_takes version a) (λ x d. d ts w))
    (either (word_takes (codes "aggregate") ts) (λ a w. and_then (goal_takes a) (λ x d. done (IsLine.aggregate w d)))
    (later_line_takes version ts))))))))

ended_takes : (version : ℕ) (x : KindTree) (ts rest : List Symbol) → IsLine version x ts rest
    → Each (ended_by x rest) (λ y. IsPart version y ts)
ended_takes version x ts [] d = done d
ended_takes version x ts (t ∷ more) d = nothing

pub part_takes : (version : ℕ) (ts : List Symbol) → Each (part_at version ts) (λ x. IsPart version x ts)
unfolding part_at
part_takes version ts = and_then (line_takes version ts) (λ x d. ended_takes version x.0 ts x.1 d)
