-- What is derived is read: a lemma for each rule, with a line for each alternative.
use Rattle.std.proofs.Common.{◌≡◌, ℕ, ◌≤◌, ◌<◌, Bool, true, false, List, [], length, refl, ap, ◌∙◌, arith}
use Rattle.std.specs.Prelude.{ℤ, nat_le, Some, None, codes}
use Rattle.std.proofs.lemmas.Bool.Decides.{nat_tests}
use Rattle.shape_gen.specs.declared.shape.Shape.{Shape}
use Rattle.gta_text.specs.Names.{is_reserved}
use Rattle.gta_spec.specs.declared.parts.ColumnItem.{ColumnItem}
use Rattle.gta_spec.specs.declared.parts.TermPart.{TermPart}
use Rattle.gta_spec.specs.declared.parts.AtomPart.{AtomPart}
use Rattle.gta_spec.specs.declared.parts.Cmp.{Cmp}
use Rattle.gta_spec.specs.declared.parts.Check.{Check}
use Rattle.gta_spec.specs.Symbols.{Symbol}
use Rattle.gta_spec.specs.Parts.{CaseTree, PickTree, TestTree, KindTree, Automaton, Step, Test, Named}
use Rattle.gta_spec.specs.Grammar.{IsWord, IsLater, IsSign, IsName, IsNames, IsNum, IsItem, IsCmp, IsAtom}
use Rattle.gta_spec.specs.Grammar.{IsAnd, IsCond, IsIf, IsTerm, IsFirstTerm, IsNextTerm, IsForm, IsCase, IsNextCase}
use Rattle.gta_spec.specs.Grammar.{IsCases, IsPick, IsNextPick, IsPicks, IsCheck, IsTest, IsShape}
use Rattle.gta_spec.specs.Grammar.{IsLine, IsPart, Listed, behind}
use Rattle.gta_syntax.specs.Rules.{word_at, sign_at, name_at, names_at, num_at, item_at, cmp_at}
use Rattle.gta_syntax.specs.Rules.{atom_at, and_at, cond_at, if_at, term_at, first_term_at, next_term_at, form_at}
use Rattle.gta_syntax.specs.Rules.{case_at, next_case_at, cases_at, pick_at, next_pick_at, picks_at, check_at}
use Rattle.gta_syntax.specs.Rules.{by_at, fold_at, run_at, test_at, shape_at, measure_at, table_at, times_at}
use Rattle.gta_syntax.specs.Rules.{automaton_at, step_at, named_at, test_line_at, later_line_at, line_at, part_at}
use Rattle.gta_syntax.specs.Rules.{begins_name, begins_word, begins_sign, begins_next_term, list_at}
use Rattle.gta_syntax.proofs.Again.{IsReadable, list_again, list_within}
use Rattle.gta_syntax.proofs.CompleteSymbols.{word_again, later_again, sign_again, digits_again, text_again, name_again}
use Rattle.gta_syntax.proofs.CompleteSymbols.{no_other_word, no_other_later, no_other_sign, no_word_at_sign}
use Rattle.gta_syntax.proofs.CompleteSymbols.{no_word_at_later, no_name_at_later}
use Rattle.gta_syntax.proofs.CompleteSymbols.{no_later_at_word, no_sign_at_word, no_sign_at_digits, no_sign_at_name}
use Rattle.gta_syntax.proofs.CompleteSymbols.{no_digits_at_name, no_word_at_name, no_name_at_word, name_shorter}
use Rattle.gta_syntax.proofs.CompleteSymbols.{no_name_at_end, no_sign_at_end, no_word_at_end, no_later_at_end}
use Rattle.gta_syntax.proofs.CompleteGoals.{goal_again}
use Rattle.gta_syntax.proofs.CompleteKeep.{keep_again}

-- names

names_readable : IsReadable IsName name_at begins_name (λ ts. Unit {0})
names_readable = record {
  again = λ x ts a n last. name_again n;
  begun = λ x ts a n. rw (name_again n) refl;
  goes_on = λ x ts a n. tt;
  shorter = λ x ts a n. name_shorter n;
}

names_again : {xs : List (List ℕ)} {ts rest : List Symbol} → IsNames xs ts rest → begins_name rest ≡ false
    → names_at ts ≡ Some (xs, rest)
names_again ns off = list_again names_readable (λ x ts a n last. name_again n) ns off tt

-- columns

item_again : {x : ColumnItem} {ts rest : List Symbol} → IsItem x ts rest → sign_at (codes "=") rest ≡ None
    → item_at ts ≡ Some (x, rest)
unfolding item_at
item_again (IsItem.bare n) off = rw (name_again n, off) refl
item_again (IsItem.headed n s t) off = rw (name_again n, sign_again s, text_again t) refl

item_begun : {x : ColumnItem} {ts rest : List Symbol} → IsItem x ts rest → begins_name ts ≡ true
item_begun (IsItem.bare n) = rw (name_again n) refl
item_begun (IsItem.headed n s t) = rw (name_again n) refl

item_goes_on : {x : ColumnItem} {ts rest : List Symbol} → IsItem x ts rest → sign_at (codes "=") ts ≡ None
item_goes_on (IsItem.bare n) = no_sign_at_name (codes "=") n
item_goes_on (IsItem.headed n s t) = no_sign_at_name (codes "=") n

item_shorter : {x : ColumnItem} {ts rest : List Symbol} → IsItem x ts rest → length rest < length ts
item_shorter (IsItem.bare n) = name_shorter n
item_shorter (IsItem.headed n s t) = omega (arith, ap length n.front, ap length s, ap length t)

items_readable : IsReadable IsItem item_at begins_name (λ ts. sign_at (codes "=") ts ≡ None)
items_readable = record {
  again = λ x ts a d last. item_again d last;
  begun = λ x ts a d. item_begun d;
  goes_on = λ x ts a d. item_goes_on d;
  shorter = λ x ts a d. item_shorter d;
}

items_again : {xs : List ColumnItem} {ts rest : List Symbol} → Listed IsItem IsItem xs ts rest
    → begins_name rest ≡ false → sign_at (codes "=") rest ≡ None
    → list_at item_at begins_name item_at ts ≡ Some (xs, rest)
items_again ds off last = list_again items_readable (λ x ts a d last. item_again d last) ds off last

-- conditions

num_again : {z : ℤ} {ts rest : List Symbol} → IsNum z ts rest → num_at ts ≡ Some (z, rest)
unfolding num_at
num_again (IsNum.plain d) = rw (no_sign_at_digits (codes "-") d, digits_again d) refl
num_again (IsNum.minus s d) = rw (sign_again s, digits_again d) refl

num_within : {z : ℤ} {ts rest : List Symbol} → IsNum z ts rest → length rest ≤ length ts
num_within (IsNum.plain d) = omega (arith, ap length d)
num_within (IsNum.minus s d) = omega (arith, ap length s, ap length d)

cmp_again : {c : Cmp} {ts rest : List Symbol} → IsCmp c ts rest → cmp_at ts ≡ Some (c, rest)
unfolding cmp_at
cmp_again (IsCmp.at_most s) = rw (sign_again s) refl
cmp_again (IsCmp.at_least s) = rw (no_other_sign (codes "<=") s refl, sign_again s) refl
cmp_again (IsCmp.equal s) = rw (no_other_sign (codes "<=") s refl, no_other_sign (codes ">=") s refl, sign_again s) refl

cmp_within : {c : Cmp} {ts rest : List Symbol} → IsCmp c ts rest → length rest ≤ length ts
cmp_within (IsCmp.at_most s) = omega (arith, ap length s)
cmp_within (IsCmp.at_least s) = omega (arith, ap length s)
cmp_within (IsCmp.equal s) = omega (arith, ap length s)

no_word_at_cmp : (w : List ℕ) {c : Cmp} {ts rest : List Symbol} → IsCmp c ts rest → word_at w ts ≡ None
no_word_at_cmp w (IsCmp.at_most s) = no_word_at_sign w s
no_word_at_cmp w (IsCmp.at_least s) = no_word_at_sign w s
no_word_at_cmp w (IsCmp.equal s) = no_word_at_sign w s

atom_again : {x : AtomPart} {ts rest : List Symbol} → IsAtom x ts rest → atom_at ts ≡ Some (x, rest)
unfolding atom_at is_reserved
atom_again (IsAtom.label w n) = rw (word_again w, name_again n) refl
atom_again (IsAtom.column n c z) = rw
    (no_word_at_name (codes "label") n refl, name_again n, cmp_again c, num_again z) refl

atom_within : {x : AtomPart} {ts rest : List Symbol} → IsAtom x ts rest → length rest ≤ length ts
atom_within (IsAtom.label w n) = omega (arith, ap length w, name_shorter n)
atom_within (IsAtom.column n c z) = omega (arith, name_shorter n, cmp_within c, num_within z)

and_again : {x : AtomPart} {ts rest : List Symbol} → IsAnd x ts rest → and_at ts ≡ Some (x, rest)
unfolding and_at
and_again (behind w d) = rw (word_again w, atom_again d) refl

and_begun : {x : AtomPart} {ts rest : List Symbol} → IsAnd x ts rest → begins_word (codes "and") ts ≡ true
and_begun (behind w d) = rw (word_again w) refl

and_shorter : {x : AtomPart} {ts rest : List Symbol} → IsAnd x ts rest → length rest < length ts
and_shorter (behind w d) = omega (arith, ap length w, atom_within d)

ands_readable : IsReadable IsAnd and_at (begins_word (codes "and")) (λ ts. Unit {0})
ands_readable = record {
  again = λ x ts a d last. and_again d;
  begun = λ x ts a d. and_begun d;
  goes_on = λ x ts a d. tt;
  shorter = λ x ts a d. and_shorter d;
}

-- what may follow `[ "if" cond ]`
record EndsIf (ts : List Symbol) : Type 0 where
  no_if : word_at (codes "if") ts ≡ None
  no_and : word_at (codes "and") ts ≡ None

cond_again : {xs : List AtomPart} {ts rest : List Symbol} → IsCond xs ts rest → word_at (codes "and") rest ≡ None
    → cond_at ts ≡ Some (xs, rest)
cond_again ds off = list_again ands_readable (λ x ts a d last. atom_again d) ds (rw off refl) tt

if_again : {xs : List AtomPart} {ts rest : List Symbol} → IsIf xs ts rest → EndsIf rest → if_at ts ≡ Some (xs, rest)
unfolding if_at
if_again IsIf.always ends = rw ends.no_if refl
if_again (IsIf.given w c) ends = rw (word_again w, cond_again c ends.no_and) refl

if_within : {xs : List AtomPart} {ts rest : List Symbol} → IsIf xs ts rest → length rest ≤ length ts
if_within IsIf.always = omega arith
if_within (IsIf.given w c) = omega (arith, ap length w, list_within ands_readable (λ x ts a d. atom_within d) c)

no_sign_at_if : (s : List ℕ) {xs : List AtomPart} {ts rest : List Symbol} → IsIf xs ts rest → sign_at s rest ≡ None
    → sign_at s ts ≡ None
no_sign_at_if s IsIf.always off = off
no_sign_at_if s (IsIf.given w c) off = no_sign_at_word s w

-- forms

term_again : {m : Bool} {x : TermPart} {ts rest : List Symbol} → IsTerm m x ts rest → sign_at (codes "*") rest ≡ None
    → term_at m ts ≡ Some (x, rest)
unfolding term_at
term_again (IsTerm.constant d) off = rw (digits_again d, off) refl
term_again (IsTerm.column n) off = rw (no_digits_at_name n, name_again n) refl
term_again (IsTerm.multiple d s n) off = rw (digits_again d, sign_again s, name_again n) refl

no_sign_at_term : (s : List ℕ) {m : Bool} {x : TermPart} {ts rest : List Symbol} → IsTerm m x ts rest
    → sign_at s ts ≡ None
no_sign_at_term s (IsTerm.constant d) = no_sign_at_digits s d
no_sign_at_term s (IsTerm.column n) = no_sign_at_name s n
no_sign_at_term s (IsTerm.multiple d t n) = no_sign_at_digits s d

term_within : {m : Bool} {x : TermPart} {ts rest : List Symbol} → IsTerm m x ts rest → length rest ≤ length ts
term_within (IsTerm.constant d) = omega (arith, ap length d)
term_within (IsTerm.column n) = omega (arith, name_shorter n)
term_within (IsTerm.multiple d s n) = omega (arith, ap length d, ap length s, name_shorter n)

first_term_again : {x : TermPart} {ts rest : List Symbol} → IsFirstTerm x ts rest → sign_at (codes "*") rest ≡ None
    → first_term_at ts ≡ Some (x, rest)
unfolding first_term_at
first_term_again (IsFirstTerm.plain d) off = rw (no_sign_at_term (codes "-") d, term_again d off) refl
first_term_again (IsFirstTerm.minus s d) off = rw (sign_again s, term_again d off) refl

first_term_within : {x : TermPart} {ts rest : List Symbol} → IsFirstTerm x ts rest → length rest ≤ length ts
first_term_within (IsFirstTerm.plain d) = term_within d
first_term_within (IsFirstTerm.minus s d) = omega (arith, ap length s, term_within d)

next_term_again : {x : TermPart} {ts rest : List Symbol} → IsNextTerm x ts rest → sign_at (codes "*") rest ≡ None
    → next_term_at ts ≡ Some (x, rest)
unfolding next_term_at
next_term_again (IsNextTerm.plus s d) off = rw (sign_again s, term_again d off) refl
next_term_again (IsNextTerm.minus s d) off = rw (no_other_sign (codes "+") s refl, sign_again s, term_again d off) refl

next_term_begun : {x : TermPart} {ts rest : List Symbol} → IsNextTerm x ts rest → begins_next_term ts ≡ true
next_term_begun (IsNextTerm.plus s d) = rw (sign_again s) refl
next_term_begun (IsNextTerm.minus s d) = rw (no_other_sign (codes "+") s refl, sign_again s) refl

next_term_goes_on : {x : TermPart} {ts rest : List Symbol} → IsNextTerm x ts rest → sign_at (codes "*") ts ≡ None
next_term_goes_on (IsNextTerm.plus s d) = no_other_sign (codes "*") s refl
next_term_goes_on (IsNextTerm.minus s d) = no_other_sign (codes "*") s refl

next_term_shorter : {x : TermPart} {ts rest : List Symbol} → IsNextTerm x ts rest → length rest < length ts
next_term_shorter (IsNextTerm.plus s d) = omega (arith, ap length s, term_within d)
next_term_shorter (IsNextTerm.minus s d) = omega (arith, ap length s, term_within d)

terms_readable : IsReadable IsNextTerm next_term_at begins_next_term (λ ts. sign_at (codes "*") ts ≡ None)
terms_readable = record {
  again = λ x ts a d last. next_term_again d last;
  begun = λ x ts a d. next_term_begun d;
  goes_on = λ x ts a d. next_term_goes_on d;
  shorter = λ x ts a d. next_term_shorter d;
}

form_again : {xs : List TermPart} {ts rest : List Symbol} → IsForm xs ts rest → sign_at (codes "+") rest ≡ None
    → sign_at (codes "-") rest ≡ None
    → sign_at (codes "*") rest ≡ None → form_at ts ≡ Some (xs, rest)
form_again ds no_plus no_minus no_star = list_again terms_readable (λ x ts a d last. first_term_again d last) ds
    (rw (no_plus, no_minus) refl) no_star

-- cases

-- what may follow a case
record EndsCase (ts : List Symbol) : Type 0 where
  no_plus : sign_at (codes "+") ts ≡ None
  no_minus : sign_at (codes "-") ts ≡ None
  no_star : sign_at (codes "*") ts ≡ None
  ends_if : EndsIf ts

case_again : {x : CaseTree} {ts rest : List Symbol} → IsCase x ts rest → EndsCase rest → case_at ts ≡ Some (x, rest)
unfolding case_at
case_again (IsCase.case f i) ends =
    rw (
      form_again f (no_sign_at_if (codes "+") i ends.no_plus) (no_sign_at_if (codes "-") i ends.no_minus)
          (no_sign_at_if (codes "*") i ends.no_star),
      if_again i ends.ends_if,
    ) refl

case_within : {x : CaseTree} {ts rest : List Symbol} → IsCase x ts rest → length rest ≤ length ts
case_within (IsCase.case f i) = omega
    (arith, list_within terms_readable (λ x ts a d. first_term_within d) f, if_within i)

next_case_again : {x : CaseTree} {ts rest : List Symbol} → IsNextCase x ts rest → EndsCase rest
    → next_case_at ts ≡ Some (x, rest)
unfolding next_case_at
next_case_again (behind s d) ends = rw (sign_again s, case_again d ends) refl

next_case_begun : {x : CaseTree} {ts rest : List Symbol} → IsNextCase x ts rest → begins_sign (codes ";") ts ≡ true
next_case_begun (behind s d) = rw (sign_again s) refl

next_case_goes_on : {x : CaseTree} {ts rest : List Symbol} → IsNextCase x ts rest → EndsCase ts
next_case_goes_on (behind s d) = record {
  no_plus = no_other_sign (codes "+") s refl;
  no_minus = no_other_sign (codes "-") s refl;
  no_star = no_other_sign (codes "*") s refl;
  ends_if = record { no_if = no_word_at_sign (codes "if") s; no_and = no_word_at_sign (codes "and") s };
}

next_case_shorter : {x : CaseTree} {ts rest : List Symbol} → IsNextCase x ts rest → length rest < length ts
next_case_shorter (behind s d) = omega (arith, ap length s, case_within d)

cases_readable : IsReadable IsNextCase next_case_at (begins_sign (codes ";")) EndsCase
cases_readable = record {
  again = λ x ts a d last. next_case_again d last;
  begun = λ x ts a d. next_case_begun d;
  goes_on = λ x ts a d. next_case_goes_on d;
  shorter = λ x ts a d. next_case_shorter d;
}

cases_again : {xs : List CaseTree} {ts rest : List Symbol} → IsCases xs ts rest → sign_at (codes ";") rest ≡ None
    → EndsCase rest → cases_at ts ≡ Some (xs, rest)
cases_again ds off last = list_again cases_readable (λ x ts a d last. case_again d last) ds (rw off refl) last

-- picks

pick_again : {x : PickTree} {ts rest : List Symbol} → IsPick x ts rest → EndsIf rest → pick_at ts ≡ Some (x, rest)
unfolding pick_at
pick_again (IsPick.pick n i) ends = rw (name_again n, if_again i ends) refl

next_pick_again : {x : PickTree} {ts rest : List Symbol} → IsNextPick x ts rest → EndsIf rest
    → next_pick_at ts ≡ Some (x, rest)
unfolding next_pick_at
next_pick_again (behind s d) ends = rw (sign_again s, pick_again d ends) refl

next_pick_begun : {x : PickTree} {ts rest : List Symbol} → IsNextPick x ts rest → begins_sign (codes ";") ts ≡ true
next_pick_begun (behind s d) = rw (sign_again s) refl

next_pick_goes_on : {x : PickTree} {ts rest : List Symbol} → IsNextPick x ts rest → EndsIf ts
next_pick_goes_on (behind s d) = record
    { no_if = no_word_at_sign (codes "if") s; no_and = no_word_at_sign (codes "and") s }

pick_within : {x : PickTree} {ts rest : List Symbol} → IsPick x ts rest → length rest ≤ length ts
pick_within (IsPick.pick n i) = omega (arith, name_shorter n, if_within i)

next_pick_shorter : {x : PickTree} {ts rest : List Symbol} → IsNextPick x ts rest → length rest < length ts
next_pick_shorter (behind s d) = omega (arith, ap length s, pick_within d)

picks_readable : IsReadable IsNextPick next_pick_at (begins_sign (codes ";")) EndsIf
picks_readable = record {
  again = λ x ts a d last. next_pick_again d last;
  begun = λ x ts a d. next_pick_begun d;
  goes_on = λ x ts a d. next_pick_goes_on d;
  shorter = λ x ts a d. next_pick_shorter d;
}

picks_again : {xs : List PickTree} {ts rest : List Symbol} → IsPicks xs ts rest → sign_at (codes ";") rest ≡ None
    → EndsIf rest → picks_at ts ≡ Some (xs, rest)
picks_again ds off last = list_again picks_readable (λ x ts a d last. pick_again d last) ds (rw off refl) last

-- tests

check_again : {x : Check} {ts rest : List Symbol} → IsCheck x ts rest → check_at ts ≡ Some (x, rest)
unfolding check_at
check_again (IsCheck.compare c z) = rw (no_word_at_cmp (codes "mod") c, cmp_again c, num_again z) refl
check_again (IsCheck.modulo w d s e) = rw (word_again w, digits_again d, sign_again s, digits_again e) refl

by_again : {ps : List PickTree} {es : List (List ℕ)} {ts a b c rest : List Symbol} → IsWord (codes "by") ts a
    → IsPicks ps a b → IsWord (codes "accept") b c → IsNames es c rest → begins_name rest ≡ false
    → by_at ts ≡ Some ((ps, es), rest)
unfolding by_at
by_again v p u e off =
    rw (
      word_again v,
      picks_again p (no_sign_at_word (codes ";") u)
          (record { no_if = no_other_word (codes "if") u refl; no_and = no_other_word (codes "and") u refl }),
      word_again u,
      names_again e off,
    ) refl

test_again : {x : TestTree} {ts rest : List Symbol} → IsTest x ts rest → begins_name rest ≡ false
    → test_at ts ≡ Some (x, rest)
unfolding test_at fold_at run_at
test_again (IsTest.sum w n k) off = rw (word_again w, name_again n, check_again k) refl
test_again (IsTest.length w k) off = rw (no_other_word (codes "sum") w refl, word_again w, check_again k) refl
test_again (IsTest.fold w n v p u e) off =
    rw (
      no_other_word (codes "sum") w refl,
      no_other_word (codes "length") w refl,
      no_later_at_word (codes "run") w,
      word_again w,
      name_again n,
      by_again v p u e off,
    ) refl
test_again (IsTest.run w n v p u e) off =
    rw (
      no_word_at_later (codes "sum") w,
      no_word_at_later (codes "length") w,
      later_again w,
      name_again n,
      by_again v p u e off,
    ) refl

-- shapes

shape_again : {x : Shape} {ts rest : List Symbol} → IsShape x ts rest → shape_at ts ≡ Some (x, rest)
unfolding shape_at word_at
shape_again (IsShape.sublists w) = rw w refl
shape_again (IsShape.segments w) = rw w refl
shape_again (IsShape.prefixes w) = rw w refl
shape_again (IsShape.suffixes w) = rw w refl
shape_again (IsShape.assign w) = rw w refl

-- lines

case_at_end : EndsCase []
case_at_end = record {
  no_plus = no_sign_at_end (codes "+");
  no_minus = no_sign_at_end (codes "-");
  no_star = no_sign_at_end (codes "*");
  ends_if = record { no_if = no_word_at_end (codes "if"); no_and = no_word_at_end (codes "and") };
}

no_name_at_test : {x : TestTree} {ts rest : List Symbol} → IsTest x ts rest → name_at ts ≡ None
unfolding is_reserved
no_name_at_test (IsTest.sum w n k) = no_name_at_word w refl
no_name_at_test (IsTest.length w k) = no_name_at_word w refl
no_name_at_test (IsTest.fold w n v p u e) = no_name_at_word w refl
no_name_at_test (IsTest.run w n v p u e) = no_name_at_later w

test_line_again : (version : ℕ) {x : TestTree} {ts : List Symbol} → IsTest x ts []
    → test_line_at version ts ≡ Some (Test x, [])
unfolding test_line_at
test_line_again version d = rw (no_name_at_test d, test_again d no_name_at_end) refl

named_again : {version : ℕ} {x : List ℕ} {t : TestTree} {ts a b : List Symbol} → 2 ≤ version → IsName x ts a
    → IsSign (codes "=") a b → IsTest t b [] → test_line_at version ts ≡ Some (Named x t, [])
unfolding test_line_at named_at
named_again {version = version} later n s d =
    let on : nat_le 2 version ≡ true = grind (arith, nat_tests) in
    rw (name_again n, on, sign_again s, test_again d no_name_at_end) refl

-- lines whose first word version 1 doesn't reserve

no_first_word : (version : ℕ) {v : List ℕ} {ts a : List Symbol} → IsLater v ts a → line_at version ts ≡ later_line_at ts
unfolding line_at
no_first_word version w =
    rw (
      no_word_at_later (codes "columns") w,
      no_word_at_later (codes "labels") w,
      no_word_at_later (codes "measure") w,
      no_word_at_later (codes "table") w,
      no_word_at_later (codes "times") w,
      no_word_at_later (codes "generate") w,
      no_word_at_later (codes "test") w,
      no_word_at_later (codes "aggregate") w,
    ) refl

automaton_again : {x s : List ℕ} {ps ls : List (List ℕ)} {ts b c d e f g rest : List Symbol}
    → IsName x ts b → IsLater (codes "states") b c → IsNames ps c d → IsLater (codes "start") d e → IsName s e f
    → IsLater (codes "letters") f g → IsNames ls g rest → begins_name rest ≡ false
    → automaton_at ts ≡ Some (Automaton (record { name = x; states = ps; start = s; letters = ls }), rest)
unfolding automaton_at
automaton_again n v p u s l q off =
    rw (
      name_again n,
      later_again v,
      names_again p (rw (no_name_at_later u) refl),
      later_again u,
      name_again s,
      later_again l,
      names_again q off,
    ) refl

step_again : {x y : List ℕ} {ps : List (List ℕ)} {ts b c d rest : List Symbol} → IsName x ts b → IsName y b c
    → IsSign (codes "=") c d → IsNames ps d rest → begins_name rest ≡ false
    → step_at ts ≡ Some (Step (record { automaton = x; letter = y; targets = ps }), rest)
unfolding step_at
step_again n m s d off = rw (name_again n, name_again m, sign_again s, names_again d off) refl

line_again : {version : ℕ} {x : KindTree} {ts : List Symbol} → IsLine version x ts []
    → line_at version ts ≡ Some (x, [])
unfolding line_at later_line_at measure_at table_at times_at
line_again (IsLine.columns w d) = rw (word_again w, items_again d no_name_at_end (no_sign_at_end (codes "="))) refl
line_again (IsLine.labels w d) = rw
    (no_other_word (codes "columns") w refl, word_again w, names_again d no_name_at_end) refl
line_again (IsLine.measure w n s d) =
    rw (
      no_other_word (codes "columns") w refl,
      no_other_word (codes "labels") w refl,
      word_again w,
      name_again n,
      sign_again s,
      cases_again d (no_sign_at_end (codes ";")) case_at_end,
    ) refl
line_again (IsLine.table w n u m v d) =
    rw (
      no_other_word (codes "columns") w refl,
      no_other_word (codes "labels") w refl,
      no_other_word (codes "measure") w refl,
      word_again w,
      name_again n,
      word_again u,
      name_again m,
      word_again v,
      names_again d no_name_at_end,
    ) refl
line_again (IsLine.times w n m s d) =
    rw (
      no_other_word (codes "columns") w refl,
      no_other_word (codes "labels") w refl,
      no_other_word (codes "measure") w refl,
      no_other_word (codes "table") w refl,
      word_again w,
      name_again n,
      name_again m,
      sign_again s,
      names_again d no_name_at_end,
    ) refl
line_again (IsLine.generate w d) =
    rw (
      no_other_word (codes "columns") w refl,
      no_other_word (codes "labels") w refl,
      no_other_word (codes "measure") w refl,
      no_other_word (codes "table") w refl,
      no_other_word (codes "times") w refl,
      word_again w,
      shape_again d,
    ) refl
line_again (IsLine.test w d) =
    rw (
      no_other_word (codes "columns") w refl,
      no_other_word (codes "labels") w refl,
      no_other_word (codes "measure") w refl,
      no_other_word (codes "table") w refl,
      no_other_word (codes "times") w refl,
      no_other_word (codes "generate") w refl,
      word_again w,
      test_line_again _ d,
    ) refl
line_again (IsLine.named later w n s d) =
    rw (
      no_other_word (codes "columns") w refl,
      no_other_word (codes "labels") w refl,
      no_other_word (codes "measure") w refl,
      no_other_word (codes "table") w refl,
      no_other_word (codes "times") w refl,
      no_other_word (codes "generate") w refl,
      word_again w,
      named_again later n s d,
    ) refl
line_again (IsLine.keep w d) = no_first_word _ w ∙ rw (later_again w, keep_again d) refl
line_again (IsLine.automaton w n v p u s l q) = no_first_word _ w
    ∙ rw (
      no_other_later (codes "keep") w refl,
      later_again w,
      automaton_again n v p u s l q no_name_at_end,
    ) refl
line_again (IsLine.step w n m s d) = no_first_word _ w
    ∙ rw (
      no_other_later (codes "keep") w refl,
      no_other_later (codes "automaton") w refl,
      later_again w,
      step_again n m s d no_name_at_end,
    ) refl
line_again (IsLine.aggregate w d) =
    rw (
      no_other_word (codes "columns") w refl,
      no_other_word (codes "labels") w refl,
      no_other_word (codes "measure") w refl,
      no_other_word (codes "table") w refl,
      no_other_word (codes "times") w refl,
      no_other_word (codes "generate") w refl,
      no_other_word (codes "test") w refl,
      word_again w,
      goal_again d (rw (no_later_at_end (codes "then")) refl),
    ) refl

pub part_again : {version : ℕ} {x : KindTree} {ts : List Symbol} → IsPart version x ts → part_at version ts ≡ Some x
unfolding part_at
part_again d = rw (line_again d) refl
