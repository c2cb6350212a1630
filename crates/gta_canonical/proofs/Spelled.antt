-- The canonical pieces of what is well formed are in the grammar, and can be written: two lemmas for each rule.
use Rattle.std.proofs.Common.{◌≡◌, ℕ, zero, suc, ◌+◌, ◌≤◌, Bool, true, false, cond, not, ◌&&◌, ◌||◌, List, [], ◌∷◌}
use Rattle.std.proofs.Common.{◌++◌, length, map, refl, subst, ◌∙◌, arith, length-append}
use Rattle.std.proofs.lemmas.Bool.Decides.{nat_tests}
use Rattle.std.specs.Prelude.{ℤ, pos, negsuc, Option, Some, None, nat_le, codes}
use Rattle.std.specs.List.{list_any}
use Rattle.std.specs.Str.{bytes_eq}
use Rattle.shape_gen.specs.declared.shape.Shape.{Shape}
use Rattle.shape_gen.specs.declared.shape.Shape.TheVariants as shapes
use Rattle.gta_text.specs.Names.{is_word, is_reserved}
use Rattle.gta_spec.specs.declared.parts.ColumnItem.{ColumnItem}
use Rattle.gta_spec.specs.declared.parts.TermPart.{TermPart}
use Rattle.gta_spec.specs.declared.parts.AtomPart.{AtomPart}
use Rattle.gta_spec.specs.declared.parts.AtomPart.TheVariants.{Label, Column}
use Rattle.gta_spec.specs.declared.parts.Cmp.{Cmp}
use Rattle.gta_spec.specs.declared.parts.Cmp.TheVariants.{AtMost, AtLeast, Equal}
use Rattle.gta_spec.specs.declared.parts.Check.{Check}
use Rattle.gta_spec.specs.declared.parts.Check.TheVariants.{Compare, Mod}
use Rattle.gta_spec.specs.declared.parts.GoalPart.{GoalPart}
use Rattle.gta_spec.specs.declared.parts.GoalPart.TheVariants.{Count, Any, Max, Min, Best, Ranked}
use Rattle.gta_spec.specs.declared.parts.RankPart.{RankPart}
use Rattle.gta_spec.specs.Parts.{CaseTree, PickTree, TestTree, Sum, Length, Fold, Run, KindTree, Columns, Labels}
use Rattle.gta_spec.specs.Parts.{Measure, Table, Times, Automaton, Step, Generate, Test, Named, Keep, Aggregate}
use Rattle.gta_spec.specs.declared.limits.TheConstants.{NESTING_LIMIT}
use Rattle.gta_spec.specs.Versions.{second_words, third_words, is_later}
use Rattle.gta_spec.specs.Keep as keeps
use Rattle.gta_spec.specs.Keep.{Both, Either, all_of, any_of, kept_tests, Place, Whole, Conjunct, Operand}
use Rattle.gta_spec.specs.Keep.{encloses_both, encloses_either, nesting}
use Rattle.gta_spec.specs.Symbols.{Symbol, Word, Later, Digits, Sign}
use Rattle.gta_spec.specs.Grammar.{IsName, IsNames, IsNum, IsItem, IsCmp, IsAtom, IsAnd, IsIf, IsTerm, IsFirstTerm}
use Rattle.gta_spec.specs.Grammar.{IsNextTerm, IsForm, IsCase, IsNextCase, IsCases, IsPick, IsNextPick, IsPicks}
use Rattle.gta_spec.specs.Grammar.{IsCheck, IsTest, IsShape, IsEnd, IsGoal, IsLine, IsPart, Many, none, some, Listed}
use Rattle.gta_spec.specs.Grammar.{listed, Behind, behind, IsWord, IsLater, IsFirstRank, IsNextRank, IsRanks}
use Rattle.gta_spec.specs.Grammar.{names_among, Expr, IsConj, IsExpr, IsLitOver, IsLit, IsKeep}
use Rattle.gta_spec.specs.WellFormed.{FitsName, FitsHeader, FitsDigits, FitsNum, FitsIf, EachFits, SomeFit, FitsItem}
use Rattle.gta_spec.specs.WellFormed.{FitsAtom, FitsQuantity, FitsTerm, FitsCase, FitsPick, FitsCheck, FitsTest}
use Rattle.gta_spec.specs.WellFormed.{FitsKeep, FitsRank, FitRanks, FitsGoal, FitsKind}
use Rattle.gta_canonical.specs.Canonical.{Piece, spaced, glued, fronts, name_front, names_front, num_front}
use Rattle.gta_canonical.specs.Canonical.{item_front, cmp_text, atom_front, and_front, if_front, quantity_front}
use Rattle.gta_canonical.specs.Canonical.{first_term_front, next_term_front, form_front, case_front, next_case_front}
use Rattle.gta_canonical.specs.Canonical.{cases_front, pick_front, next_pick_front, picks_front, check_front}
use Rattle.gta_canonical.specs.Canonical.{test_front, open_front, close_front, keep_front, shape_word, end_word}
use Rattle.gta_canonical.specs.Canonical.{rank_front, next_rank_front, ranks_front, best_front, goal_front, kind_front}
use Rattle.gta_canonical.proofs.Lexed.{IsSignText, Closed, Writable, AreWritable}

abbrev pub syms : List Piece → List Symbol
syms ps = map (λ p. p.symbol) ps

-- a word that no version after the first reserves
abbrev is_first_word : List ℕ → Bool
is_first_word x =
    is_word x && (not (list_any (bytes_eq x) second_words) && not (list_any (bytes_eq x) third_words))

first_and : (a b : Bool) → (a && b) ≡ true → a ≡ true
first_and true b e = refl
first_and false b e = absurd cc

second_and : (a b : Bool) → (a && b) ≡ true → b ≡ true
second_and true b e = e
second_and false b e = absurd cc

off_if_not : (second third : Bool) (on early : Bool) → (not second && not third) ≡ true
    → cond second on (cond third early false) ≡ false
off_if_not true third on early e = absurd cc
off_if_not false true on early e = absurd cc
off_if_not false false on early e = refl

first_word_is_writable : (version : ℕ) (x : List ℕ) → is_first_word x ≡ true → Writable version (Word x)
unfolding is_later
first_word_is_writable version x word =
    let second = list_any (bytes_eq x) second_words in
    let third = list_any (bytes_eq x) third_words in (
      first_and (is_word x) (not second && not third) word,
      off_if_not second third (nat_le 2 version) (nat_le 3 version)
          (second_and (is_word x) (not second && not third) word),
    )

on_if_second : (version : ℕ) (x : List ℕ) → list_any (bytes_eq x) second_words ≡ true → 2 ≤ version
    → is_later version x ≡ true
unfolding is_later
on_if_second version x among later =
    let on : nat_le 2 version ≡ true = grind (arith, nat_tests) in
    rw (among, on) refl

on_if_third : (version : ℕ) (x : List ℕ) → list_any (bytes_eq x) second_words ≡ false
    → list_any (bytes_eq x) third_words ≡ true → 3 ≤ version
    → is_later version x ≡ true
unfolding is_later
on_if_third version x other among later =
    let on : nat_le 3 version ≡ true = grind (arith, nat_tests) in
    rw (other, among, on) refl

many_spelled : {A : Type 0} {Fits : A → Type 0} {Is : A → List Symbol → List Symbol → Type 0}
    (front : A → List Piece → List Piece)
    → ((x : A) (rest : List Piece) → Fits x → Is x (syms (front x rest)) (syms rest))
    → (xs : List A) (rest : List Piece) → EachFits Fits xs → Many Is xs (syms (fronts front xs rest)) (syms rest)
many_spelled front each [] rest fits = none
many_spelled front each (x ∷ xs) rest fits = some (each x (fronts front xs rest) fits.0)
    (many_spelled front each xs rest fits.1)

num_spelled : (z : ℤ) (rest : List Piece) → IsNum z (syms (num_front z rest)) (syms rest)
num_spelled (pos n) rest = IsNum.plain refl
num_spelled (negsuc n) rest = IsNum.minus {n = suc n} refl refl

cmp_spelled : (c : Cmp) (ts : List Symbol) → IsCmp c (Sign (cmp_text c) ∷ ts) ts
cmp_spelled AtMost ts = IsCmp.at_most refl
cmp_spelled AtLeast ts = IsCmp.at_least refl
cmp_spelled Equal ts = IsCmp.equal refl

cmp_sign : (c : Cmp) → IsSignText (cmp_text c)
cmp_sign AtMost = IsSignText.at_most
cmp_sign AtLeast = IsSignText.at_least
cmp_sign Equal = IsSignText.equal

check_spelled : (x : Check) (rest : List Piece) → FitsCheck x → IsCheck x (syms (check_front x rest)) (syms rest)
check_spelled (Compare c z) rest fits = IsCheck.compare (cmp_spelled c (syms (num_front z rest))) (num_spelled z rest)
check_spelled (Mod m r) rest fits = IsCheck.modulo refl refl refl refl

shape_spelled : (s : Shape) → IsShape s (Word (shape_word s) ∷ []) []
shape_spelled shapes.Sublists = IsShape.sublists refl
shape_spelled shapes.Assign = IsShape.assign refl
shape_spelled shapes.Prefixes = IsShape.prefixes refl
shape_spelled shapes.Suffixes = IsShape.suffixes refl
shape_spelled shapes.Segments = IsShape.segments refl

shape_is_first : (s : Shape) → is_first_word (shape_word s) ≡ true
shape_is_first shapes.Sublists = refl
shape_is_first shapes.Assign = refl
shape_is_first shapes.Prefixes = refl
shape_is_first shapes.Suffixes = refl
shape_is_first shapes.Segments = refl

end_spelled : (greatest : Bool) (ts : List Symbol) → IsEnd greatest (Word (end_word greatest) ∷ ts) ts
end_spelled true ts = IsEnd.greatest refl
end_spelled false ts = IsEnd.least refl

end_is_first : (greatest : Bool) → is_first_word (end_word greatest) ≡ true
end_is_first true = refl
end_is_first false = refl

-- a chain of `and`s, and one of `or`s, grows at its end

many_more : {A : Type 0} {Is : A → List Symbol → List Symbol → Type 0} {xs : List A} {y : A} {ts a rest : List Symbol}
    → Many Is xs ts a → Is y a rest → Many Is (xs ++ y ∷ []) ts rest
many_more none d = some d none
many_more (some e ms) d = some e (many_more ms d)

all_more : (x : Expr) (xs : List Expr) (y : Expr) → all_of x (xs ++ y ∷ []) ≡ Both (all_of x xs) y
all_more x [] y = refl
all_more x (z ∷ zs) y = all_more (Both x z) zs y

any_more : (x : Expr) (xs : List Expr) (y : Expr) → any_of x (xs ++ y ∷ []) ≡ Either (any_of x xs) y
any_more x [] y = refl
any_more x (z ∷ zs) y = any_more (Either x z) zs y

module _ {Lit : Expr → List Symbol → List Symbol → Type 0} where
  as_conj : {x : Expr} {ts rest : List Symbol} → Lit x ts rest → IsConj Lit x ts rest
  as_conj d = IsConj.conj {xs = []} (listed d none)

  as_expr : {x : Expr} {ts rest : List Symbol} → IsConj Lit x ts rest → IsExpr Lit x ts rest
  as_expr d = IsExpr.expr {xs = []} (listed d none)

  conj_and : {x y : Expr} {ts a rest : List Symbol} → IsConj Lit x ts a
      → Behind (IsWord (codes "and")) Lit y a rest → IsConj Lit (Both x y) ts rest
  conj_and {y = y} {ts = ts} {rest = rest} (IsConj.conj {x = x} {xs = xs} (listed d ms)) other =
      subst (λ z. IsConj Lit z ts rest) (all_more x xs y) (IsConj.conj (listed d (many_more ms other)))

  expr_or : {x y : Expr} {ts a rest : List Symbol} → IsExpr Lit x ts a
      → Behind (IsLater (codes "or")) (IsConj Lit) y a rest → IsExpr Lit (Either x y) ts rest
  expr_or {y = y} {ts = ts} {rest = rest} (IsExpr.expr {x = x} {xs = xs} (listed d ms)) other =
      subst (λ z. IsExpr Lit z ts rest) (any_more x xs y) (IsExpr.expr (listed d (many_more ms other)))

-- the symbols say the expression, as one that stands there
abbrev Says : ℕ → Place → Expr → List Symbol → List Symbol → Type 0
Says n Whole = IsExpr (IsLit n)
Says n Conjunct = IsConj (IsLit n)
Says n Operand = IsLit n

at_place : (place : Place) (n : ℕ) (x : Expr) (ts rest : List Symbol) → IsLit n x ts rest → Says n place x ts rest
at_place Whole n x ts rest d = as_expr (as_conj d)
at_place Conjunct n x ts rest d = as_conj d
at_place Operand n x ts rest d = d

lit_test : (n : ℕ) (x : List ℕ) (ts rest : List Symbol) → IsName x ts rest → IsLit n (keeps.Test x) ts rest
lit_test zero x ts rest name = IsLitOver.test name
lit_test (suc n) x ts rest name = IsLitOver.test name

and_counted : (ts : List Symbol) → names_among (Word (codes "and") ∷ ts) ≡ names_among ts
unfolding is_reserved
and_counted ts = omega arith

open_counted : (enclosed g : Bool) (rest : List Piece)
    → names_among (syms (open_front enclosed g rest)) ≡ names_among (syms rest)
open_counted false g rest = refl
open_counted true g rest = refl

close_counted : (enclosed : Bool) (rest : List Piece)
    → names_among (syms (close_front enclosed rest)) ≡ names_among (syms rest)
close_counted false rest = refl
close_counted true rest = refl

two_counts : (xs ys : List (List ℕ)) {middle close rest : ℕ} → middle ≡ length ys + close → close ≡ rest
    → length xs + middle ≡ length (xs ++ ys) + rest
two_counts xs ys is closed = omega (arith, length-append xs ys)

keep_closed : (place : Place) (x : Expr) (rest : List Piece) → Closed (keep_front place false x rest)
keep_closed place (keeps.Test x) rest = refl
keep_closed place (keeps.Not x) rest = refl
keep_closed Whole (Both x y) rest = keep_closed Conjunct x _
keep_closed Conjunct (Both x y) rest = keep_closed Conjunct x _
keep_closed Operand (Both x y) rest = refl
keep_closed Whole (Either x y) rest = keep_closed Whole x _
keep_closed Conjunct (Either x y) rest = refl
keep_closed Operand (Either x y) rest = refl

module _ (version : ℕ) where
  -- pieces that can be written, and may stand behind a word or a number
  record Flows (ps : List Piece) : Type 0 where
    writable : AreWritable version ps
    closed : Closed ps

  nothing : Flows []
  nothing = record { writable = tt; closed = tt }

  a_word : (x : List ℕ) (rest : List Piece) → is_first_word x ≡ true → Flows rest → Flows (spaced (Word x) ∷ rest)
  a_word x rest word flows =
      record { writable = (first_word_is_writable version x word, flows.closed, flows.writable); closed = refl }

  second_word : (x : List ℕ) → is_word x ≡ true → list_any (bytes_eq x) second_words ≡ true → 2 ≤ version
      → Writable version (Later x)
  second_word x word among later = (word, on_if_second version x among later)

  third_word : (x : List ℕ) → is_word x ≡ true → list_any (bytes_eq x) second_words ≡ false
      → list_any (bytes_eq x) third_words ≡ true → 3 ≤ version
      → Writable version (Later x)
  third_word x word other among later = (word, on_if_third version x other among later)

  a_later : (x : List ℕ) (rest : List Piece) → Writable version (Later x) → Flows rest → Flows (spaced (Later x) ∷ rest)
  a_later x rest word flows = record { writable = (word, flows.closed, flows.writable); closed = refl }

  name_is_writable : (x : List ℕ) → FitsName version x → Writable version (Word x)
  name_is_writable x fits = (first_and (is_word x) (not (is_reserved x)) fits.0, fits.1)

  a_name : (x : List ℕ) (rest : List Piece) → FitsName version x → Flows rest → Flows (spaced (Word x) ∷ rest)
  a_name x rest fits flows =
      record { writable = (name_is_writable x fits, flows.closed, flows.writable); closed = refl }

  a_sign : (s : List ℕ) (rest : List Piece) → IsSignText s → AreWritable version rest → Flows (spaced (Sign s) ∷ rest)
  a_sign s rest sign writable = record { writable = (sign, tt, writable); closed = refl }

  a_number : (n : ℕ) (rest : List Piece) → FitsDigits n → Flows rest → Flows (spaced (Digits n) ∷ rest)
  a_number n rest fits flows = record { writable = (fits, flows.closed, flows.writable); closed = refl }

  the_name : {x : List ℕ} {rest : List Symbol} → FitsName version x → IsName x (Word x ∷ rest) rest
  the_name fits = record { front = refl; free = fits.0 }

  many_flow : {A : Type 0} {Fits : A → Type 0} {front : A → List Piece → List Piece}
      → ((x : A) (rest : List Piece) → Fits x → Flows rest → Flows (front x rest))
      → (xs : List A) (rest : List Piece) → EachFits Fits xs → Flows rest → Flows (fronts front xs rest)
  many_flow each [] rest fits flows = flows
  many_flow {front = front} each (x ∷ xs) rest fits flows = each x (fronts front xs rest) fits.0
      (many_flow each xs rest fits.1 flows)

  names_spelled : (xs : List (List ℕ)) (rest : List Piece) → SomeFit (FitsName version) xs
      → IsNames xs (syms (names_front xs rest)) (syms rest)
  names_spelled [] rest fits = absurd (omega (arith, fits.0))
  names_spelled (x ∷ xs) rest fits = listed (the_name fits.1.0)
      (many_spelled name_front (λ y r f. the_name f) xs rest fits.1.1)

  names_flow : (xs : List (List ℕ)) (rest : List Piece) → SomeFit (FitsName version) xs → Flows rest
      → Flows (names_front xs rest)
  names_flow xs rest fits flows = many_flow (λ y r f g. a_name y r f g) xs rest fits.1 flows

  -- columns

  item_spelled_as : (x : List ℕ) (h : Option (List ℕ)) (rest : List Piece) → FitsName version x → FitsIf FitsHeader h
      → IsItem (record { name = x; header = h }) (syms (item_front (record { name = x; header = h }) rest)) (syms rest)
  item_spelled_as x None rest name header = IsItem.bare (the_name name)
  item_spelled_as x (Some t) rest name header = IsItem.headed (the_name name) refl refl

  item_spelled : (x : ColumnItem) (rest : List Piece) → FitsItem version x
      → IsItem x (syms (item_front x rest)) (syms rest)
  item_spelled x rest fits = item_spelled_as x.name x.header rest fits.0 fits.1

  item_flows_as : (x : List ℕ) (h : Option (List ℕ)) (rest : List Piece) → FitsName version x → FitsIf FitsHeader h
      → Flows rest
      → Flows (item_front (record { name = x; header = h }) rest)
  item_flows_as x None rest name header flows = a_name x rest name flows
  item_flows_as x (Some t) rest name header flows =
      record {
        writable = (name_is_writable x name, refl, (IsSignText.equal, tt, (header, tt, flows.writable)));
        closed = refl;
      }

  item_flows : (x : ColumnItem) (rest : List Piece) → FitsItem version x → Flows rest → Flows (item_front x rest)
  item_flows x rest fits flows = item_flows_as x.name x.header rest fits.0 fits.1 flows

  items_spelled : (xs : List ColumnItem) (rest : List Piece) → SomeFit (FitsItem version) xs
      → Listed IsItem IsItem xs (syms (fronts item_front xs rest)) (syms rest)
  items_spelled [] rest fits = absurd (omega (arith, fits.0))
  items_spelled (x ∷ xs) rest fits = listed (item_spelled x (fronts item_front xs rest) fits.1.0)
      (many_spelled item_front item_spelled xs rest fits.1.1)

  -- conditions

  num_flows : (z : ℤ) (rest : List Piece) → FitsNum z → Flows rest → Flows (num_front z rest)
  num_flows (pos n) rest fits flows = a_number n rest fits flows
  num_flows (negsuc n) rest fits flows = a_sign (codes "-") _ IsSignText.minus (fits, flows.closed, flows.writable)

  atom_spelled : (x : AtomPart) (rest : List Piece) → FitsAtom version x
      → IsAtom x (syms (atom_front x rest)) (syms rest)
  atom_spelled (Label x) rest fits = IsAtom.label refl (the_name fits)
  atom_spelled (Column x c z) rest fits = IsAtom.column (the_name fits.0) (cmp_spelled c (syms (num_front z rest)))
      (num_spelled z rest)

  atom_flows : (x : AtomPart) (rest : List Piece) → FitsAtom version x → Flows rest → Flows (atom_front x rest)
  atom_flows (Label x) rest fits flows = a_word (codes "label") _ refl (a_name x rest fits flows)
  atom_flows (Column x c z) rest fits flows = a_name x _ fits.0
      (a_sign (cmp_text c) _ (cmp_sign c) (num_flows z rest fits.1 flows).writable)

  and_spelled : (x : AtomPart) (rest : List Piece) → FitsAtom version x → IsAnd x (syms (and_front x rest)) (syms rest)
  and_spelled x rest fits = behind refl (atom_spelled x rest fits)

  and_flows : (x : AtomPart) (rest : List Piece) → FitsAtom version x → Flows rest → Flows (and_front x rest)
  and_flows x rest fits flows = a_word (codes "and") _ refl (atom_flows x rest fits flows)

  if_spelled : (xs : List AtomPart) (rest : List Piece) → EachFits (FitsAtom version) xs
      → IsIf xs (syms (if_front xs rest)) (syms rest)
  if_spelled [] rest fits = IsIf.always
  if_spelled (x ∷ xs) rest fits =
      IsIf.given refl (listed (atom_spelled x (fronts and_front xs rest) fits.0)
      (many_spelled and_front and_spelled xs rest fits.1))

  if_flows : (xs : List AtomPart) (rest : List Piece) → EachFits (FitsAtom version) xs → Flows rest
      → Flows (if_front xs rest)
  if_flows [] rest fits flows = flows
  if_flows (x ∷ xs) rest fits flows = a_word (codes "if") _ refl
      (atom_flows x _ fits.0 (many_flow and_flows xs rest fits.1 flows))

  -- forms

  quantity_spelled : (m g : Bool) (n : Option ℕ) (x : Option (List ℕ)) (rest : List Piece) → FitsQuantity version n x
      → IsTerm m (record { minus = m; number = n; name = x }) (syms (quantity_front g n x rest)) (syms rest)
  quantity_spelled m g None None rest fits = absurd fits
  quantity_spelled m g None (Some x) rest fits = IsTerm.column (the_name fits)
  quantity_spelled m g (Some n) None rest fits = IsTerm.constant refl
  quantity_spelled m g (Some n) (Some x) rest fits = IsTerm.multiple refl refl (the_name fits.1)

  quantity_writable : (g : Bool) (n : Option ℕ) (x : Option (List ℕ)) (rest : List Piece) → FitsQuantity version n x
      → Flows rest → AreWritable version (quantity_front g n x rest)
  quantity_writable g None None rest fits flows = absurd fits
  quantity_writable g None (Some x) rest fits flows = (name_is_writable x fits, flows.closed, flows.writable)
  quantity_writable g (Some n) None rest fits flows = (fits, flows.closed, flows.writable)
  quantity_writable g (Some n) (Some x) rest fits flows =
      (fits.0, refl, (IsSignText.times, tt, (name_is_writable x fits.1, flows.closed, flows.writable)))

  quantity_closed : (n : Option ℕ) (x : Option (List ℕ)) (rest : List Piece) → FitsQuantity version n x
      → Closed (quantity_front false n x rest)
  quantity_closed None None rest fits = absurd fits
  quantity_closed None (Some x) rest fits = refl
  quantity_closed (Some n) None rest fits = refl
  quantity_closed (Some n) (Some x) rest fits = refl

  first_term_spelled_as : (m : Bool) (n : Option ℕ) (x : Option (List ℕ)) (rest : List Piece) → FitsQuantity version n x
      → IsFirstTerm (record { minus = m; number = n; name = x })
      (syms (first_term_front (record { minus = m; number = n; name = x }) rest)) (syms rest)
  first_term_spelled_as false n x rest fits = IsFirstTerm.plain (quantity_spelled false false n x rest fits)
  first_term_spelled_as true n x rest fits = IsFirstTerm.minus refl (quantity_spelled true true n x rest fits)

  first_term_spelled : (x : TermPart) (rest : List Piece) → FitsTerm version x
      → IsFirstTerm x (syms (first_term_front x rest)) (syms rest)
  first_term_spelled x rest fits = first_term_spelled_as x.minus x.number x.name rest fits

  first_term_flows_as : (m : Bool) (n : Option ℕ) (x : Option (List ℕ)) (rest : List Piece) → FitsQuantity version n x
      → Flows rest
      → Flows (first_term_front (record { minus = m; number = n; name = x }) rest)
  first_term_flows_as false n x rest fits flows = record
      { writable = quantity_writable false n x rest fits flows; closed = quantity_closed n x rest fits }
  first_term_flows_as true n x rest fits flows = a_sign (codes "-") _ IsSignText.minus
      (quantity_writable true n x rest fits flows)

  first_term_flows : (x : TermPart) (rest : List Piece) → FitsTerm version x → Flows rest
      → Flows (first_term_front x rest)
  first_term_flows x rest fits flows = first_term_flows_as x.minus x.number x.name rest fits flows

  next_term_spelled_as : (m : Bool) (n : Option ℕ) (x : Option (List ℕ)) (rest : List Piece) → FitsQuantity version n x
      → IsNextTerm (record { minus = m; number = n; name = x })
      (syms (next_term_front (record { minus = m; number = n; name = x }) rest)) (syms rest)
  next_term_spelled_as false n x rest fits = IsNextTerm.plus refl (quantity_spelled false false n x rest fits)
  next_term_spelled_as true n x rest fits = IsNextTerm.minus refl (quantity_spelled true false n x rest fits)

  next_term_spelled : (x : TermPart) (rest : List Piece) → FitsTerm version x
      → IsNextTerm x (syms (next_term_front x rest)) (syms rest)
  next_term_spelled x rest fits = next_term_spelled_as x.minus x.number x.name rest fits

  next_term_flows_as : (m : Bool) (n : Option ℕ) (x : Option (List ℕ)) (rest : List Piece)
      → FitsQuantity version n x → Flows rest
      → Flows (next_term_front (record { minus = m; number = n; name = x }) rest)
  next_term_flows_as false n x rest fits flows = a_sign (codes "+") _ IsSignText.plus
      (quantity_writable false n x rest fits flows)
  next_term_flows_as true n x rest fits flows = a_sign (codes "-") _ IsSignText.minus
      (quantity_writable false n x rest fits flows)

  next_term_flows : (x : TermPart) (rest : List Piece) → FitsTerm version x → Flows rest
      → Flows (next_term_front x rest)
  next_term_flows x rest fits flows = next_term_flows_as x.minus x.number x.name rest fits flows

  form_spelled : (xs : List TermPart) (rest : List Piece) → SomeFit (FitsTerm version) xs
      → IsForm xs (syms (form_front xs rest)) (syms rest)
  form_spelled [] rest fits = absurd (omega (arith, fits.0))
  form_spelled (x ∷ xs) rest fits = listed (first_term_spelled x (fronts next_term_front xs rest) fits.1.0)
      (many_spelled next_term_front next_term_spelled xs rest fits.1.1)

  form_flows : (xs : List TermPart) (rest : List Piece) → SomeFit (FitsTerm version) xs → Flows rest
      → Flows (form_front xs rest)
  form_flows [] rest fits flows = flows
  form_flows (x ∷ xs) rest fits flows = first_term_flows x _ fits.1.0 (many_flow next_term_flows xs rest fits.1.1 flows)

  -- cases and picks

  case_spelled : (x : CaseTree) (rest : List Piece) → FitsCase version x
      → IsCase x (syms (case_front x rest)) (syms rest)
  case_spelled x rest fits = IsCase.case (form_spelled x.form (if_front x.cond rest) fits.0)
      (if_spelled x.cond rest fits.1)

  case_flows : (x : CaseTree) (rest : List Piece) → FitsCase version x → Flows rest → Flows (case_front x rest)
  case_flows x rest fits flows = form_flows x.form _ fits.0 (if_flows x.cond rest fits.1 flows)

  next_case_spelled : (x : CaseTree) (rest : List Piece) → FitsCase version x
      → IsNextCase x (syms (next_case_front x rest)) (syms rest)
  next_case_spelled x rest fits = behind refl (case_spelled x rest fits)

  next_case_flows : (x : CaseTree) (rest : List Piece) → FitsCase version x → Flows rest
      → Flows (next_case_front x rest)
  next_case_flows x rest fits flows = a_sign (codes ";") _ IsSignText.semicolon (case_flows x rest fits flows).writable

  cases_spelled : (xs : List CaseTree) (rest : List Piece) → SomeFit (FitsCase version) xs
      → IsCases xs (syms (cases_front xs rest)) (syms rest)
  cases_spelled [] rest fits = absurd (omega (arith, fits.0))
  cases_spelled (x ∷ xs) rest fits = listed (case_spelled x (fronts next_case_front xs rest) fits.1.0)
      (many_spelled next_case_front next_case_spelled xs rest fits.1.1)

  cases_flow : (xs : List CaseTree) (rest : List Piece) → SomeFit (FitsCase version) xs → Flows rest
      → Flows (cases_front xs rest)
  cases_flow [] rest fits flows = flows
  cases_flow (x ∷ xs) rest fits flows = case_flows x _ fits.1.0 (many_flow next_case_flows xs rest fits.1.1 flows)

  pick_spelled : (x : PickTree) (rest : List Piece) → FitsPick version x
      → IsPick x (syms (pick_front x rest)) (syms rest)
  pick_spelled x rest fits = IsPick.pick (the_name fits.0) (if_spelled x.cond rest fits.1)

  pick_flows : (x : PickTree) (rest : List Piece) → FitsPick version x → Flows rest → Flows (pick_front x rest)
  pick_flows x rest fits flows = a_name x.element _ fits.0 (if_flows x.cond rest fits.1 flows)

  next_pick_spelled : (x : PickTree) (rest : List Piece) → FitsPick version x
      → IsNextPick x (syms (next_pick_front x rest)) (syms rest)
  next_pick_spelled x rest fits = behind refl (pick_spelled x rest fits)

  next_pick_flows : (x : PickTree) (rest : List Piece) → FitsPick version x → Flows rest
      → Flows (next_pick_front x rest)
  next_pick_flows x rest fits flows = a_sign (codes ";") _ IsSignText.semicolon (pick_flows x rest fits flows).writable

  picks_spelled : (xs : List PickTree) (rest : List Piece) → SomeFit (FitsPick version) xs
      → IsPicks xs (syms (picks_front xs rest)) (syms rest)
  picks_spelled [] rest fits = absurd (omega (arith, fits.0))
  picks_spelled (x ∷ xs) rest fits = listed (pick_spelled x (fronts next_pick_front xs rest) fits.1.0)
      (many_spelled next_pick_front next_pick_spelled xs rest fits.1.1)

  picks_flow : (xs : List PickTree) (rest : List Piece) → SomeFit (FitsPick version) xs → Flows rest
      → Flows (picks_front xs rest)
  picks_flow [] rest fits flows = flows
  picks_flow (x ∷ xs) rest fits flows = pick_flows x _ fits.1.0 (many_flow next_pick_flows xs rest fits.1.1 flows)

  -- tests and goals

  check_flows : (x : Check) (rest : List Piece) → FitsCheck x → Flows rest → Flows (check_front x rest)
  check_flows (Compare c z) rest fits flows = a_sign (cmp_text c) _ (cmp_sign c) (num_flows z rest fits flows).writable
  check_flows (Mod m r) rest fits flows =
      a_word (codes "mod") _ refl
      (a_number m _ fits.0 (a_sign (codes "=") _ IsSignText.equal (a_number r rest fits.1 flows).writable))

  test_spelled : (x : TestTree) → FitsTest version x → IsTest x (syms (test_front x [])) []
  test_spelled (Sum x k) fits = IsTest.sum refl (the_name fits.0) (check_spelled k [] fits.1)
  test_spelled (Length k) fits = IsTest.length refl (check_spelled k [] fits)
  test_spelled (Fold t ps es) fits =
      IsTest.fold refl (the_name fits.0) refl
      (picks_spelled ps (spaced (Word (codes "accept")) ∷ names_front es []) fits.1) refl
      (names_spelled es [] fits.2)
  test_spelled (Run a ps es) fits =
      IsTest.run refl (the_name fits.1) refl
      (picks_spelled ps (spaced (Word (codes "accept")) ∷ names_front es []) fits.2) refl
      (names_spelled es [] fits.3)

  -- what stands behind the first word of a fold and of a run
  picked_flows : (x : List ℕ) (ps : List PickTree) (es : List (List ℕ)) → FitsName version x
      → SomeFit (FitsPick version) ps → SomeFit (FitsName version) es
      → Flows (spaced (Word x) ∷ spaced (Word (codes "by")) ∷ picks_front ps
      (spaced (Word (codes "accept")) ∷ names_front es []))
  picked_flows x ps es name picks accept =
      a_name x _ name (a_word (codes "by") _ refl
      (picks_flow ps _ picks (a_word (codes "accept") _ refl (names_flow es [] accept nothing))))

  test_flows : (x : TestTree) → FitsTest version x → Flows (test_front x [])
  test_flows (Sum x k) fits = a_word (codes "sum") _ refl (a_name x _ fits.0 (check_flows k [] fits.1 nothing))
  test_flows (Length k) fits = a_word (codes "length") _ refl (check_flows k [] fits nothing)
  test_flows (Fold t ps es) fits =
      a_word (codes "fold") _ refl (picked_flows t ps es fits.0 fits.1 fits.2)
  test_flows (Run a ps es) fits =
      a_later (codes "run") _ (third_word (codes "run") refl refl refl fits.0)
      (picked_flows a ps es fits.1 fits.2 fits.3)

  rank_spelled : (x : RankPart) (rest : List Piece) → FitsRank version x
      → IsFirstRank x (syms (rank_front x rest)) (syms rest)
  rank_spelled x rest fits = IsFirstRank.rank (end_spelled x.greatest (Word x.name ∷ syms rest)) (the_name fits)

  next_rank_spelled : (x : RankPart) (rest : List Piece) → FitsRank version x
      → IsNextRank x (syms (next_rank_front x rest)) (syms rest)
  next_rank_spelled x rest fits = behind refl (rank_spelled x rest fits)

  ranks_spelled : (keys : List RankPart) → FitRanks version keys → IsRanks keys (syms (ranks_front keys [])) []
  ranks_spelled [] fits = absurd (omega (arith, fits.several))
  ranks_spelled (x ∷ xs) fits = record {
    ranks = listed (rank_spelled x (fronts next_rank_front xs []) fits.names.0)
        (many_spelled next_rank_front next_rank_spelled xs [] fits.names.1);
    several = fits.several;
    few = fits.few;
  }

  rank_flows : (x : RankPart) (rest : List Piece) → FitsRank version x → Flows rest → Flows (rank_front x rest)
  rank_flows x rest fits flows =
      a_word (end_word x.greatest) _ (end_is_first x.greatest) (a_name x.name rest fits flows)

  next_rank_flows : 2 ≤ version → (x : RankPart) (rest : List Piece) → FitsRank version x → Flows rest
      → Flows (next_rank_front x rest)
  next_rank_flows later x rest fits flows =
      a_later (codes "then") _ (second_word (codes "then") refl refl later) (rank_flows x rest fits flows)

  ranks_flow : (keys : List RankPart) → FitRanks version keys → Flows (ranks_front keys [])
  ranks_flow [] fits = nothing
  ranks_flow (x ∷ xs) fits =
      rank_flows x _ fits.names.0 (many_flow (next_rank_flows fits.later) xs [] fits.names.1 nothing)

  best_flows : (k : Option ℕ) (rest : List Piece) → FitsIf FitsDigits k → Flows rest → Flows (best_front k rest)
  best_flows None rest fits flows = flows
  best_flows (Some k) rest fits flows = a_word (codes "best") _ refl (a_number k rest fits flows)

  goal_spelled : (x : GoalPart) → FitsGoal version x → IsGoal x (syms (goal_front x [])) []
  goal_spelled Count fits = IsGoal.count refl
  goal_spelled Any fits = IsGoal.any refl
  goal_spelled (Max x) fits = IsGoal.max refl (the_name fits)
  goal_spelled (Min x) fits = IsGoal.min refl (the_name fits)
  goal_spelled (Best k greatest x) fits = IsGoal.best refl refl (end_spelled greatest _) (the_name fits.1)
  goal_spelled (Ranked None keys) fits = IsGoal.ranked (ranks_spelled keys fits.1)
  goal_spelled (Ranked (Some k) keys) fits = IsGoal.best_ranked refl refl (ranks_spelled keys fits.1)

  goal_flows : (x : GoalPart) → FitsGoal version x → Flows (goal_front x [])
  goal_flows Count fits = a_word (codes "count") [] refl nothing
  goal_flows Any fits = a_word (codes "any") [] refl nothing
  goal_flows (Max x) fits = a_word (codes "max") _ refl (a_name x [] fits nothing)
  goal_flows (Min x) fits = a_word (codes "min") _ refl (a_name x [] fits nothing)
  goal_flows (Best k greatest x) fits =
      a_word (codes "best") _ refl
      (a_number k _ fits.0 (a_word (end_word greatest) _ (end_is_first greatest) (a_name x [] fits.1 nothing)))
  goal_flows (Ranked k keys) fits = best_flows k (ranks_front keys []) fits.0 (ranks_flow keys fits.1)

  -- the expression of a line `keep`

  left_fit : (xs ys : List (List ℕ)) → EachFits (FitsName version) (xs ++ ys) → EachFits (FitsName version) xs
  left_fit [] ys fits = tt
  left_fit (x ∷ xs) ys fits = (fits.0, left_fit xs ys fits.1)

  right_fit : (xs ys : List (List ℕ)) → EachFits (FitsName version) (xs ++ ys) → EachFits (FitsName version) ys
  right_fit [] ys fits = fits
  right_fit (x ∷ xs) ys fits = right_fit xs ys fits.1

  keep_spelled : (place : Place) (n : ℕ) (g : Bool) (x : Expr) (rest : List Piece) → nesting place x ≤ n
      → EachFits (FitsName version) (kept_tests x) → Says n place x (syms (keep_front place g x rest)) (syms rest)
  keep_spelled place n g (keeps.Test x) rest le fits =
      at_place place n (keeps.Test x) _ _ (lit_test n x _ _ (the_name fits.0))
  keep_spelled place zero g (keeps.Not x) rest le fits = absurd (omega (arith, le))
  keep_spelled place (suc n) g (keeps.Not x) rest le fits =
      at_place place (suc n) (keeps.Not x) _ _
      (IsLitOver.not refl (keep_spelled Operand n false x rest (omega (arith, le)) fits))
  keep_spelled Whole n g (Both x y) rest le fits =
      let others = spaced (Word (codes "and")) ∷ keep_front Operand false y rest in
      let left = keep_spelled Conjunct n g x others (omega (arith, le)) (left_fit (kept_tests x) (kept_tests y) fits) in
      let right = keep_spelled Operand n false y rest (omega (arith, le))
      (right_fit (kept_tests x) (kept_tests y) fits) in
      as_expr (conj_and left (behind refl right))
  keep_spelled Conjunct n g (Both x y) rest le fits =
      let others = spaced (Word (codes "and")) ∷ keep_front Operand false y rest in
      let left = keep_spelled Conjunct n g x others (omega (arith, le)) (left_fit (kept_tests x) (kept_tests y) fits) in
      let right = keep_spelled Operand n false y rest (omega (arith, le))
      (right_fit (kept_tests x) (kept_tests y) fits) in
      conj_and left (behind refl right)
  keep_spelled Operand zero g (Both x y) rest le fits = absurd (omega (arith, le))
  keep_spelled Operand (suc n) g (Both x y) rest le fits =
      let close = close_front true rest in
      let others = spaced (Word (codes "and")) ∷ keep_front Operand false y close in
      let left = keep_spelled Conjunct n true x others (omega (arith, le))
      (left_fit (kept_tests x) (kept_tests y) fits) in
      let right = keep_spelled Operand n false y close (omega (arith, le))
      (right_fit (kept_tests x) (kept_tests y) fits) in
      IsLitOver.nested refl (as_expr (conj_and left (behind refl right))) refl
  keep_spelled Whole n g (Either x y) rest le fits =
      let others = spaced (Later (codes "or")) ∷ keep_front Conjunct false y rest in
      let left = keep_spelled Whole n g x others (omega (arith, le)) (left_fit (kept_tests x) (kept_tests y) fits) in
      let right = keep_spelled Conjunct n false y rest (omega (arith, le))
      (right_fit (kept_tests x) (kept_tests y) fits) in
      expr_or left (behind refl right)
  keep_spelled Conjunct zero g (Either x y) rest le fits = absurd (omega (arith, le))
  keep_spelled Conjunct (suc n) g (Either x y) rest le fits =
      let close = close_front true rest in
      let others = spaced (Later (codes "or")) ∷ keep_front Conjunct false y close in
      let left = keep_spelled Whole n true x others (omega (arith, le)) (left_fit (kept_tests x) (kept_tests y) fits) in
      let right = keep_spelled Conjunct n false y close (omega (arith, le))
      (right_fit (kept_tests x) (kept_tests y) fits) in
      as_conj (IsLitOver.nested refl (expr_or left (behind refl right)) refl)
  keep_spelled Operand zero g (Either x y) rest le fits = absurd (omega (arith, le))
  keep_spelled Operand (suc n) g (Either x y) rest le fits =
      let close = close_front true rest in
      let others = spaced (Later (codes "or")) ∷ keep_front Conjunct false y close in
      let left = keep_spelled Whole n true x others (omega (arith, le)) (left_fit (kept_tests x) (kept_tests y) fits) in
      let right = keep_spelled Conjunct n false y close (omega (arith, le))
      (right_fit (kept_tests x) (kept_tests y) fits) in
      IsLitOver.nested refl (expr_or left (behind refl right)) refl

  keep_counted : (place : Place) (g : Bool) (x : Expr) (rest : List Piece) → EachFits (FitsName version) (kept_tests x)
      → names_among (syms (keep_front place g x rest)) ≡ length (kept_tests x) + names_among (syms rest)
  keep_counted place g (keeps.Test x) rest fits = rw fits.0.0 refl
  keep_counted place g (keeps.Not x) rest fits = keep_counted Operand false x rest fits
  keep_counted place g (Both x y) rest fits =
      let close = close_front (encloses_both place) rest in
      let others = keep_front Operand false y close in
      let left = keep_counted Conjunct (encloses_both place || g) x (spaced (Word (codes "and")) ∷ others)
      (left_fit (kept_tests x) (kept_tests y) fits) in
      let right = keep_counted Operand false y close (right_fit (kept_tests x) (kept_tests y) fits) in
      let opened = open_counted (encloses_both place) g
      (keep_front Conjunct (encloses_both place || g) x (spaced (Word (codes "and")) ∷ others)) in
      opened ∙ left ∙ two_counts (kept_tests x) (kept_tests y) (and_counted (syms others) ∙ right)
      (close_counted (encloses_both place) rest)
  keep_counted place g (Either x y) rest fits =
      let close = close_front (encloses_either place) rest in
      let others = keep_front Conjunct false y close in
      let left = keep_counted Whole (encloses_either place || g) x (spaced (Later (codes "or")) ∷ others)
      (left_fit (kept_tests x) (kept_tests y) fits) in
      let right = keep_counted Conjunct false y close (right_fit (kept_tests x) (kept_tests y) fits) in
      let opened = open_counted (encloses_either place) g
      (keep_front Whole (encloses_either place || g) x (spaced (Later (codes "or")) ∷ others)) in
      opened ∙ left ∙ two_counts (kept_tests x) (kept_tests y) right (close_counted (encloses_either place) rest)

  keep_is_spelled : (x : Expr) → FitsKeep version x → IsKeep x (syms (keep_front Whole false x [])) []
  keep_is_spelled x fits = record {
    few = omega (arith, keep_counted Whole false x [] fits.names, fits.few);
    expression = keep_spelled Whole NESTING_LIMIT false x [] fits.flat fits.names;
  }

  open_writable : (enclosed g : Bool) (rest : List Piece) → AreWritable version rest
      → AreWritable version (open_front enclosed g rest)
  open_writable false g rest writable = writable
  open_writable true g rest writable = (IsSignText.opening, tt, writable)

  close_flows : (enclosed : Bool) (rest : List Piece) → Flows rest → Flows (close_front enclosed rest)
  close_flows false rest flows = flows
  close_flows true rest flows = record { writable = (IsSignText.closing, tt, flows.writable); closed = refl }

  keep_writable : 2 ≤ version → (place : Place) (g : Bool) (x : Expr) (rest : List Piece)
      → EachFits (FitsName version) (kept_tests x) → Flows rest → AreWritable version (keep_front place g x rest)
  keep_writable later place g (keeps.Test x) rest fits flows =
      (name_is_writable x fits.0, flows.closed, flows.writable)
  keep_writable later place g (keeps.Not x) rest fits flows = (
    second_word (codes "not") refl refl later,
    keep_closed Operand x rest,
    keep_writable later Operand false x rest fits flows,
  )
  keep_writable later place g (Both x y) rest fits flows =
      let right : Flows (keep_front Operand false y (close_front (encloses_both place) rest)) = record {
        writable = keep_writable later Operand false y (close_front (encloses_both place) rest)
            (right_fit (kept_tests x) (kept_tests y) fits) (close_flows (encloses_both place) rest flows);
        closed = keep_closed Operand y (close_front (encloses_both place) rest);
      } in
      open_writable (encloses_both place) g _
      (keep_writable later Conjunct (encloses_both place || g) x _ (left_fit (kept_tests x) (kept_tests y) fits)
      (a_word (codes "and") _ refl right))
  keep_writable later place g (Either x y) rest fits flows =
      let right : Flows (keep_front Conjunct false y (close_front (encloses_either place) rest)) = record {
        writable = keep_writable later Conjunct false y (close_front (encloses_either place) rest)
            (right_fit (kept_tests x) (kept_tests y) fits) (close_flows (encloses_either place) rest flows);
        closed = keep_closed Conjunct y (close_front (encloses_either place) rest);
      } in
      open_writable (encloses_either place) g _
      (keep_writable later Whole (encloses_either place || g) x _ (left_fit (kept_tests x) (kept_tests y) fits)
      (a_later (codes "or") _ (second_word (codes "or") refl refl later) right))

  keep_line_writable : (x : Expr) → FitsKeep version x
      → AreWritable version (glued (Later (codes "keep")) ∷ keep_front Whole false x [])
  keep_line_writable x fits = (
    second_word (codes "keep") refl refl fits.later,
    keep_closed Whole x [],
    keep_writable fits.later Whole false x [] fits.names nothing,
  )

  -- lines

  pub kind_spelled : (x : KindTree) → FitsKind version x → IsPart version x (syms (kind_front x []))
  kind_spelled (Columns xs) fits = IsLine.columns refl (items_spelled xs [] fits)
  kind_spelled (Labels xs) fits = IsLine.labels refl (names_spelled xs [] fits)
  kind_spelled (Measure part) fits = IsLine.measure refl (the_name fits.0) refl (cases_spelled part.cases [] fits.1)
  kind_spelled (Table part) fits = IsLine.table refl (the_name fits.0) refl (the_name fits.1) refl
      (names_spelled part.elements [] fits.2)
  kind_spelled (Times part) fits = IsLine.times refl (the_name fits.0) (the_name fits.1) refl
      (names_spelled part.products [] fits.2)
  kind_spelled (Automaton part) fits =
      IsLine.automaton refl (the_name fits.1) refl (names_spelled part.states _ fits.2) refl (the_name fits.3) refl
      (names_spelled part.letters [] fits.4)
  kind_spelled (Step part) fits = IsLine.step refl (the_name fits.1) (the_name fits.2) refl
      (names_spelled part.targets [] fits.3)
  kind_spelled (Generate s) fits = IsLine.generate refl (shape_spelled s)
  kind_spelled (Test t) fits = IsLine.test refl (test_spelled t fits)
  kind_spelled (Named x t) fits = IsLine.named fits.0 refl (the_name fits.1) refl (test_spelled t fits.2)
  kind_spelled (Keep x) fits = IsLine.keep refl (keep_is_spelled x fits)
  kind_spelled (Aggregate g) fits = IsLine.aggregate refl (goal_spelled g fits)

  -- the first piece of a line
  at_start : (x : List ℕ) (rest : List Piece) → is_first_word x ≡ true → Flows rest
      → AreWritable version (glued (Word x) ∷ rest)
  at_start x rest word flows = (first_word_is_writable version x word, flows.closed, flows.writable)

  later_start : (x : List ℕ) (rest : List Piece) → Writable version (Later x) → Flows rest
      → AreWritable version (glued (Later x) ∷ rest)
  later_start x rest word flows = (word, flows.closed, flows.writable)

  pub kind_writable : (x : KindTree) → FitsKind version x → AreWritable version (kind_front x [])
  kind_writable (Columns xs) fits = at_start (codes "columns") _ refl (many_flow item_flows xs [] fits.1 nothing)
  kind_writable (Labels xs) fits = at_start (codes "labels") _ refl (names_flow xs [] fits nothing)
  kind_writable (Measure part) fits =
      at_start (codes "measure") _ refl
      (a_name part.name _ fits.0
      (a_sign (codes "=") _ IsSignText.equal (cases_flow part.cases [] fits.1 nothing).writable))
  kind_writable (Table part) fits =
      at_start (codes "table") _ refl
      (a_name part.name _ fits.0 (a_word (codes "unit") _ refl (a_name part.unit _ fits.1
      (a_word (codes "elements") _ refl (names_flow part.elements [] fits.2 nothing)))))
  kind_writable (Times part) fits =
      at_start (codes "times") _ refl
      (a_name part.table _ fits.0 (a_name part.element _ fits.1 (a_sign (codes "=") _ IsSignText.equal
      (names_flow part.products [] fits.2 nothing).writable)))
  kind_writable (Automaton part) fits =
      later_start (codes "automaton") _ (third_word (codes "automaton") refl refl refl fits.0)
      (a_name part.name _ fits.1
      (a_later (codes "states") _ (third_word (codes "states") refl refl refl fits.0)
      (names_flow part.states _ fits.2
      (a_later (codes "start") _ (third_word (codes "start") refl refl refl fits.0)
      (a_name part.start _ fits.3
      (a_later (codes "letters") _ (third_word (codes "letters") refl refl refl fits.0)
      (names_flow part.letters [] fits.4 nothing)))))))
  kind_writable (Step part) fits =
      later_start (codes "step") _ (third_word (codes "step") refl refl refl fits.0)
      (a_name part.automaton _ fits.1 (a_name part.letter _ fits.2 (a_sign (codes "=") _ IsSignText.equal
      (names_flow part.targets [] fits.3 nothing).writable)))
  kind_writable (Generate s) fits = at_start (codes "generate") _ refl
      (a_word (shape_word s) [] (shape_is_first s) nothing)
  kind_writable (Test t) fits = at_start (codes "test") _ refl (test_flows t fits)
  kind_writable (Named x t) fits =
      at_start (codes "test") _ refl
      (a_name x _ fits.1 (a_sign (codes "=") _ IsSignText.equal (test_flows t fits.2).writable))
  kind_writable (Keep x) fits = keep_line_writable x fits
  kind_writable (Aggregate g) fits = at_start (codes "aggregate") _ refl (goal_flows g fits)
