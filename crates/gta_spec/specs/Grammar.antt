-- The grammar of a line.
-- `IsX x ts rest` says that the symbols ts are an X that says x, and then rest.
use Rattle.std.specs.Prelude.{◌≡◌, ℕ, zero, suc, ◌+◌, ◌≤◌, Bool, true, false, List, [], ◌∷◌, ℤ, pos, neg_ℤ}
use Rattle.std.specs.Prelude.{length as how_many, Some, None, codes}
use Rattle.shape_gen.specs.declared.shape.Shape.{Shape}
use Rattle.shape_gen.specs.declared.shape.Shape.TheVariants as shapes
use Rattle.gta_text.specs.Names.{is_name_text}
use Rattle.gta_spec.specs.declared.parts.ColumnItem.{ColumnItem}
use Rattle.gta_spec.specs.declared.parts.TermPart.{TermPart}
use Rattle.gta_spec.specs.declared.parts.AtomPart.{AtomPart}
use Rattle.gta_spec.specs.declared.parts.AtomPart.TheVariants.{Label, Column}
use Rattle.gta_spec.specs.declared.parts.Cmp.{Cmp}
use Rattle.gta_spec.specs.declared.parts.Cmp.TheVariants.{AtMost, AtLeast, Equal}
use Rattle.gta_spec.specs.declared.parts.Check.{Check}
use Rattle.gta_spec.specs.declared.parts.Check.TheVariants.{Compare, Mod}
use Rattle.gta_spec.specs.declared.parts.GoalPart.{GoalPart}
use Rattle.gta_spec.specs.declared.parts.GoalPart.TheVariants.{Count, Any, Max, Min, Best, Ranked}
use Rattle.gta_spec.specs.declared.parts.RankPart.{RankPart}
use Rattle.gta_spec.specs.declared.limits.TheConstants.{KEPT_NAME_LIMIT, NESTING_LIMIT, RANK_LIMIT}
use Rattle.gta_spec.specs.Parts.{CaseTree, PickTree, TestTree, Sum, Length, Fold, Run, KindTree, Columns, Labels}
use Rattle.gta_spec.specs.Parts.{Measure, Table, Times, Automaton, Step, Generate, Test, Named, Keep, Aggregate}
use Rattle.gta_spec.specs.Keep as keeps
use Rattle.gta_spec.specs.Keep.{KeepTree, all_of, any_of, one_if}
use Rattle.gta_spec.specs.Symbols.{Symbol, Word, Later, Digits, Text, Sign, Stray}

abbrev pub IsWord : List ℕ → List Symbol → List Symbol → Type 0
IsWord w ts rest = ts ≡ Word w ∷ rest

-- a word that the version reserves, and version 1 doesn't
abbrev pub IsLater : List ℕ → List Symbol → List Symbol → Type 0
IsLater w ts rest = ts ≡ Later w ∷ rest

abbrev pub IsSign : List ℕ → List Symbol → List Symbol → Type 0
IsSign s ts rest = ts ≡ Sign s ∷ rest

abbrev pub IsDigits : ℕ → List Symbol → List Symbol → Type 0
IsDigits n ts rest = ts ≡ Digits n ∷ rest

abbrev pub IsText : List ℕ → List Symbol → List Symbol → Type 0
IsText x ts rest = ts ≡ Text x ∷ rest

-- NAME: a word that is not reserved
pub record IsName (x : List ℕ) (ts rest : List Symbol) : Type 0 where
  pub front : ts ≡ Word x ∷ rest
  pub free : is_name_text x ≡ true

-- { X }
pub data Many {A : Type 0} (Is : A → List Symbol → List Symbol → Type 0)
    : List A → List Symbol → List Symbol → Type 0 where
  none : {ts : List Symbol} → Many Is [] ts ts
  some : {x : A} {xs : List A} {ts a rest : List Symbol} → Is x ts a → Many Is xs a rest
      → Many Is (x ∷ xs) ts rest

-- X { Y }, where X and Y say the same kind of thing
pub data Listed {A : Type 0} (First Next : A → List Symbol → List Symbol → Type 0)
    : List A → List Symbol → List Symbol → Type 0 where
  listed : {x : A} {xs : List A} {ts a rest : List Symbol} → First x ts a → Many Next xs a rest
      → Listed First Next (x ∷ xs) ts rest

-- a mark, and then X
pub data Behind {A : Type 0} (Mark : List Symbol → List Symbol → Type 0)
    (Is : A → List Symbol → List Symbol → Type 0) : A → List Symbol → List Symbol → Type 0 where
  behind : {x : A} {ts a rest : List Symbol} → Mark ts a → Is x a rest → Behind Mark Is x ts rest

-- NAME { NAME }
abbrev pub IsNames : List (List ℕ) → List Symbol → List Symbol → Type 0
IsNames = Listed IsName IsName

-- [ "-" ] DIGITS
pub data IsNum : ℤ → List Symbol → List Symbol → Type 0 where
  plain : {n : ℕ} {ts rest : List Symbol} → IsDigits n ts rest → IsNum (pos n) ts rest
  minus : {n : ℕ} {ts a rest : List Symbol} → IsSign (codes "-") ts a → IsDigits n a rest
      → IsNum (neg_ℤ (pos n)) ts rest

-- NAME [ "=" TEXT ]
pub data IsItem : ColumnItem → List Symbol → List Symbol → Type 0 where
  bare : {x : List ℕ} {ts rest : List Symbol} → IsName x ts rest
      → IsItem (record { name = x; header = None }) ts rest
  headed : {x t : List ℕ} {ts a b rest : List Symbol} → IsName x ts a → IsSign (codes "=") a b
      → IsText t b rest
      → IsItem (record { name = x; header = Some t }) ts rest

-- "<=" | ">=" | "="
pub data IsCmp : Cmp → List Symbol → List Symbol → Type 0 where
  at_most : {ts rest : List Symbol} → IsSign (codes "<=") ts rest → IsCmp AtMost ts rest
  at_least : {ts rest : List Symbol} → IsSign (codes ">=") ts rest → IsCmp AtLeast ts rest
  equal : {ts rest : List Symbol} → IsSign (codes "=") ts rest → IsCmp Equal ts rest

-- "label" NAME | NAME cmp NUM
pub data IsAtom : AtomPart → List Symbol → List Symbol → Type 0 where
  label : {x : List ℕ} {ts a rest : List Symbol} → IsWord (codes "label") ts a → IsName x a rest
      → IsAtom (Label x) ts rest
  column : {x : List ℕ} {c : Cmp} {z : ℤ} {ts a b rest : List Symbol} → IsName x ts a → IsCmp c a b
      → IsNum z b rest
      → IsAtom (Column x c z) ts rest

-- "and" atom
abbrev pub IsAnd : AtomPart → List Symbol → List Symbol → Type 0
IsAnd = Behind (IsWord (codes "and")) IsAtom

-- atom { "and" atom }
abbrev pub IsCond : List AtomPart → List Symbol → List Symbol → Type 0
IsCond = Listed IsAtom IsAnd

-- [ "if" cond ]
pub data IsIf : List AtomPart → List Symbol → List Symbol → Type 0 where
  always : {ts : List Symbol} → IsIf [] ts ts
  given : {xs : List AtomPart} {ts a rest : List Symbol} → IsWord (codes "if") ts a
      → IsCond xs a rest → IsIf xs ts rest

-- DIGITS | NAME | DIGITS "*" NAME, behind a minus or not
pub data IsTerm (minus : Bool) : TermPart → List Symbol → List Symbol → Type 0 where
  constant : {n : ℕ} {ts rest : List Symbol} → IsDigits n ts rest
      → IsTerm minus (record { minus = minus; number = Some n; name = None }) ts rest
  column : {x : List ℕ} {ts rest : List Symbol} → IsName x ts rest
      → IsTerm minus (record { minus = minus; number = None; name = Some x }) ts rest
  multiple : {n : ℕ} {x : List ℕ} {ts a b rest : List Symbol} → IsDigits n ts a
      → IsSign (codes "*") a b → IsName x b rest
      → IsTerm minus (record { minus = minus; number = Some n; name = Some x }) ts rest

-- [ "-" ] term
pub data IsFirstTerm : TermPart → List Symbol → List Symbol → Type 0 where
  plain : {x : TermPart} {ts rest : List Symbol} → IsTerm false x ts rest → IsFirstTerm x ts rest
  minus : {x : TermPart} {ts a rest : List Symbol} → IsSign (codes "-") ts a → IsTerm true x a rest
      → IsFirstTerm x ts rest

-- ( "+" | "-" ) term
pub data IsNextTerm : TermPart → List Symbol → List Symbol → Type 0 where
  plus : {x : TermPart} {ts a rest : List Symbol} → IsSign (codes "+") ts a → IsTerm false x a rest
      → IsNextTerm x ts rest
  minus : {x : TermPart} {ts a rest : List Symbol} → IsSign (codes "-") ts a → IsTerm true x a rest
      → IsNextTerm x ts rest

-- [ "-" ] term { ( "+" | "-" ) term }
abbrev pub IsForm : List TermPart → List Symbol → List Symbol → Type 0
IsForm = Listed IsFirstTerm IsNextTerm

-- form [ "if" cond ]
pub data IsCase : CaseTree → List Symbol → List Symbol → Type 0 where
  case : {xs : List TermPart} {ys : List AtomPart} {ts a rest : List Symbol} → IsForm xs ts a
      → IsIf ys a rest
      → IsCase (record { form = xs; cond = ys }) ts rest

-- ";" case
abbrev pub IsNextCase : CaseTree → List Symbol → List Symbol → Type 0
IsNextCase = Behind (IsSign (codes ";")) IsCase

-- case { ";" case }
abbrev pub IsCases : List CaseTree → List Symbol → List Symbol → Type 0
IsCases = Listed IsCase IsNextCase

-- NAME [ "if" cond ]
pub data IsPick : PickTree → List Symbol → List Symbol → Type 0 where
  pick : {x : List ℕ} {ys : List AtomPart} {ts a rest : List Symbol} → IsName x ts a
      → IsIf ys a rest
      → IsPick (record { element = x; cond = ys }) ts rest

-- ";" pick
abbrev pub IsNextPick : PickTree → List Symbol → List Symbol → Type 0
IsNextPick = Behind (IsSign (codes ";")) IsPick

-- pick { ";" pick }
abbrev pub IsPicks : List PickTree → List Symbol → List Symbol → Type 0
IsPicks = Listed IsPick IsNextPick

-- cmp NUM | "mod" DIGITS "=" DIGITS
pub data IsCheck : Check → List Symbol → List Symbol → Type 0 where
  compare : {c : Cmp} {z : ℤ} {ts a rest : List Symbol} → IsCmp c ts a → IsNum z a rest
      → IsCheck (Compare c z) ts rest
  modulo : {m r : ℕ} {ts a b c rest : List Symbol} → IsWord (codes "mod") ts a → IsDigits m a b
      → IsSign (codes "=") b c → IsDigits r c rest
      → IsCheck (Mod m r) ts rest

-- "sum" NAME check | "length" check | ( "fold" | "run" ) NAME "by" picks "accept" NAME { NAME }
pub data IsTest : TestTree → List Symbol → List Symbol → Type 0 where
  sum : {x : List ℕ} {k : Check} {ts a b rest : List Symbol} → IsWord (codes "sum") ts a
      → IsName x a b → IsCheck k b rest → IsTest (Sum x k) ts rest
  length : {k : Check} {ts a rest : List Symbol} → IsWord (codes "length") ts a → IsCheck k a rest
      → IsTest (Length k) ts rest
  fold : {x : List ℕ} {ps : List PickTree} {es : List (List ℕ)} {ts a b c d e rest : List Symbol}
      → IsWord (codes "fold") ts a → IsName x a b → IsWord (codes "by") b c → IsPicks ps c d
      → IsWord (codes "accept") d e → IsNames es e rest
      → IsTest (Fold x ps es) ts rest
  run : {x : List ℕ} {ps : List PickTree} {es : List (List ℕ)} {ts a b c d e rest : List Symbol}
      → IsLater (codes "run") ts a → IsName x a b → IsWord (codes "by") b c → IsPicks ps c d
      → IsWord (codes "accept") d e → IsNames es e rest
      → IsTest (Run x ps es) ts rest

-- "sublists" | "segments" | "prefixes" | "suffixes" | "assign"
pub data IsShape : Shape → List Symbol → List Symbol → Type 0 where
  sublists : {ts rest : List Symbol} → IsWord (codes "sublists") ts rest
      → IsShape shapes.Sublists ts rest
  segments : {ts rest : List Symbol} → IsWord (codes "segments") ts rest
      → IsShape shapes.Segments ts rest
  prefixes : {ts rest : List Symbol} → IsWord (codes "prefixes") ts rest
      → IsShape shapes.Prefixes ts rest
  suffixes : {ts rest : List Symbol} → IsWord (codes "suffixes") ts rest
      → IsShape shapes.Suffixes ts rest
  assign : {ts rest : List Symbol} → IsWord (codes "assign") ts rest → IsShape shapes.Assign ts rest

-- "max" | "min"
pub data IsEnd : Bool → List Symbol → List Symbol → Type 0 where
  greatest : {ts rest : List Symbol} → IsWord (codes "max") ts rest → IsEnd true ts rest
  least : {ts rest : List Symbol} → IsWord (codes "min") ts rest → IsEnd false ts rest

-- ( "max" | "min" ) NAME
pub data IsFirstRank : RankPart → List Symbol → List Symbol → Type 0 where
  rank : {greatest : Bool} {x : List ℕ} {ts a rest : List Symbol} → IsEnd greatest ts a → IsName x a rest
      → IsFirstRank (record { greatest = greatest; name = x }) ts rest

-- "then" ( "max" | "min" ) NAME
abbrev pub IsNextRank : RankPart → List Symbol → List Symbol → Type 0
IsNextRank = Behind (IsLater (codes "then")) IsFirstRank

-- ( "max" | "min" ) NAME rank [ rank ]
pub record IsRanks (keys : List RankPart) (ts rest : List Symbol) : Type 0 where
  pub ranks : Listed IsFirstRank IsNextRank keys ts rest
  pub several : 2 ≤ how_many keys
  pub few : how_many keys ≤ RANK_LIMIT

-- "count" | "any" | "max" NAME | "min" NAME | "best" DIGITS ( "max" | "min" ) NAME
-- | ranks | "best" DIGITS ranks
pub data IsGoal : GoalPart → List Symbol → List Symbol → Type 0 where
  count : {ts rest : List Symbol} → IsWord (codes "count") ts rest → IsGoal Count ts rest
  any : {ts rest : List Symbol} → IsWord (codes "any") ts rest → IsGoal Any ts rest
  max : {x : List ℕ} {ts a rest : List Symbol} → IsWord (codes "max") ts a → IsName x a rest
      → IsGoal (Max x) ts rest
  min : {x : List ℕ} {ts a rest : List Symbol} → IsWord (codes "min") ts a → IsName x a rest
      → IsGoal (Min x) ts rest
  best : {k : ℕ} {greatest : Bool} {x : List ℕ} {ts a b c rest : List Symbol}
      → IsWord (codes "best") ts a → IsDigits k a b → IsEnd greatest b c → IsName x c rest
      → IsGoal (Best k greatest x) ts rest
  ranked : {keys : List RankPart} {ts rest : List Symbol} → IsRanks keys ts rest
      → IsGoal (Ranked None keys) ts rest
  best_ranked : {k : ℕ} {keys : List RankPart} {ts a b rest : List Symbol} → IsWord (codes "best") ts a
      → IsDigits k a b → IsRanks keys b rest
      → IsGoal (Ranked (Some k) keys) ts rest

-- how many of the symbols are names
abbrev pub names_among : List Symbol → ℕ
names_among [] = 0
names_among (Word x ∷ ts) = one_if (is_name_text x) + names_among ts
names_among (Later x ∷ ts) = names_among ts
names_among (Digits n ∷ ts) = names_among ts
names_among (Text x ∷ ts) = names_among ts
names_among (Sign s ∷ ts) = names_among ts
names_among (Stray ∷ ts) = names_among ts

-- an expression over names
abbrev pub Expr : Type 0
Expr = KeepTree (List ℕ)

-- lit { "and" lit }
pub data IsConj (IsLit : Expr → List Symbol → List Symbol → Type 0) : Expr → List Symbol → List Symbol → Type 0 where
  conj : {x : Expr} {xs : List Expr} {ts rest : List Symbol}
      → Listed IsLit (Behind (IsWord (codes "and")) IsLit) (x ∷ xs) ts rest
      → IsConj IsLit (all_of x xs) ts rest

-- conj { "or" conj }
pub data IsExpr (IsLit : Expr → List Symbol → List Symbol → Type 0) : Expr → List Symbol → List Symbol → Type 0 where
  expr : {x : Expr} {xs : List Expr} {ts rest : List Symbol}
      → Listed (IsConj IsLit) (Behind (IsLater (codes "or")) (IsConj IsLit)) (x ∷ xs) ts rest
      → IsExpr IsLit (any_of x xs) ts rest

-- "not" lit | NAME | "(" expr ")", where the literals within are these
pub data IsLitOver (IsInner : Expr → List Symbol → List Symbol → Type 0) : Expr → List Symbol → List Symbol
    → Type 0 where
  test : {x : List ℕ} {ts rest : List Symbol} → IsName x ts rest → IsLitOver IsInner (keeps.Test x) ts rest
  not : {x : Expr} {ts a rest : List Symbol} → IsLater (codes "not") ts a → IsInner x a rest
      → IsLitOver IsInner (keeps.Not x) ts rest
  nested : {x : Expr} {ts a b rest : List Symbol} → IsSign (codes "(") ts a → IsExpr IsInner x a b
      → IsSign (codes ")") b rest
      → IsLitOver IsInner x ts rest

-- a literal, in which at most so many `not` and pairs of parentheses enclose any place
abbrev pub IsLit : ℕ → Expr → List Symbol → List Symbol → Type 0
IsLit zero = IsLitOver (λ x ts rest. ⊥)
IsLit (suc n) = IsLitOver (IsLit n)

-- the expression of a line, with a bound on its names and on what encloses them
pub record IsKeep (x : Expr) (ts rest : List Symbol) : Type 0 where
  pub few : names_among ts ≤ KEPT_NAME_LIMIT
  pub expression : IsExpr (IsLit NESTING_LIMIT) x ts rest

-- a line: the word that begins it, and what that word asks for
pub data IsLine (version : ℕ) : KindTree → List Symbol → List Symbol → Type 0 where
  columns : {xs : List ColumnItem} {ts a rest : List Symbol} → IsWord (codes "columns") ts a
      → Listed IsItem IsItem xs a rest → IsLine version (Columns xs) ts rest
  labels : {xs : List (List ℕ)} {ts a rest : List Symbol} → IsWord (codes "labels") ts a
      → IsNames xs a rest → IsLine version (Labels xs) ts rest
  measure : {x : List ℕ} {ks : List CaseTree} {ts a b c rest : List Symbol}
      → IsWord (codes "measure") ts a → IsName x a b → IsSign (codes "=") b c → IsCases ks c rest
      → IsLine version (Measure (record { name = x; cases = ks })) ts rest
  table : {x u : List ℕ} {es : List (List ℕ)} {ts a b c d e rest : List Symbol}
      → IsWord (codes "table") ts a → IsName x a b → IsWord (codes "unit") b c → IsName u c d
      → IsWord (codes "elements") d e → IsNames es e rest
      → IsLine version (Table (record { name = x; unit = u; elements = es })) ts rest
  times : {x y : List ℕ} {ps : List (List ℕ)} {ts a b c d rest : List Symbol}
      → IsWord (codes "times") ts a → IsName x a b → IsName y b c → IsSign (codes "=") c d
      → IsNames ps d rest
      → IsLine version (Times (record { table = x; element = y; products = ps })) ts rest
  automaton : {x s : List ℕ} {ps ls : List (List ℕ)} {ts a b c d e f g rest : List Symbol}
      → IsLater (codes "automaton") ts a → IsName x a b → IsLater (codes "states") b c → IsNames ps c d
      → IsLater (codes "start") d e → IsName s e f → IsLater (codes "letters") f g → IsNames ls g rest
      → IsLine version (Automaton (record { name = x; states = ps; start = s; letters = ls })) ts rest
  step : {x y : List ℕ} {ps : List (List ℕ)} {ts a b c d rest : List Symbol}
      → IsLater (codes "step") ts a → IsName x a b → IsName y b c → IsSign (codes "=") c d
      → IsNames ps d rest
      → IsLine version (Step (record { automaton = x; letter = y; targets = ps })) ts rest
  generate : {s : Shape} {ts a rest : List Symbol} → IsWord (codes "generate") ts a
      → IsShape s a rest → IsLine version (Generate s) ts rest
  test : {t : TestTree} {ts a rest : List Symbol} → IsWord (codes "test") ts a → IsTest t a rest
      → IsLine version (Test t) ts rest
  named : {x : List ℕ} {t : TestTree} {ts a b c rest : List Symbol} → 2 ≤ version
      → IsWord (codes "test") ts a → IsName x a b → IsSign (codes "=") b c → IsTest t c rest
      → IsLine version (Named x t) ts rest
  keep : {x : Expr} {ts a rest : List Symbol} → IsLater (codes "keep") ts a → IsKeep x a rest
      → IsLine version (Keep x) ts rest
  aggregate : {g : GoalPart} {ts a rest : List Symbol} → IsWord (codes "aggregate") ts a
      → IsGoal g a rest → IsLine version (Aggregate g) ts rest

-- the whole line
abbrev pub IsPart : ℕ → KindTree → List Symbol → Type 0
IsPart version part ts = IsLine version part ts []
