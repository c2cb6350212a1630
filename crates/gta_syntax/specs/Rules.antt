-- Reading a line from left to right: for each rule of the grammar what it says, and the symbols left.
use Rattle.std.specs.Prelude.{◌≡◌, ℕ, zero, suc, Bool, true, false, ◌||◌, List, [], ◌∷◌, length, ℤ, pos, neg_ℤ}
use Rattle.std.specs.Prelude.{nat_le, nat_lt, Option, Some, None, Result, Ok, Err, if◌then◌else◌, codes, is_some}
use Rattle.std.specs.Str.{bytes_eq}
use Rattle.shape_gen.specs.declared.shape.Shape.{Shape}
use Rattle.shape_gen.specs.declared.shape.Shape.TheVariants as shapes
use Rattle.gta_text.specs.Names.{is_name_text}
use Rattle.gta_spec.specs.declared.parts.ColumnItem.{ColumnItem}
use Rattle.gta_spec.specs.declared.parts.TermPart.{TermPart}
use Rattle.gta_spec.specs.declared.parts.AtomPart.{AtomPart}
use Rattle.gta_spec.specs.declared.parts.AtomPart.TheVariants.{Label, Column}
use Rattle.gta_spec.specs.declared.parts.Cmp.{Cmp}
use Rattle.gta_spec.specs.declared.parts.Cmp.TheVariants.{AtMost, AtLeast, Equal}
use Rattle.gta_spec.specs.declared.parts.Check.{Check}
use Rattle.gta_spec.specs.declared.parts.Check.TheVariants.{Compare, Mod}
use Rattle.gta_spec.specs.declared.parts.GoalPart.{GoalPart}
use Rattle.gta_spec.specs.declared.parts.GoalPart.TheVariants.{Count, Any, Max, Min, Best, Ranked}
use Rattle.gta_spec.specs.declared.parts.RankPart.{RankPart}
use Rattle.gta_spec.specs.declared.limits.TheConstants.{KEPT_NAME_LIMIT, NESTING_LIMIT, RANK_LIMIT}
use Rattle.gta_syntax.specs.declared.fault.LineFault.{LineFault}
use Rattle.gta_syntax.specs.declared.fault.LineFault.TheVariants as faults
use Rattle.gta_spec.specs.Parts.{CaseTree, PickTree, TestTree, Sum, Length, Fold, Run, KindTree, Columns, Labels}
use Rattle.gta_spec.specs.Parts.{Measure, Table, Times, Automaton, Step, Generate, Test, Named, Keep, Aggregate}
use Rattle.gta_spec.specs.Symbols.{Symbol, Word, Later, Digits, Text, Sign, Stray}
use Rattle.gta_spec.specs.Keep as keeps
use Rattle.gta_spec.specs.Keep.{all_of, any_of}
use Rattle.gta_spec.specs.Grammar.{Expr, names_among}

infixl 10 ◌>>=◌
abbrev pub ◌>>=◌ : {A B : Type 0} → Option A → (A → Option B) → Option B
(Some x) >>= f = f x
None >>= f = None

-- f of what was read, or the other where nothing was
abbrev pub choose : {A B : Type 0} → Option A → (A → Option B) → Option B → Option B
choose None f other = other
choose (Some x) f other = f x

-- what a function returned, seen by view, is what reading gives, unless memory ran out
abbrev pub Fails : {V : Type 0} → LineFault → Option V → Type 0
Fails faults.Memory read = Unit {0}
Fails faults.Grammar read = read ≡ None

abbrev pub Gives : {X V : Type 0} → (X → V) → Result X LineFault → Option V → Type 0
Gives view (Ok x) read = read ≡ Some (view x)
Gives view (Err fault) read = Fails fault read

unfoldable pub word_at : List ℕ → List Symbol → Option (List Symbol)
word_at w [] = None
word_at w (Word x ∷ rest) = if bytes_eq x w then Some rest else None
word_at w (Later x ∷ rest) = None
word_at w (Digits n ∷ rest) = None
word_at w (Text x ∷ rest) = None
word_at w (Sign s ∷ rest) = None
word_at w (Stray ∷ rest) = None

unfoldable pub later_at : List ℕ → List Symbol → Option (List Symbol)
later_at w [] = None
later_at w (Word x ∷ rest) = None
later_at w (Later x ∷ rest) = if bytes_eq x w then Some rest else None
later_at w (Digits n ∷ rest) = None
later_at w (Text x ∷ rest) = None
later_at w (Sign s ∷ rest) = None
later_at w (Stray ∷ rest) = None

unfoldable pub sign_at : List ℕ → List Symbol → Option (List Symbol)
sign_at s [] = None
sign_at s (Word x ∷ rest) = None
sign_at s (Later x ∷ rest) = None
sign_at s (Digits n ∷ rest) = None
sign_at s (Text x ∷ rest) = None
sign_at s (Sign x ∷ rest) = if bytes_eq x s then Some rest else None
sign_at s (Stray ∷ rest) = None

unfoldable pub digits_at : List Symbol → Option (ℕ × List Symbol)
digits_at [] = None
digits_at (Word x ∷ rest) = None
digits_at (Later x ∷ rest) = None
digits_at (Digits n ∷ rest) = Some (n, rest)
digits_at (Text x ∷ rest) = None
digits_at (Sign x ∷ rest) = None
digits_at (Stray ∷ rest) = None

unfoldable pub text_at : List Symbol → Option (List ℕ × List Symbol)
text_at [] = None
text_at (Word x ∷ rest) = None
text_at (Later x ∷ rest) = None
text_at (Digits n ∷ rest) = None
text_at (Text x ∷ rest) = Some (x, rest)
text_at (Sign x ∷ rest) = None
text_at (Stray ∷ rest) = None

unfoldable pub name_at : List Symbol → Option (List ℕ × List Symbol)
name_at [] = None
name_at (Word x ∷ rest) = if is_name_text x then Some (x, rest) else None
name_at (Later x ∷ rest) = None
name_at (Digits n ∷ rest) = None
name_at (Text x ∷ rest) = None
name_at (Sign x ∷ rest) = None
name_at (Stray ∷ rest) = None

-- items as long as one begins, at most this many
unfoldable pub many : {A : Type 0} → (List Symbol → Bool) → (List Symbol → Option (A × List Symbol))
    → ℕ → List Symbol → Option (List A × List Symbol)
many begins read zero ts = Some ([], ts)
many begins read (suc n) ts =
    if begins ts then (do
      x ← read ts
      xs ← many begins read n x.1
      Some (x.0 ∷ xs.0, xs.1))
    else Some ([], ts)

-- a first item, and then items as long as one begins
unfoldable pub list_at : {A : Type 0} → (List Symbol → Option (A × List Symbol))
    → (List Symbol → Bool) → (List Symbol → Option (A × List Symbol)) → List Symbol
    → Option (List A × List Symbol)
list_at first begins next ts = do
  x ← first ts
  xs ← many begins next (length x.1) x.1
  Some (x.0 ∷ xs.0, xs.1)

abbrev pub begins_name : List Symbol → Bool
begins_name ts = is_some (name_at ts)

abbrev pub begins_word : List ℕ → List Symbol → Bool
begins_word w ts = is_some (word_at w ts)

abbrev pub begins_later : List ℕ → List Symbol → Bool
begins_later w ts = is_some (later_at w ts)

abbrev pub begins_sign : List ℕ → List Symbol → Bool
begins_sign s ts = is_some (sign_at s ts)

abbrev pub begins_next_term : List Symbol → Bool
begins_next_term ts = begins_sign (codes "+") ts || begins_sign (codes "-") ts

abbrev pub names_at : List Symbol → Option (List (List ℕ) × List Symbol)
names_at = list_at name_at begins_name name_at

unfoldable pub num_at : List Symbol → Option (ℤ × List Symbol)
num_at ts = choose (sign_at (codes "-") ts)
    (λ a. do
      n ← digits_at a
      Some (neg_ℤ (pos n.0), n.1))
    (do
      n ← digits_at ts
      Some (pos n.0, n.1))

unfoldable pub item_at : List Symbol → Option (ColumnItem × List Symbol)
item_at ts = do
  x ← name_at ts
  choose (sign_at (codes "=") x.1)
      (λ a. do
        t ← text_at a
        Some (record { name = x.0; header = Some t.0 }, t.1))
      (Some (record { name = x.0; header = None }, x.1))

unfoldable pub cmp_at : List Symbol → Option (Cmp × List Symbol)
cmp_at ts = choose (sign_at (codes "<=") ts) (λ a. Some (AtMost, a))
    (choose (sign_at (codes ">=") ts) (λ a. Some (AtLeast, a))
    (do
      a ← sign_at (codes "=") ts
      Some (Equal, a)))

unfoldable pub atom_at : List Symbol → Option (AtomPart × List Symbol)
atom_at ts = choose (word_at (codes "label") ts)
    (λ a. do
      x ← name_at a
      Some (Label x.0, x.1))
    (do
      x ← name_at ts
      c ← cmp_at x.1
      z ← num_at c.1
      Some (Column x.0 c.0 z.0, z.1))

unfoldable pub and_at : List Symbol → Option (AtomPart × List Symbol)
and_at ts = do
  a ← word_at (codes "and") ts
  atom_at a

abbrev pub cond_at : List Symbol → Option (List AtomPart × List Symbol)
cond_at = list_at atom_at (begins_word (codes "and")) and_at

unfoldable pub if_at : List Symbol → Option (List AtomPart × List Symbol)
if_at ts = choose (word_at (codes "if") ts) (λ a. cond_at a) (Some ([], ts))

unfoldable pub term_at : Bool → List Symbol → Option (TermPart × List Symbol)
term_at minus ts = choose (digits_at ts)
    (λ n. choose (sign_at (codes "*") n.1)
    (λ a. do
      x ← name_at a
      Some (record { minus = minus; number = Some n.0; name = Some x.0 }, x.1))
    (Some (record { minus = minus; number = Some n.0; name = None }, n.1)))
    (do
      x ← name_at ts
      Some (record { minus = minus; number = None; name = Some x.0 }, x.1))

unfoldable pub first_term_at : List Symbol → Option (TermPart × List Symbol)
first_term_at ts = choose (sign_at (codes "-") ts) (λ a. term_at true a) (term_at false ts)

unfoldable pub next_term_at : List Symbol → Option (TermPart × List Symbol)
next_term_at ts = choose (sign_at (codes "+") ts) (λ a. term_at false a)
    (do
      a ← sign_at (codes "-") ts
      term_at true a)

abbrev pub form_at : List Symbol → Option (List TermPart × List Symbol)
form_at = list_at first_term_at begins_next_term next_term_at

unfoldable pub case_at : List Symbol → Option (CaseTree × List Symbol)
case_at ts = do
  xs ← form_at ts
  ys ← if_at xs.1
  Some (record { form = xs.0; cond = ys.0 }, ys.1)

unfoldable pub next_case_at : List Symbol → Option (CaseTree × List Symbol)
next_case_at ts = do
  a ← sign_at (codes ";") ts
  case_at a

abbrev pub cases_at : List Symbol → Option (List CaseTree × List Symbol)
cases_at = list_at case_at (begins_sign (codes ";")) next_case_at

unfoldable pub pick_at : List Symbol → Option (PickTree × List Symbol)
pick_at ts = do
  x ← name_at ts
  ys ← if_at x.1
  Some (record { element = x.0; cond = ys.0 }, ys.1)

unfoldable pub next_pick_at : List Symbol → Option (PickTree × List Symbol)
next_pick_at ts = do
  a ← sign_at (codes ";") ts
  pick_at a

abbrev pub picks_at : List Symbol → Option (List PickTree × List Symbol)
picks_at = list_at pick_at (begins_sign (codes ";")) next_pick_at

unfoldable pub check_at : List Symbol → Option (Check × List Symbol)
check_at ts = choose (word_at (codes "mod") ts)
    (λ a. do
      m ← digits_at a
      b ← sign_at (codes "=") m.1
      r ← digits_at b
      Some (Mod m.0 r.0, r.1))
    (do
      c ← cmp_at ts
      z ← num_at c.1
      Some (Compare c.0 z.0, z.1))

-- the picks, and the names that are accepted
unfoldable pub by_at : List Symbol → Option ((List PickTree × List (List ℕ)) × List Symbol)
by_at ts = do
  a ← word_at (codes "by") ts
  ps ← picks_at a
  b ← word_at (codes "accept") ps.1
  es ← names_at b
  Some ((ps.0, es.0), es.1)

unfoldable pub fold_at : List Symbol → Option (TestTree × List Symbol)
fold_at ts = do
  x ← name_at ts
  y ← by_at x.1
  Some (Fold x.0 y.0.0 y.0.1, y.1)

unfoldable pub run_at : List Symbol → Option (TestTree × List Symbol)
run_at ts = do
  x ← name_at ts
  y ← by_at x.1
  Some (Run x.0 y.0.0 y.0.1, y.1)

unfoldable pub test_at : List Symbol → Option (TestTree × List Symbol)
test_at ts = choose (word_at (codes "sum") ts)
    (λ a. do
      x ← name_at a
      k ← check_at x.1
      Some (Sum x.0 k.0, k.1))
    (choose (word_at (codes "length") ts)
    (λ a. do
      k ← check_at a
      Some (Length k.0, k.1))
    (choose (later_at (codes "run") ts) (λ a. run_at a)
    (do
      a ← word_at (codes "fold") ts
      fold_at a)))

unfoldable pub shape_at : List Symbol → Option (Shape × List Symbol)
shape_at ts = choose (word_at (codes "sublists") ts) (λ a. Some (shapes.Sublists, a))
    (choose (word_at (codes "segments") ts) (λ a. Some (shapes.Segments, a))
    (choose (word_at (codes "prefixes") ts) (λ a. Some (shapes.Prefixes, a))
    (choose (word_at (codes "suffixes") ts) (λ a. Some (shapes.Suffixes, a))
    (do
      a ← word_at (codes "assign") ts
      Some (shapes.Assign, a)))))

unfoldable pub end_at : List Symbol → Option (Bool × List Symbol)
end_at ts = choose (word_at (codes "max") ts) (λ a. Some (true, a))
    (do
      a ← word_at (codes "min") ts
      Some (false, a))

unfoldable pub first_rank_at : List Symbol → Option (RankPart × List Symbol)
first_rank_at ts = do
  e ← end_at ts
  x ← name_at e.1
  Some (record { greatest = e.0; name = x.0 }, x.1)

unfoldable pub next_rank_at : List Symbol → Option (RankPart × List Symbol)
next_rank_at ts = do
  a ← later_at (codes "then") ts
  first_rank_at a

-- a first rank and the others, where they are not too many
unfoldable pub ranks_at : List Symbol → Option ((RankPart × List RankPart) × List Symbol)
ranks_at ts = do
  x ← first_rank_at ts
  xs ← many (begins_later (codes "then")) next_rank_at (length x.1) x.1
  if nat_lt (length xs.0) RANK_LIMIT then Some ((x.0, xs.0), xs.1) else None

-- what ranks ask for, where no number of candidates is said
abbrev pub goal_of : RankPart → List RankPart → GoalPart
goal_of rank [] = if rank.greatest then Max rank.name else Min rank.name
goal_of rank (next ∷ others) = Ranked None (rank ∷ next ∷ others)

-- the best k by these ranks
abbrev pub best_of : ℕ → RankPart → List RankPart → GoalPart
best_of k rank [] = Best k rank.greatest rank.name
best_of k rank (next ∷ others) = Ranked (Some k) (rank ∷ next ∷ others)

unfoldable pub best_at : List Symbol → Option (GoalPart × List Symbol)
best_at ts = do
  k ← digits_at ts
  xs ← ranks_at k.1
  Some (best_of k.0 xs.0.0 xs.0.1, xs.1)

unfoldable pub goal_at : List Symbol → Option (GoalPart × List Symbol)
goal_at ts = choose (word_at (codes "count") ts) (λ a. Some (Count, a))
    (choose (word_at (codes "any") ts) (λ a. Some (Any, a))
    (choose (word_at (codes "best") ts) (λ a. best_at a)
    (do
      xs ← ranks_at ts
      Some (goal_of xs.0.0 xs.0.1, xs.1))))

-- a reading of an expression, or of a piece of one
abbrev pub Reading : Type 0
Reading = List Symbol → Option (Expr × List Symbol)

-- lit { "and" lit }
unfoldable pub and_lit_with : Reading → Reading
and_lit_with lit ts = do
  a ← word_at (codes "and") ts
  lit a

unfoldable pub conj_with : Reading → Reading
conj_with lit ts = do
  x ← lit ts
  xs ← many (begins_word (codes "and")) (and_lit_with lit) (length x.1) x.1
  Some (all_of x.0 xs.0, xs.1)

-- conj { "or" conj }
unfoldable pub or_conj_with : Reading → Reading
or_conj_with lit ts = do
  a ← later_at (codes "or") ts
  conj_with lit a

unfoldable pub expr_with : Reading → Reading
expr_with lit ts = do
  x ← conj_with lit ts
  xs ← many (begins_later (codes "or")) (or_conj_with lit) (length x.1) x.1
  Some (any_of x.0 xs.0, xs.1)

-- a literal, by how the literals within it are read
unfoldable pub lit_over : Reading → Reading
lit_over inner ts = choose (later_at (codes "not") ts)
    (λ a. do
      x ← inner a
      Some (keeps.Not x.0, x.1))
    (choose (sign_at (codes "(") ts)
    (λ a. do
      x ← expr_with inner a
      b ← sign_at (codes ")") x.1
      Some (x.0, b))
    (do
      x ← name_at ts
      Some (keeps.Test x.0, x.1)))

-- a literal, with at most so many `not` and pairs of parentheses around any place
unfoldable pub lit_at : ℕ → Reading
lit_at zero = lit_over (λ ts. None)
lit_at (suc n) = lit_over (lit_at n)

unfoldable pub keep_at : Reading
keep_at ts = if nat_le (names_among ts) KEPT_NAME_LIMIT then expr_with (lit_at NESTING_LIMIT) ts else None

unfoldable pub measure_at : List Symbol → Option (KindTree × List Symbol)
measure_at ts = do
  x ← name_at ts
  a ← sign_at (codes "=") x.1
  ks ← cases_at a
  Some (Measure (record { name = x.0; cases = ks.0 }), ks.1)

unfoldable pub table_at : List Symbol → Option (KindTree × List Symbol)
table_at ts = do
  x ← name_at ts
  a ← word_at (codes "unit") x.1
  u ← name_at a
  b ← word_at (codes "elements") u.1
  es ← names_at b
  Some (Table (record { name = x.0; unit = u.0; elements = es.0 }), es.1)

unfoldable pub times_at : List Symbol → Option (KindTree × List Symbol)
times_at ts = do
  x ← name_at ts
  y ← name_at x.1
  a ← sign_at (codes "=") y.1
  ps ← names_at a
  Some (Times (record { table = x.0; element = y.0; products = ps.0 }), ps.1)

unfoldable pub automaton_at : List Symbol → Option (KindTree × List Symbol)
automaton_at ts = do
  x ← name_at ts
  a ← later_at (codes "states") x.1
  ps ← names_at a
  b ← later_at (codes "start") ps.1
  s ← name_at b
  c ← later_at (codes "letters") s.1
  ls ← names_at c
  Some (Automaton (record { name = x.0; states = ps.0; start = s.0; letters = ls.0 }), ls.1)

unfoldable pub step_at : List Symbol → Option (KindTree × List Symbol)
step_at ts = do
  x ← name_at ts
  y ← name_at x.1
  a ← sign_at (codes "=") y.1
  ps ← names_at a
  Some (Step (record { automaton = x.0; letter = y.0; targets = ps.0 }), ps.1)

abbrev pub kind_as : {A : Type 0} → (A → KindTree) → Option (A × List Symbol)
    → Option (KindTree × List Symbol)
kind_as make read = do
  x ← read
  Some (make x.0, x.1)

-- `= test` behind a name, from version 2 on
unfoldable pub named_at : ℕ → List ℕ → List Symbol → Option (KindTree × List Symbol)
named_at version x ts =
    if nat_le 2 version then (do
      a ← sign_at (codes "=") ts
      t ← test_at a
      Some (Named x t.0, t.1))
    else None

-- what follows the word that begins a line `test`
unfoldable pub test_line_at : ℕ → List Symbol → Option (KindTree × List Symbol)
test_line_at version ts = choose (name_at ts) (λ x. named_at version x.0 x.1) (kind_as Test (test_at ts))

-- a line whose first word version 1 doesn't reserve
unfoldable pub later_line_at : List Symbol → Option (KindTree × List Symbol)
later_line_at ts = choose (later_at (codes "keep") ts) (λ a. kind_as Keep (keep_at a))
    (choose (later_at (codes "automaton") ts) (λ a. automaton_at a)
    (do
      a ← later_at (codes "step") ts
      step_at a))

unfoldable pub line_at : ℕ → List Symbol → Option (KindTree × List Symbol)
line_at version ts =
    choose (word_at (codes "columns") ts) (λ a. kind_as Columns (list_at item_at begins_name item_at a))
    (choose (word_at (codes "labels") ts) (λ a. kind_as Labels (names_at a))
    (choose (word_at (codes "measure") ts) (λ a. measure_at a)
    (choose (word_at (codes "table") ts) (λ a. table_at a)
    (choose (word_at (codes "times") ts) (λ a. times_at a)
    (choose (word_at (codes "generate") ts) (λ a. kind_as Generate (shape_at a))
    (choose (word_at (codes "test") ts) (λ a. test_line_at version a)
    (choose (word_at (codes "aggregate") ts) (λ a. kind_as Aggregate (goal_at a))
    (later_line_at ts))))))))

-- x, where nothing is left
abbrev pub ended_by : {A : Type 0} → A → List Symbol → Option A
ended_by x [] = Some x
ended_by x (t ∷ ts) = None

-- the whole line
unfoldable pub part_at : ℕ → List Symbol → Option KindTree
part_at version ts = do
  x ← line_at version ts
  ended_by x.0 x.1
