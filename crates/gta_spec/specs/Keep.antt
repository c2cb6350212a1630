-- The expression of a line `keep`: what it comes to, its tests, and where its canonical text has parentheses.
use Rattle.std.specs.Prelude.{ℕ, ◌+◌, Bool, true, false, not, ◌&&◌, ◌||◌, List, [], ◌∷◌, ◌++◌, max}

-- a test, not an expression, both of two, or at least one of them
pub data KeepTree (A : Type 0) : Type 0 where
  Test : A → KeepTree A
  Not : KeepTree A → KeepTree A
  Both : KeepTree A → KeepTree A → KeepTree A
  Either : KeepTree A → KeepTree A → KeepTree A

-- what an expression comes to, by what each test does
abbrev pub keep_holds : {A : Type 0} → (A → Bool) → KeepTree A → Bool
keep_holds holds (Test x) = holds x
keep_holds holds (Not x) = not (keep_holds holds x)
keep_holds holds (Both x y) = keep_holds holds x && keep_holds holds y
keep_holds holds (Either x y) = keep_holds holds x || keep_holds holds y

-- the expression with each test replaced
abbrev pub keep_map : {A B : Type 0} → (A → B) → KeepTree A → KeepTree B
keep_map f (Test x) = Test (f x)
keep_map f (Not x) = Not (keep_map f x)
keep_map f (Both x y) = Both (keep_map f x) (keep_map f y)
keep_map f (Either x y) = Either (keep_map f x) (keep_map f y)

-- the tests, from left to right
abbrev pub kept_tests : {A : Type 0} → KeepTree A → List A
kept_tests (Test x) = x ∷ []
kept_tests (Not x) = kept_tests x
kept_tests (Both x y) = kept_tests x ++ kept_tests y
kept_tests (Either x y) = kept_tests x ++ kept_tests y

-- x and each of the others, grouped to the left
abbrev pub all_of : {A : Type 0} → KeepTree A → List (KeepTree A) → KeepTree A
all_of x [] = x
all_of x (y ∷ ys) = all_of (Both x y) ys

-- x or one of the others, grouped to the left
abbrev pub any_of : {A : Type 0} → KeepTree A → List (KeepTree A) → KeepTree A
any_of x [] = x
any_of x (y ∷ ys) = any_of (Either x y) ys

-- where an expression stands: as a whole, with `or`s beside it, or with `and`s; or as an operand
pub data Place : Type 0 where
  Whole : Place
  Conjunct : Place
  Operand : Place

abbrev pub encloses_both : Place → Bool
encloses_both Whole = false
encloses_both Conjunct = false
encloses_both Operand = true

abbrev pub encloses_either : Place → Bool
encloses_either Whole = false
encloses_either Conjunct = true
encloses_either Operand = true

abbrev pub one_if : Bool → ℕ
one_if true = 1
one_if false = 0

-- how many `not` and pairs of parentheses of the canonical text at most enclose a name of an expression that
-- stands there
abbrev pub nesting : {A : Type 0} → Place → KeepTree A → ℕ
nesting place (Test x) = 0
nesting place (Not x) = 1 + nesting Operand x
nesting place (Both x y) = one_if (encloses_both place) + max (nesting Conjunct x) (nesting Operand y)
nesting place (Either x y) = one_if (encloses_either place) + max (nesting Whole x) (nesting Conjunct y)
