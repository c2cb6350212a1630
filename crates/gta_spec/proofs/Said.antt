-- What the symbols of an expression say of it: its names, how many there are, and what encloses them.
use Rattle.std.proofs.Common.{◌≡◌, ℕ, zero, suc, ◌+◌, ◌≤◌, List, [], ◌∷◌, ◌++◌, length, refl, ap, ◌∙◌, arith}
use Rattle.std.proofs.Common.{length-append}
use Rattle.std.specs.Prelude.{codes}
use Rattle.gta_text.specs.Names.{is_reserved}
use Rattle.gta_spec.specs.declared.limits.TheConstants.{NESTING_LIMIT}
use Rattle.gta_spec.specs.Keep.{Test, Not, Both, Either, all_of, any_of, kept_tests, Place, Whole, Conjunct}
use Rattle.gta_spec.specs.Keep.{Operand, nesting}
use Rattle.gta_spec.specs.Symbols.{Symbol}
use Rattle.gta_spec.specs.Grammar.{Expr, IsWord, IsLater, IsSign, IsName, IsConj, IsExpr, IsLitOver, IsLit, IsKeep}
use Rattle.gta_spec.specs.Grammar.{names_among, Many, none, some, listed, Behind, behind}
use Rattle.gta_spec.specs.WellFormed.{FitsName, EachFits, FitsKeep}
use Rattle.gta_spec.proofs.Goods.{Good, first_good, from_second, after, named}

-- what the symbols of an expression say of it at its place
pub record Said (version : ℕ) (place : Place) (n : ℕ) (x : Expr) (ts rest : List Symbol) : Type 0 where
  pub names : EachFits (FitsName version) (kept_tests x)
  pub flat : nesting place x ≤ n
  pub counted : names_among ts ≡ length (kept_tests x) + names_among rest
  pub good : Good version rest

each_more : {A : Type 0} (Fits : A → Type 0) (xs ys : List A) → EachFits Fits xs → EachFits Fits ys
    → EachFits Fits (xs ++ ys)
each_more Fits [] ys fit fits = fits
each_more Fits (x ∷ xs) ys fit fits = (fit.0, each_more Fits xs ys fit.1 fits)

-- an operand is a conjunct, which is a whole, and parentheses around a whole count once
conjunct_less : (x : Expr) → nesting Conjunct x ≤ nesting Operand x
conjunct_less (Test x) = omega arith
conjunct_less (Not x) = omega arith
conjunct_less (Both x y) = omega arith
conjunct_less (Either x y) = omega arith

whole_less : (x : Expr) → nesting Whole x ≤ nesting Conjunct x
whole_less (Test x) = omega arith
whole_less (Not x) = omega arith
whole_less (Both x y) = omega arith
whole_less (Either x y) = omega arith

operand_less : (x : Expr) → nesting Operand x ≤ nesting Whole x + 1
operand_less (Test x) = omega arith
operand_less (Not x) = omega arith
operand_less (Both x y) = omega arith
operand_less (Either x y) = omega arith

no_expr : {x : Expr} {ts rest : List Symbol} → IsExpr (λ y a b. ⊥) x ts rest → ⊥
no_expr (IsExpr.expr (listed (IsConj.conj (listed d ms)) others)) = d

abbrev Says : ℕ → Place → ℕ → (Expr → List Symbol → List Symbol → Type 0) → Type 0
Says version place n Is = (x : Expr) (ts rest : List Symbol) → Is x ts rest → Good version ts
    → Said version place n x ts rest

module _ {version : ℕ} where
  as_conjunct : {n : ℕ} {x : Expr} {ts rest : List Symbol} → Said version Operand n x ts rest
      → Said version Conjunct n x ts rest
  as_conjunct {x = x} said = record {
    names = said.names;
    flat = omega (arith, said.flat, conjunct_less x);
    counted = said.counted;
    good = said.good;
  }

  as_whole : {n : ℕ} {x : Expr} {ts rest : List Symbol} → Said version Conjunct n x ts rest
      → Said version Whole n x ts rest
  as_whole {x = x} said = record {
    names = said.names;
    flat = omega (arith, said.flat, whole_less x);
    counted = said.counted;
    good = said.good;
  }

  both_said : {n : ℕ} {x y : Expr} {ts a b rest : List Symbol} → Said version Conjunct n x ts a
      → IsWord (codes "and") a b → Said version Operand n y b rest → Said version Conjunct n (Both x y) ts rest
  unfolding is_reserved
  both_said {x = x} {y = y} said w other =
      let marked = ap names_among w in
      record {
        names = each_more (FitsName version) (kept_tests x) (kept_tests y) said.names other.names;
        flat = omega (arith, said.flat, other.flat);
        counted = omega (arith, said.counted, other.counted, marked, length-append (kept_tests x) (kept_tests y));
        good = other.good;
      }

  either_said : {n : ℕ} {x y : Expr} {ts a b rest : List Symbol} → Said version Whole n x ts a
      → IsLater (codes "or") a b → Said version Conjunct n y b rest → Said version Whole n (Either x y) ts rest
  either_said {x = x} {y = y} said w other =
      let marked = ap names_among w in
      record {
        names = each_more (FitsName version) (kept_tests x) (kept_tests y) said.names other.names;
        flat = omega (arith, said.flat, other.flat);
        counted = omega (arith, said.counted, other.counted, marked, length-append (kept_tests x) (kept_tests y));
        good = other.good;
      }

  module _ {n : ℕ} {IsLit : Expr → List Symbol → List Symbol → Type 0} (lits : Says version Operand n IsLit) where
    more_and : {x : Expr} {xs : List Expr} {ts a rest : List Symbol} → Said version Conjunct n x ts a
        → Many (Behind (IsWord (codes "and")) IsLit) xs a rest → Said version Conjunct n (all_of x xs) ts rest
    more_and said none = said
    more_and said (some {x = y} {a = c} (behind {a = b} w d) ms) =
        more_and (both_said said w (lits y b c d (after w said.good))) ms

    conj_says : Says version Conjunct n (IsConj IsLit)
    conj_says whole ts rest (IsConj.conj (listed {x = x} {a = a} d ms)) good =
        more_and (as_conjunct (lits x ts a d good)) ms

    more_or : {x : Expr} {xs : List Expr} {ts a rest : List Symbol} → Said version Whole n x ts a
        → Many (Behind (IsLater (codes "or")) (IsConj IsLit)) xs a rest → Said version Whole n (any_of x xs) ts rest
    more_or said none = said
    more_or said (some {x = y} {a = c} (behind {a = b} w d) ms) =
        more_or (either_said said w (conj_says y b c d (after w said.good))) ms

    expr_says : {x : Expr} {ts rest : List Symbol} → Good version ts → IsExpr IsLit x ts rest
        → Said version Whole n x ts rest
    expr_says {ts = ts} good (IsExpr.expr (listed {x = x} {a = a} d ms)) =
        more_or (as_whole (conj_says x ts a d good)) ms

  test_said : {n : ℕ} {x : List ℕ} {ts rest : List Symbol} → IsName x ts rest → Good version ts
      → Said version Operand n (Test x) ts rest
  test_said {x = x} name good = record {
    names = (named name good, tt);
    flat = omega arith;
    counted = ap names_among name.front ∙ (rw name.free refl);
    good = after name.front good;
  }

  not_said : {n : ℕ} {x : Expr} {ts a rest : List Symbol} → IsLater (codes "not") ts a
      → Said version Operand n x a rest → Said version Operand (suc n) (Not x) ts rest
  not_said w said = record {
    names = said.names;
    flat = omega (arith, said.flat);
    counted = ap names_among w ∙ said.counted;
    good = said.good;
  }

  nested_said : {n : ℕ} {x : Expr} {ts a b rest : List Symbol} → IsSign (codes "(") ts a
      → Said version Whole n x a b → IsSign (codes ")") b rest → Said version Operand (suc n) x ts rest
  nested_said {x = x} s said e = record {
    names = said.names;
    flat = omega (arith, said.flat, operand_less x);
    counted = ap names_among s ∙ said.counted ∙ ap (λ m. length (kept_tests x) + m) (ap names_among e);
    good = after e said.good;
  }

  lit_says : (n : ℕ) → Says version Operand n (IsLit n)
  lit_says zero x ts rest (IsLitOver.test name) good = test_said name good
  lit_says zero x ts rest (IsLitOver.not w d) good = absurd d
  lit_says zero x ts rest (IsLitOver.nested s d e) good = absurd (no_expr d)
  lit_says (suc n) x ts rest (IsLitOver.test name) good = test_said name good
  lit_says (suc n) x ts rest (IsLitOver.not {x = y} {a = a} w d) good =
      not_said w (lit_says n y a rest d (after w good))
  lit_says (suc n) x ts rest (IsLitOver.nested s d e) good =
      nested_said s (expr_says (lit_says n) (after s good) d) e

  pub keep_fits : {x : Expr} {ts a rest : List Symbol} → IsLater (codes "keep") ts a → IsKeep x a rest
      → Good version ts → FitsKeep version x
  keep_fits {x = x} {a = a} {rest = rest} w k good =
      let said = expr_says (lit_says NESTING_LIMIT) (after w good) k.expression in
      record {
        later = from_second _ _ (first_good w good).0;
        names = said.names;
        few = omega (arith, said.counted, k.few);
        flat = said.flat;
      }
