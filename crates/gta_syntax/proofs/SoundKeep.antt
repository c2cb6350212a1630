-- What is read of a line `keep` is derived.
use Rattle.std.proofs.Common.{ℕ, zero, suc, List, length, arith}
use Rattle.std.specs.Prelude.{nat_le, codes}
use Rattle.std.proofs.lemmas.Bool.Decides.{nat_tests}
use Rattle.gta_spec.specs.declared.limits.TheConstants.{KEPT_NAME_LIMIT, NESTING_LIMIT}
use Rattle.gta_spec.specs.Symbols.{Symbol}
use Rattle.gta_spec.specs.Grammar.{Expr, IsWord, IsLater, IsConj, IsExpr, IsLitOver, IsLit, IsKeep, names_among}
use Rattle.gta_spec.specs.Grammar.{Behind, listed, behind}
use Rattle.gta_syntax.specs.Rules.{Reading, and_lit_with, conj_with, or_conj_with, expr_with, lit_over, lit_at, keep_at}
use Rattle.gta_syntax.proofs.Each.{Each, done, nothing, and_then, either, then_is, many_takes}
use Rattle.gta_syntax.proofs.SoundSymbols.{only_when, word_takes, later_takes, sign_takes, name_takes}

-- of literals that are read as they are derived
module _ {Is : Expr → List Symbol → List Symbol → Type 0} {lit : Reading}
    (takes : (ts : List Symbol) → Each (lit ts) (λ x. Is x.0 ts x.1)) where
  and_lit_takes : (ts : List Symbol) → Each (and_lit_with lit ts) (λ x. Behind (IsWord (codes "and")) Is x.0 ts x.1)
  unfolding and_lit_with
  and_lit_takes ts = and_then (word_takes (codes "and") ts) (λ a w. then_is (takes a) (λ x d. behind w d))

  conj_takes : (ts : List Symbol) → Each (conj_with lit ts) (λ x. IsConj Is x.0 ts x.1)
  unfolding conj_with
  conj_takes ts = and_then (takes ts)
      (λ x d. and_then (many_takes _ and_lit_takes (length x.1) x.1) (λ xs ds. done (IsConj.conj (listed d ds))))

  or_conj_takes : (ts : List Symbol)
      → Each (or_conj_with lit ts) (λ x. Behind (IsLater (codes "or")) (IsConj Is) x.0 ts x.1)
  unfolding or_conj_with
  or_conj_takes ts = and_then (later_takes (codes "or") ts) (λ a w. then_is (conj_takes a) (λ x d. behind w d))

  expr_takes : (ts : List Symbol) → Each (expr_with lit ts) (λ x. IsExpr Is x.0 ts x.1)
  unfolding expr_with
  expr_takes ts = and_then (conj_takes ts)
      (λ x d. and_then (many_takes _ or_conj_takes (length x.1) x.1) (λ xs ds. done (IsExpr.expr (listed d ds))))

  lit_over_takes : (ts : List Symbol) → Each (lit_over lit ts) (λ x. IsLitOver Is x.0 ts x.1)
  unfolding lit_over
  lit_over_takes ts = either (later_takes (codes "not") ts)
      (λ a w. and_then (takes a) (λ x d. done (IsLitOver.not w d)))
      (either (sign_takes (codes "(") ts)
      (λ a s. and_then (expr_takes a)
      (λ x d. and_then (sign_takes (codes ")") x.1) (λ b t. done (IsLitOver.nested s d t))))
      (and_then (name_takes ts) (λ x n. done (IsLitOver.test n))))

lit_takes : (n : ℕ) (ts : List Symbol) → Each (lit_at n ts) (λ x. IsLit n x.0 ts x.1)
unfolding lit_at
lit_takes zero ts = lit_over_takes (λ us. nothing) ts
lit_takes (suc n) ts = lit_over_takes (lit_takes n) ts

pub keep_takes : (ts : List Symbol) → Each (keep_at ts) (λ x. IsKeep x.0 ts x.1)
unfolding keep_at
keep_takes ts = only_when (nat_le (names_among ts) KEPT_NAME_LIMIT)
    (λ e. then_is (expr_takes (lit_takes NESTING_LIMIT) ts)
    (λ x d. record { few = grind (arith, nat_tests); expression = d }))
