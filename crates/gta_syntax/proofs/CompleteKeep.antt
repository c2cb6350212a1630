-- A line `keep` that is derived is read.
use Rattle.std.proofs.Common.{◌≡◌, ℕ, zero, suc, ◌<◌, true, List, [], length, refl, ap, arith}
use Rattle.std.specs.Prelude.{nat_le, Some, None, codes}
use Rattle.std.proofs.lemmas.Bool.Decides.{nat_tests}
use Rattle.gta_spec.specs.declared.limits.TheConstants.{KEPT_NAME_LIMIT, NESTING_LIMIT}
use Rattle.gta_spec.specs.Symbols.{Symbol}
use Rattle.gta_spec.specs.Grammar.{Expr, IsWord, IsLater, IsConj, IsExpr, IsLitOver, IsLit, IsKeep, names_among}
use Rattle.gta_spec.specs.Grammar.{Behind, listed, behind}
use Rattle.gta_syntax.specs.Rules.{Reading, word_at, later_at, begins_word, begins_later, and_lit_with, conj_with}
use Rattle.gta_syntax.specs.Rules.{or_conj_with, expr_with, lit_over, lit_at, keep_at}
use Rattle.gta_syntax.proofs.Again.{IsReadable, many_again, many_within, ends_first}
use Rattle.gta_syntax.proofs.CompleteSymbols.{word_again, later_again, sign_again, name_again, name_shorter}
use Rattle.gta_syntax.proofs.CompleteSymbols.{no_word_at_sign, no_word_at_later, no_later_at_word, no_later_at_sign}
use Rattle.gta_syntax.proofs.CompleteSymbols.{no_sign_at_name, no_word_at_end, no_later_at_end}

-- literals that are read, whatever follows them
record IsLiteral (Is : Expr → List Symbol → List Symbol → Type 0) (lit : Reading) : Type 0 where
  again : (x : Expr) (ts a : List Symbol) → Is x ts a → lit ts ≡ Some (x, a)
  shorter : (x : Expr) (ts a : List Symbol) → Is x ts a → length a < length ts

module _ {Is : Expr → List Symbol → List Symbol → Type 0} {lit : Reading} (literal : IsLiteral Is lit) where
  and_lit_again : {x : Expr} {ts a : List Symbol} → Behind (IsWord (codes "and")) Is x ts a
      → and_lit_with lit ts ≡ Some (x, a)
  unfolding and_lit_with
  and_lit_again {x = x} {a = a} (behind {a = b} w d) = rw (word_again w, literal.again x b a d) refl

  and_lit_begun : {x : Expr} {ts a : List Symbol} → Behind (IsWord (codes "and")) Is x ts a
      → begins_word (codes "and") ts ≡ true
  and_lit_begun (behind w d) = rw (word_again w) refl

  and_lit_shorter : {x : Expr} {ts a : List Symbol} → Behind (IsWord (codes "and")) Is x ts a
      → length a < length ts
  and_lit_shorter {x = x} {a = a} (behind {a = b} w d) = omega (arith, ap length w, literal.shorter x b a d)

  and_lits_readable : IsReadable (Behind (IsWord (codes "and")) Is) (and_lit_with lit) (begins_word (codes "and"))
      (λ ts. Unit {0})
  and_lits_readable = record {
    again = λ x ts a d last. and_lit_again d;
    begun = λ x ts a d. and_lit_begun d;
    goes_on = λ x ts a d. tt;
    shorter = λ x ts a d. and_lit_shorter d;
  }

  conj_again : {x : Expr} {ts rest : List Symbol} → IsConj Is x ts rest → word_at (codes "and") rest ≡ None
      → conj_with lit ts ≡ Some (x, rest)
  unfolding conj_with
  conj_again {ts = ts} (IsConj.conj {x = x} (listed {a = a} d ms)) off =
      rw (literal.again x ts a d, many_again and_lits_readable (length a) ms (rw off refl) tt (omega arith)) refl

  conj_shorter : {x : Expr} {ts rest : List Symbol} → IsConj Is x ts rest → length rest < length ts
  conj_shorter {ts = ts} (IsConj.conj {x = x} (listed {a = a} d ms)) = omega
      (arith, literal.shorter x ts a d, many_within and_lits_readable ms)

  or_conj_again : {x : Expr} {ts a : List Symbol} → Behind (IsLater (codes "or")) (IsConj Is) x ts a
      → word_at (codes "and") a ≡ None → or_conj_with lit ts ≡ Some (x, a)
  unfolding or_conj_with
  or_conj_again (behind w d) off = rw (later_again w, conj_again d off) refl

  or_conj_begun : {x : Expr} {ts a : List Symbol} → Behind (IsLater (codes "or")) (IsConj Is) x ts a
      → begins_later (codes "or") ts ≡ true
  or_conj_begun (behind w d) = rw (later_again w) refl

  or_conj_goes_on : {x : Expr} {ts a : List Symbol} → Behind (IsLater (codes "or")) (IsConj Is) x ts a
      → word_at (codes "and") ts ≡ None
  or_conj_goes_on (behind w d) = no_word_at_later (codes "and") w

  or_conj_shorter : {x : Expr} {ts a : List Symbol} → Behind (IsLater (codes "or")) (IsConj Is) x ts a
      → length a < length ts
  or_conj_shorter (behind w d) = omega (arith, ap length w, conj_shorter d)

  or_conjs_readable : IsReadable (Behind (IsLater (codes "or")) (IsConj Is)) (or_conj_with lit)
      (begins_later (codes "or")) (λ ts. word_at (codes "and") ts ≡ None)
  or_conjs_readable = record {
    again = λ x ts a d last. or_conj_again d last;
    begun = λ x ts a d. or_conj_begun d;
    goes_on = λ x ts a d. or_conj_goes_on d;
    shorter = λ x ts a d. or_conj_shorter d;
  }

  expr_again : {x : Expr} {ts rest : List Symbol} → IsExpr Is x ts rest → word_at (codes "and") rest ≡ None
      → later_at (codes "or") rest ≡ None → expr_with lit ts ≡ Some (x, rest)
  unfolding expr_with
  expr_again (IsExpr.expr (listed {a = a} d ms)) no_and no_or =
      rw (
        conj_again d (ends_first or_conjs_readable ms no_and),
        many_again or_conjs_readable (length a) ms (rw no_or refl) no_and (omega arith),
      ) refl

  expr_shorter : {x : Expr} {ts rest : List Symbol} → IsExpr Is x ts rest → length rest < length ts
  expr_shorter (IsExpr.expr (listed d ms)) = omega (arith, conj_shorter d, many_within or_conjs_readable ms)

  lit_over_again : {x : Expr} {ts rest : List Symbol} → IsLitOver Is x ts rest → lit_over lit ts ≡ Some (x, rest)
  unfolding lit_over
  lit_over_again (IsLitOver.test n) = rw
      (no_later_at_word (codes "not") n.front, no_sign_at_name (codes "(") n, name_again n) refl
  lit_over_again {rest = rest} (IsLitOver.not {x = x} {a = a} w d) = rw
      (later_again w, literal.again x a rest d) refl
  lit_over_again (IsLitOver.nested s d t) =
      rw (
        no_later_at_sign (codes "not") s,
        sign_again s,
        expr_again d (no_word_at_sign (codes "and") t) (no_later_at_sign (codes "or") t),
        sign_again t,
      ) refl

  lit_over_shorter : {x : Expr} {ts rest : List Symbol} → IsLitOver Is x ts rest → length rest < length ts
  lit_over_shorter (IsLitOver.test n) = name_shorter n
  lit_over_shorter {rest = rest} (IsLitOver.not {x = x} {a = a} w d) = omega
      (arith, ap length w, literal.shorter x a rest d)
  lit_over_shorter (IsLitOver.nested s d t) = omega (arith, ap length s, expr_shorter d, ap length t)

  over : IsLiteral (IsLitOver Is) (lit_over lit)
  over = record { again = λ x ts a d. lit_over_again d; shorter = λ x ts a d. lit_over_shorter d }

literals : (n : ℕ) → IsLiteral (IsLit n) (lit_at n)
unfolding lit_at
literals zero = over (record { again = λ x ts a d. absurd d; shorter = λ x ts a d. absurd d })
literals (suc n) = over (literals n)

pub keep_again : {x : Expr} {ts : List Symbol} → IsKeep x ts [] → keep_at ts ≡ Some (x, [])
unfolding keep_at
keep_again {ts = ts} keep =
    let on : nat_le (names_among ts) KEPT_NAME_LIMIT ≡ true = grind (arith, nat_tests, keep.few) in
    rw (
      on,
      expr_again (literals NESTING_LIMIT) keep.expression (no_word_at_end (codes "and"))
          (no_later_at_end (codes "or")),
    ) refl
