-- Reading an expression piece by piece, as its loops and its recursion do.
use Rattle.std.proofs.Common.{◌≡◌, ℕ, zero, suc, ◌+◌, ◌<◌, Bool, true, false, List, [], ◌∷◌, cond, length}
use Rattle.std.proofs.Common.{drop, refl, arith}
use Rattle.std.specs.Prelude.{Some, None, codes, is_some}
use Rattle.gta_text.specs.declared.token.Token.{Token}
use Rattle.gta_text.specs.Names.{is_name_text}
use Rattle.gta_spec.specs.Keep as keeps
use Rattle.gta_spec.specs.Keep.{all_of, any_of, one_if}
use Rattle.gta_spec.specs.Symbols.{Symbol, Word, Later, Digits, Text, Sign, Stray}
use Rattle.gta_spec.specs.Grammar.{Expr, names_among}
use Rattle.gta_syntax.specs.declared.source.Source.{Source}
use Rattle.gta_syntax.specs.declared.fault.LineFault.{LineFault}
use Rattle.gta_syntax.specs.declared.fault.LineFault.TheVariants as faults
use Rattle.gta_syntax.specs.Sources.{symbols_in}
use Rattle.gta_syntax.specs.Rules.{◌>>=◌, Reading, Fails, begins_word, begins_later, begins_name, later_at, sign_at}
use Rattle.gta_syntax.specs.Rules.{name_at, and_lit_with, conj_with, or_conj_with, expr_with, lit_over, lit_at}
use Rattle.gta_syntax.proofs.Loops.{GroupedSoFar, IsGrouping}

-- names

onto_none : (n : ℕ) → n ≡ 0 + n
onto_none n = omega arith

name_here : (t : Symbol) (ts : List Symbol)
    → names_among (t ∷ ts) ≡ one_if (begins_name (t ∷ ts)) + names_among ts
unfolding name_at
name_here (Word x) ts = elim (is_name_text x) as
    (λ b. one_if b + names_among ts
    ≡ one_if (is_some {T = List ℕ × List Symbol} (cond b (Some (x, ts)) None)) + names_among ts)
    [ true ↦ refl | false ↦ refl ]
name_here (Later x) ts = onto_none (names_among ts)
name_here (Digits n) ts = onto_none (names_among ts)
name_here (Text x) ts = onto_none (names_among ts)
name_here (Sign s) ts = onto_none (names_among ts)
name_here Stray ts = onto_none (names_among ts)

pub names_next : (source : Source) (tokens : List Token) (here : Bool) → 0 < length tokens
    → begins_name (symbols_in source tokens) ≡ here
    → names_among (symbols_in source tokens) ≡ one_if here + names_among (symbols_in source (drop 1 tokens))
names_next source [] here some is = absurd (omega arith)
names_next source (t ∷ tokens) here some is = rw (← is) (name_here _ (symbols_in source tokens))

-- grouping

pub all_of-IsGrouping : IsGrouping {A = Expr} all_of keeps.Both
all_of-IsGrouping = record { alone = λ x. refl; next = λ x y ys. refl }

pub any_of-IsGrouping : IsGrouping {A = Expr} any_of keeps.Either
any_of-IsGrouping = record { alone = λ x. refl; next = λ x y ys. refl }

pub conj_start : (lit : Reading) (ts : List Symbol) {rest : List Symbol} {x : Expr} (n : ℕ) → lit ts ≡ Some (x, rest)
    → length rest ≡ n
    → GroupedSoFar all_of (begins_word (codes "and")) (and_lit_with lit) n x rest (conj_with lit ts)
unfolding conj_with
conj_start lit ts n first long = record { joined = rw (first, long) refl }

pub expr_start : (lit : Reading) (ts : List Symbol) {rest : List Symbol} {x : Expr} (n : ℕ)
    → conj_with lit ts ≡ Some (x, rest)
    → length rest ≡ n
    → GroupedSoFar any_of (begins_later (codes "or")) (or_conj_with lit) n x rest (expr_with lit ts)
unfolding expr_with
expr_start lit ts n first long = record { joined = rw (first, long) refl }

-- literals

module _ (n : ℕ) (ts : List Symbol) {a : List Symbol} where
  pub not_at_zero : later_at (codes "not") ts ≡ Some a → n ≡ zero → lit_at n ts ≡ None
  unfolding lit_at lit_over
  not_at_zero on none = rw (none, on) refl

  pub not_at_fault : later_at (codes "not") ts ≡ Some a → (m : ℕ) → n ≡ suc m → (fault : LineFault)
      → Fails fault (lit_at m a) → Fails fault (lit_at n ts)
  unfolding lit_at lit_over
  not_at_fault on m more faults.Memory fails = tt
  not_at_fault on m more faults.Grammar fails = rw (more, on, fails) refl

  pub not_at_part : later_at (codes "not") ts ≡ Some a → (m : ℕ) → n ≡ suc m → {x : Expr} {rest : List Symbol}
      → lit_at m a ≡ Some (x, rest) → lit_at n ts ≡ Some (keeps.Not x, rest)
  unfolding lit_at lit_over
  not_at_part on m more part = rw (more, on, part) refl

  module _ (off : later_at (codes "not") ts ≡ None) where
    pub nested_at_zero : sign_at (codes "(") ts ≡ Some a → n ≡ zero → lit_at n ts ≡ None
    unfolding lit_at lit_over expr_with conj_with
    nested_at_zero on none = rw (none, off, on) refl

    pub nested_at_fault : sign_at (codes "(") ts ≡ Some a → (m : ℕ) → n ≡ suc m → (fault : LineFault)
        → Fails fault (expr_with (lit_at m) a) → Fails fault (lit_at n ts)
    unfolding lit_at lit_over
    nested_at_fault on m more faults.Memory fails = tt
    nested_at_fault on m more faults.Grammar fails = rw (more, off, on, fails) refl

    pub nested_at_end : sign_at (codes "(") ts ≡ Some a → (m : ℕ) → n ≡ suc m → {x : Expr} {b : List Symbol}
        → expr_with (lit_at m) a ≡ Some (x, b) → (fault : LineFault) → Fails fault (sign_at (codes ")") b)
        → Fails fault (lit_at n ts)
    unfolding lit_at lit_over
    nested_at_end on m more part faults.Memory fails = tt
    nested_at_end on m more part faults.Grammar fails = rw (more, off, on, part, fails) refl

    pub nested_at_part : sign_at (codes "(") ts ≡ Some a → (m : ℕ) → n ≡ suc m → {x : Expr} {b rest : List Symbol}
        → expr_with (lit_at m) a ≡ Some (x, b) → sign_at (codes ")") b ≡ Some rest → lit_at n ts ≡ Some (x, rest)
    unfolding lit_at lit_over
    nested_at_part on m more part end = rw (more, off, on, part, end) refl

lit_is_name : (n : ℕ) (ts : List Symbol) → later_at (codes "not") ts ≡ None → sign_at (codes "(") ts ≡ None
    → lit_at n ts ≡ (name_at ts >>= λ x. Some (keeps.Test x.0, x.1))
unfolding lit_at lit_over
lit_is_name zero ts off none = rw (off, none) refl
lit_is_name (suc n) ts off none = rw (off, none) refl

pub test_at_fault : (n : ℕ) (ts : List Symbol) → later_at (codes "not") ts ≡ None → sign_at (codes "(") ts ≡ None
    → (fault : LineFault) → Fails fault (name_at ts) → Fails fault (lit_at n ts)
test_at_fault n ts off none faults.Memory fails = tt
test_at_fault n ts off none faults.Grammar fails = rw (lit_is_name n ts off none, fails) refl

pub test_at_name : (n : ℕ) (ts : List Symbol) → later_at (codes "not") ts ≡ None → sign_at (codes "(") ts ≡ None
    → {x : List ℕ} {rest : List Symbol} → name_at ts ≡ Some (x, rest) → lit_at n ts ≡ Some (keeps.Test x, rest)
test_at_name n ts off none name = rw (lit_is_name n ts off none, name) refl
