-- Logs that begin with one another, a log that gains an entry, and lists of views that gain one.
use Rattle.std.proofs.Common.{◌≡◌, ◌≢◌, ℕ, zero, suc, ◌+◌, ◌<◌, ◌≤◌, ◌==◌, ◌⊎◌, inl, inr, ⊎_elim, Bool, true, false}
use Rattle.std.proofs.Common.{cond, List, [], ◌∷◌, ◌++◌, length, ap, sym, refl, subst, ◌∙◌, length-append}
use Rattle.std.proofs.Common.{append_assoc, append-nil, eq-eqb, ne_eqb, arith}
use Rattle.std.specs.Prelude.{filter}
use Rattle.std.proofs.lemmas.List.Elements.{filter-append}
use mathlib.Core.Option.{some, some-injective, some-ne-none}
use lib.ListN.{get_elem?}
use Rattle.board_core.specs.declared.event.Logged.{Logged}
use Rattle.board_core.specs.Ordered.{Each}
use Rattle.board_core.specs.Replay.{entries_of, claims_of}
use Rattle.board_core.proofs.LogLemmas.{claims_other}
use Rattle.board_table.specs.Views.{StartsWith}
use Rattle.board_table.specs.Changes.{Grows}

module _ {A : Type 0} where
  pub is_nothing : (xs : List A) → length xs ≡ 0 → xs ≡ []
  is_nothing [] none = refl
  is_nothing (x ∷ xs) none = absurd (omega arith)

  pub at_end : (l : List A) (a b : A) (j : ℕ) → get_elem? (l ++ a ∷ []) j ≡ some b
      → (get_elem? l j ≡ some b) ⊎ ((j ≡ length l) × (a ≡ b))
  at_end [] a b zero e = inr (refl, some-injective a b e)
  at_end [] a b (suc j) e = absurd (some-ne-none b (sym e))
  at_end (x ∷ xs) a b zero e = inl e
  at_end (x ∷ xs) a b (suc j) e = ⊎_elim (λ t. inl t) (λ t. inr (ap suc t.0, t.1)) (at_end xs a b j e)

  pub at_below : (l : List A) (i : ℕ) (a : A) → get_elem? l i ≡ some a → i < length l
  at_below [] i a e = absurd (some-ne-none a (sym e))
  at_below (x ∷ xs) zero a e = omega arith
  at_below (x ∷ xs) (suc i) a e = let rest = at_below xs i a e in omega arith

pub starts_refl : (log : List Logged) → StartsWith log log
starts_refl log = ([], sym (append-nil log))

pub starts_from : (log seen : List Logged) → seen ≡ log → StartsWith log seen
starts_from log seen same = ([], sym same ∙ sym (append-nil seen))

pub starts_trans : (a b c : List Logged) → StartsWith a b → StartsWith b c → StartsWith a c
starts_trans a b c one two =
    (two.0 ++ one.0, one.1 ∙ ap (λ log. log ++ one.0) two.1 ∙ append_assoc c two.0 one.0)

pub starts_length : (a b : List Logged) → StartsWith a b → length b ≤ length a
starts_length a b s =
    let long : length a ≡ length b + length s.0 = ap (λ (log : List Logged). length log) s.1 ∙ length-append b s.0 in
    omega arith

pub entries_other : (n : ℕ) (log : List Logged) (e : Logged) → e.who ≢ n
    → entries_of n (log ++ e ∷ []) ≡ entries_of n log
entries_other n log e other =
    let no : (e.who == n) ≡ false = ne_eqb e.who n other in
    filter-append (λ (x : Logged). x.who == n) log (e ∷ [])
    ∙ ap (λ t. entries_of n log ++ cond t (e ∷ []) []) no ∙ append-nil (entries_of n log)

pub entries_own : (n : ℕ) (log : List Logged) (e : Logged) → e.who ≡ n
    → entries_of n (log ++ e ∷ []) ≡ entries_of n log ++ e ∷ []
entries_own n log e own =
    let yes : (e.who == n) ≡ true = eq-eqb e.who n own in
    filter-append (λ (x : Logged). x.who == n) log (e ∷ [])
    ∙ ap (λ t. entries_of n log ++ cond t (e ∷ []) []) yes

-- a log between two that have the same entries of a number has them too
pub entries_between : (n : ℕ) (log mid seen : List Logged) → StartsWith log mid → StartsWith mid seen
    → entries_of n log ≡ entries_of n seen → entries_of n mid ≡ entries_of n seen
entries_between n log mid seen later between same =
    let own : Logged → Bool = λ x. x.who == n in
    let first : entries_of n mid ≡ entries_of n seen ++ entries_of n between.0 = ap (filter own) between.1
    ∙ filter-append own seen between.0 in
    let whole : entries_of n log ≡ entries_of n mid ++ entries_of n later.0 = ap (filter own) later.1
    ∙ filter-append own mid later.0 in
    let a : length (entries_of n mid) ≡ length (entries_of n seen) + length (entries_of n between.0) =
    ap (λ (xs : List Logged). length xs) first ∙ length-append (entries_of n seen) (entries_of n between.0) in
    let b : length (entries_of n log) ≡ length (entries_of n mid) + length (entries_of n later.0) =
    ap (λ (xs : List Logged). length xs) whole ∙ length-append (entries_of n mid) (entries_of n later.0) in
    let c : length (entries_of n log) ≡ length (entries_of n seen) = ap (λ (xs : List Logged). length xs) same in
    first ∙ ap (λ xs. entries_of n seen ++ xs) (is_nothing (entries_of n between.0) (omega arith))
    ∙ append-nil (entries_of n seen)

module _ (who : ℕ) (seen log : List Logged) (grows : Grows who seen log) where
  pub grows_starts : StartsWith log seen
  grows_starts = ⊎_elim (λ same. starts_from log seen (sym same)) (λ more. (more.0 ∷ [], more.2)) grows

  -- the entries and claims of other numbers are as before
  pub grows_entries : (n : ℕ) → n ≢ who → entries_of n log ≡ entries_of n seen
  grows_entries n other = ⊎_elim
      (λ same. ap (entries_of n) same)
      (λ more. ap (entries_of n) more.2 ∙ entries_other n seen more.0 (λ own. other (sym own ∙ more.1)))
      grows

  pub grows_claims : (n : ℕ) → n ≢ who → claims_of n log ≡ claims_of n seen
  grows_claims n other = ⊎_elim
      (λ same. ap (claims_of n) same)
      (λ more. ap (claims_of n) more.2 ∙ claims_other n seen more.0 (λ own. other (sym own ∙ more.1)))
      grows

each_and_one : (bound : ℕ) (es : List Logged) (e : Logged) → Each (λ x. x.who < bound) es → e.who < bound
    → Each (λ x. x.who < bound) (es ++ e ∷ [])
each_and_one bound [] e all one = (one, tt)
each_and_one bound (x ∷ xs) e all one = (all.0, each_and_one bound xs e all.1 one)

-- a history of callers gains an entry of a caller
pub grows_of_callers : (who bound : ℕ) (seen log : List Logged) → Grows who seen log → who < bound
    → Each (λ x. x.who < bound) seen
    → Each (λ x. x.who < bound) log
grows_of_callers who bound seen log grows caller all =
    let P : List Logged → Type 0 = λ es. Each (λ x. x.who < bound) es in
    ⊎_elim
    (λ same. subst P (sym same) all)
    (λ more. subst P (sym more.2) (each_and_one bound seen more.0 all (let own = more.1 in omega arith)))
    grows

module _ {A : Type 0} where
  abbrev rest_of : List A → List A
  rest_of [] = []
  rest_of (x ∷ xs) = xs

  abbrev head_of : A → List A → A
  head_of d [] = d
  head_of d (x ∷ xs) = x

  shorter_begins : (a b r s : List A) → a ++ r ≡ b ++ s → length b ≤ length a → (rest : List A) × (a ≡ b ++ rest)
  shorter_begins a [] r s same less = (a, refl)
  shorter_begins [] (y ∷ ys) r s same less = absurd (omega arith)
  shorter_begins (x ∷ xs) (y ∷ ys) r s same less =
      let more = shorter_begins xs ys r s (ap rest_of same) (omega arith) in
      (more.0, ap (λ z. z ∷ xs) (ap (head_of x) same) ∙ ap (λ zs. y ∷ zs) more.1)

-- of two beginnings of one log the shorter is a beginning of the other
pub starts_both : (log a b : List Logged) → StartsWith log a → StartsWith log b → length b ≤ length a → StartsWith a b
starts_both log a b one two less = shorter_begins a b one.0 two.0 (sym one.1 ∙ two.1) less
