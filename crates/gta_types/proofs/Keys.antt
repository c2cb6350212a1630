-- Names in scopes: when two are the same, and what an index has after one more. Of any lists, and at the end of an
-- index.
use Rattle.std.proofs.Common.{◌≡◌, ℕ, Bool, true, false, ◌&&◌, nat_eq, List, [], ◌∷◌, Option, Some, None}
use Rattle.std.proofs.Common.{cond, refl, sym, ◌∙◌, inl, inr, ◌⊎◌}
use Rattle.std.proofs.Common.{Ordering, Less, Equal, Greater, nat_cmp, is_eq, ap}
use Rattle.std.specs.Option.{option_or}
use Rattle.std.specs.Str.{bytes_eq}
use Rattle.std.specs.Map.{lookup}
use Rattle.std.specs.Ordering.{ordering_then}
use Rattle.std.specs.Cmp.Lexicographic.{slice_cmp}
use Rattle.std.proofs.lemmas.Bool.{and_parts, cases_eq, eqb-true, eq-eqb, ne_eqb, false≢true}
use Rattle.std.proofs.lemmas.Cmp.{nat_cmp_total, tied_itself}
use Rattle.std.proofs.lemmas.Map.Lookups.{exact_unsigned}
use Rattle.std.proofs.lemmas.Map.Text.{is_eq-slice_cmp}
use Rattle.std.proofs.lemmas.Slice.Eq.{bytes_eq-Decides}
use Rattle.gta_types.specs.declared.names.Names.{Names}
use Rattle.gta_types.specs.Index.{known_at}

abbrev pub same_key : ℕ → List ℕ → ℕ → List ℕ → Bool
same_key s x t y = nat_eq s t && bytes_eq x y

pub same_key_parts : (s : ℕ) (x : List ℕ) (t : ℕ) (y : List ℕ) → same_key s x t y ≡ true → (s ≡ t) × (x ≡ y)
same_key_parts s x t y h =
    let p = and_parts (nat_eq s t) (bytes_eq x y) h in (eqb-true s t p.0, (bytes_eq-Decides x y).0 p.1)

pub same_key_here : (s : ℕ) (x : List ℕ) → same_key s x s x ≡ true
same_key_here s x =
    let n : nat_eq s s ≡ true = eq-eqb s s refl in
    let b : bytes_eq x x ≡ true = (bytes_eq-Decides x x).1 refl in
    rw n b

bool_cases : (b : Bool) → (b ≡ true) ⊎ (b ≡ false)
bool_cases true = inl refl
bool_cases false = inr refl

pub key_cases : (s : ℕ) (x : List ℕ) (t : ℕ) (y : List ℕ)
    → ((same_key s x t y ≡ true) × (s ≡ t) × (x ≡ y)) ⊎ (same_key s x t y ≡ false)
key_cases s x t y =
    elim (bool_cases (same_key s x t y)) [
      | inl h ↦ (let p = same_key_parts s x t y h in inl (h, p.0, p.1))
      | inr h ↦ inr h
    ]

true_of_parts : (s : ℕ) (x : List ℕ) (t : ℕ) (y : List ℕ) → s ≡ t → x ≡ y → same_key s x t y ≡ true
true_of_parts s x t y n b = rw (n, b) (same_key_here t y)

pub same_key_swap : (s : ℕ) (x : List ℕ) (t : ℕ) (y : List ℕ) → same_key s x t y ≡ same_key t y s x
same_key_swap s x t y =
    elim (key_cases s x t y) [
      | inl h ↦ h.0 ∙ sym (true_of_parts t y s x (sym h.1) (sym h.2))
      | inr h ↦ elim (key_cases t y s x) [
        | inl k ↦ absurd (false≢true (sym h ∙ true_of_parts s x t y (sym k.1) (sym k.2)))
        | inr k ↦ h ∙ sym k
      ]
    ]

module _ {V : Type 0} where
  -- a name that is there keeps its declaration
  pub kept_at : (f : ℕ → List ℕ → Option V) (t : ℕ) (y : List ℕ) (v w : V) → f t y ≡ Some w
      → (s : ℕ) (x : List ℕ) → cond (same_key t y s x) (Some w) (cond (same_key t y s x) (Some v) (f s x))
      ≡ option_or (f s x) (cond (same_key s x t y) (Some v) None)
  kept_at f t y v w there s x =
      rw (same_key_swap t y s x) (
      elim (key_cases s x t y) [
        | inl h ↦ (let k : f s x ≡ Some w = rw (h.1, h.2) there in rw (h.0, k) refl)
        | inr h ↦ rw h (bare (f s x))
      ])
    where
      bare : (o : Option V) → o ≡ option_or o None
      bare None = refl
      bare (Some w) = refl

  -- a name that is not there gets its declaration
  pub put_at : (f : ℕ → List ℕ → Option V) (t : ℕ) (y : List ℕ) (v : V) → f t y ≡ None
      → (s : ℕ) (x : List ℕ) → cond (same_key t y s x) (Some v) (f s x)
      ≡ option_or (f s x) (cond (same_key s x t y) (Some v) None)
  put_at f t y v absent s x =
      rw (same_key_swap t y s x) (
      elim (key_cases s x t y) [
        | inl h ↦ (let k : f s x ≡ None = rw (h.1, h.2) absent in rw (h.0, k) refl)
        | inr h ↦ rw h (bare (f s x))
      ])
    where
      bare : (o : Option V) → o ≡ option_or o None
      bare None = refl
      bare (Some w) = refl

equal_parts : (o p : Ordering) → is_eq (ordering_then o p) ≡ (is_eq o && is_eq p)
equal_parts Less p = refl
equal_parts Equal p = refl
equal_parts Greater p = refl

equal_numbers : (s t : ℕ) → is_eq (nat_cmp s t) ≡ nat_eq s t
equal_numbers s t =
    elim (cases_eq s t) [
      | inl e ↦ (let here : is_eq (nat_cmp t t) ≡ true = ap is_eq (tied_itself nat_cmp_total t) in
          rw e (here ∙ sym (eq-eqb t t refl)))
      | inr apart ↦ not_equal (nat_cmp s t) refl apart ∙ sym (ne_eqb s t apart)
    ]
  where
    not_equal : (o : Ordering) → nat_cmp s t ≡ o → (s ≡ t → ⊥) → is_eq o ≡ false
    not_equal Less e apart = refl
    not_equal Equal e apart = absurd (apart (exact_unsigned s t e))
    not_equal Greater e apart = refl

-- names that compare as equal are the same
pub equal_keys : (s : ℕ) (x : List ℕ) (t : ℕ) (y : List ℕ)
    → is_eq (ordering_then (nat_cmp s t) (slice_cmp nat_cmp x y)) ≡ same_key s x t y
equal_keys s x t y =
    equal_parts (nat_cmp s t) (slice_cmp nat_cmp x y) ∙ rw (equal_numbers s t, is_eq-slice_cmp x y) refl

lookup_same : {K V : Type 0} (p q : K → Bool) → ((k : K) → p k ≡ q k) → (es : List (K × V))
    → lookup p es ≡ lookup q es
lookup_same p q same [] = refl
lookup_same p q same (e ∷ es) = rw (same e.0, lookup_same p q same es) refl

-- what a look-up by the order finds is what the index has
pub at_key : (names : Names) (s : ℕ) (x : List ℕ)
    → lookup (λ k. is_eq (ordering_then (nat_cmp s k.0) (slice_cmp nat_cmp x k.1.now))) names.first.entries
    ≡ known_at names s x
unfolding known_at
at_key names s x = lookup_same _ _ (λ k. equal_keys s x k.0 k.1.now) names.first.entries
