-- An index after one more declaration, and the first name declared twice. Of any declarations.
use Rattle.std.proofs.Common.{◌≡◌, ℕ, ◌+◌, ◌*◌, Bool, true, false, ◌&&◌, nat_eq, List, [], ◌∷◌, ◌++◌}
use Rattle.std.proofs.Common.{Option, Some, None, is_some, option_map, cond, not, ◌||◌, inl, inr}
use Rattle.std.proofs.Common.{refl, sym, ap, ◌∙◌, append_assoc, arith}
use Rattle.std.specs.Option.{option_or}
use Rattle.std.specs.List.{find, list_any}
use Rattle.std.specs.Str.{bytes_eq}
use Rattle.std.proofs.lemmas.List.Folds.{find-append}
use Rattle.std.proofs.lemmas.List.{append-nil}
use Rattle.std.proofs.lemmas.Bool.{eq-eqb, ne_eqb, cases_eq}
use Rattle.spec_rules.specs.SpecRules.{first_answer}
use Rattle.gta_types.specs.declared.names.Found.{Found}
use Rattle.gta_types.specs.declared.names.Names.{Names}
use Rattle.gta_types.specs.declared.declaring.InnerKind.{InnerKind}
use Rattle.gta_types.specs.declared.declaring.InnerKind.TheVariants.{Element, State, Letter}
use Rattle.gta_types.specs.declared.declaring.NameKind.{NameKind}
use Rattle.gta_types.specs.declared.declaring.NameKind.TheVariants.{AColumn, ALabel, AMeasure, ATable, AnAutomaton}
use Rattle.gta_types.specs.declared.declaring.NameKind.TheVariants.{ATest, Inner}
use Rattle.gta_types.specs.Names.{Declaration, is_inner, same_inner, same_kind, share_names, declared_again}
use Rattle.gta_types.specs.Names.{declared_twice}
use Rattle.gta_types.specs.Index.{scope_in, scope_within, scope_of, is_named, found_of, first_in, known_at}
use Rattle.gta_types.specs.Index.{declared_place, IsIndex}

pub option_or_mapped : {A B : Type 0} (f : A → B) (x y : Option A)
    → option_map f (option_or x y) ≡ option_or (option_map f x) (option_map f y)
option_or_mapped f None y = refl
option_or_mapped f (Some x) y = refl

mapped_cond : {A B : Type 0} (f : A → B) (b : Bool) (x : A)
    → option_map f (cond b (Some x) None) ≡ cond b (Some (f x)) None
mapped_cond f true x = refl
mapped_cond f false x = refl

pub first_in-push : (all : List Declaration) (d : Declaration) (s : ℕ) (x : List ℕ)
    → first_in (all ++ d ∷ []) s x
    ≡ option_or (first_in all s x) (cond (nat_eq s (scope_of d) && bytes_eq x d.name) (Some (found_of d)) None)
unfolding first_in
first_in-push all d s x =
    ap (option_map found_of) (find-append (is_named s x) all (d ∷ []))
    ∙ option_or_mapped found_of (find (is_named s x) all) (find (is_named s x) (d ∷ []))
    ∙ ap (option_or (option_map found_of (find (is_named s x) all))) (mapped_cond found_of (is_named s x d) d)

pub is_some-mapped_find : {A B : Type 0} (f : A → B) (p : A → Bool) (xs : List A)
    → is_some (option_map f (find p xs)) ≡ list_any p xs
is_some-mapped_find f p [] = refl
is_some-mapped_find f p (x ∷ xs) =
    elim (p x) as (λ b. is_some (option_map f (cond b (Some x) (find p xs))) ≡ (b || list_any p xs)) [
      | true ↦ refl
      | false ↦ is_some-mapped_find f p xs
    ]

list_any_same : {A : Type 0} (p q : A → Bool) → ((x : A) → p x ≡ q x) → (xs : List A) → list_any p xs ≡ list_any q xs
list_any_same p q same [] = refl
list_any_same p q same (x ∷ xs) = rw (same x, list_any_same p q same xs) refl

nat_eq_swap : (m n : ℕ) → nat_eq m n ≡ nat_eq n m
nat_eq_swap m n =
    elim (cases_eq m n) [
      | inl e ↦ eq-eqb m n e ∙ sym (eq-eqb n m (sym e))
      | inr k ↦ ne_eqb m n k ∙ sym (ne_eqb n m (λ e. k (sym e)))
    ]

-- a scope is that of one list of one line
same_place : (k m n : ℕ) → nat_eq (3 * n + k) (3 * m + k) ≡ nat_eq m n
same_place k m n =
    elim (cases_eq m n) [
      | inl e ↦ (let f : 3 * n + k ≡ 3 * m + k = omega arith in eq-eqb (3 * n + k) (3 * m + k) f ∙ sym (eq-eqb m n e))
      | inr apart ↦ (let f : 3 * n + k ≡ 3 * m + k → ⊥ = λ e. apart (omega arith) in
          ne_eqb (3 * n + k) (3 * m + k) f ∙ sym (ne_eqb m n apart))
    ]

same_within : (a b : InnerKind) (m n : ℕ)
    → nat_eq (scope_within b n) (scope_within a m) ≡ (same_inner a b && nat_eq m n)
same_within Element Element m n = same_place 1 m n
same_within Element State m n = ne_eqb (3 * n + 2) (3 * m + 1) (λ e. omega arith)
same_within Element Letter m n = ne_eqb (3 * n + 3) (3 * m + 1) (λ e. omega arith)
same_within State Element m n = ne_eqb (3 * n + 1) (3 * m + 2) (λ e. omega arith)
same_within State State m n = same_place 2 m n
same_within State Letter m n = ne_eqb (3 * n + 3) (3 * m + 2) (λ e. omega arith)
same_within Letter Element m n = ne_eqb (3 * n + 1) (3 * m + 3) (λ e. omega arith)
same_within Letter State m n = ne_eqb (3 * n + 2) (3 * m + 3) (λ e. omega arith)
same_within Letter Letter m n = same_place 3 m n

none_first : (a : InnerKind) (m : ℕ) → nat_eq 0 (scope_within a m) ≡ false
none_first Element m = ne_eqb 0 (3 * m + 1) (λ e. omega arith)
none_first State m = ne_eqb 0 (3 * m + 2) (λ e. omega arith)
none_first Letter m = ne_eqb 0 (3 * m + 3) (λ e. omega arith)

-- the scope of names that are in no list is that of no list
pub shared_scope : (kind : NameKind) (m : ℕ) → nat_eq 0 (scope_in kind m) ≡ not (is_inner kind)
shared_scope AColumn m = refl
shared_scope ALabel m = refl
shared_scope AMeasure m = refl
shared_scope ATable m = refl
shared_scope AnAutomaton m = refl
shared_scope ATest m = refl
shared_scope (Inner a) m = none_first a m

pub inner_scope : (kind : NameKind) (a : InnerKind) (m n : ℕ)
    → nat_eq (scope_within a n) (scope_in kind m) ≡ (is_inner kind && (same_kind kind (Inner a) && nat_eq m n))
inner_scope AColumn a m n = nat_eq_swap (scope_within a n) 0 ∙ none_first a n
inner_scope ALabel a m n = nat_eq_swap (scope_within a n) 0 ∙ none_first a n
inner_scope AMeasure a m n = nat_eq_swap (scope_within a n) 0 ∙ none_first a n
inner_scope ATable a m n = nat_eq_swap (scope_within a n) 0 ∙ none_first a n
inner_scope AnAutomaton a m n = nat_eq_swap (scope_within a n) 0 ∙ none_first a n
inner_scope ATest a m n = nat_eq_swap (scope_within a n) 0 ∙ none_first a n
inner_scope (Inner b) a m n = same_within b a m n

same_scope : (kind other : NameKind) (m n : ℕ)
    → nat_eq (scope_in other n) (scope_in kind m)
    ≡ cond (is_inner kind) (same_kind kind other && nat_eq m n) (not (is_inner other))
same_scope kind (Inner a) m n = inner_scope kind a m n ∙ either_way (is_inner kind)
  where
    either_way : (e : Bool) → (e && (same_kind kind (Inner a) && nat_eq m n))
        ≡ cond e (same_kind kind (Inner a) && nat_eq m n) false
    either_way true = refl
    either_way false = refl
same_scope (Inner b) AColumn m n = none_first b m
same_scope (Inner b) ALabel m n = none_first b m
same_scope (Inner b) AMeasure m n = none_first b m
same_scope (Inner b) ATable m n = none_first b m
same_scope (Inner b) AnAutomaton m n = none_first b m
same_scope (Inner b) ATest m n = none_first b m
same_scope AColumn AColumn m n = refl
same_scope AColumn ALabel m n = refl
same_scope AColumn AMeasure m n = refl
same_scope AColumn ATable m n = refl
same_scope AColumn AnAutomaton m n = refl
same_scope AColumn ATest m n = refl
same_scope ALabel AColumn m n = refl
same_scope ALabel ALabel m n = refl
same_scope ALabel AMeasure m n = refl
same_scope ALabel ATable m n = refl
same_scope ALabel AnAutomaton m n = refl
same_scope ALabel ATest m n = refl
same_scope AMeasure AColumn m n = refl
same_scope AMeasure ALabel m n = refl
same_scope AMeasure AMeasure m n = refl
same_scope AMeasure ATable m n = refl
same_scope AMeasure AnAutomaton m n = refl
same_scope AMeasure ATest m n = refl
same_scope ATable AColumn m n = refl
same_scope ATable ALabel m n = refl
same_scope ATable AMeasure m n = refl
same_scope ATable ATable m n = refl
same_scope ATable AnAutomaton m n = refl
same_scope ATable ATest m n = refl
same_scope AnAutomaton AColumn m n = refl
same_scope AnAutomaton ALabel m n = refl
same_scope AnAutomaton AMeasure m n = refl
same_scope AnAutomaton ATable m n = refl
same_scope AnAutomaton AnAutomaton m n = refl
same_scope AnAutomaton ATest m n = refl
same_scope ATest AColumn m n = refl
same_scope ATest ALabel m n = refl
same_scope ATest AMeasure m n = refl
same_scope ATest ATable m n = refl
same_scope ATest AnAutomaton m n = refl
same_scope ATest ATest m n = refl

pub bytes_eq_swap : (x y : List ℕ) → bytes_eq x y ≡ bytes_eq y x
bytes_eq_swap [] [] = refl
bytes_eq_swap [] (b ∷ bs) = refl
bytes_eq_swap (a ∷ as') [] = refl
bytes_eq_swap (a ∷ as') (b ∷ bs) = rw (nat_eq_swap a b, bytes_eq_swap as' bs) refl

is_named_again : (d e : Declaration)
    → is_named (scope_of d) d.name e ≡ (share_names e d && bytes_eq e.name d.name)
is_named_again d e =
    ap (λ (b : Bool). b && bytes_eq d.name e.name) (same_scope e.kind d.kind e.line d.line)
    ∙ ap (λ (b : Bool). share_names e d && b) (bytes_eq_swap d.name e.name)

option_or-assoc : {A : Type 0} (x y z : Option A) → option_or (option_or x y) z ≡ option_or x (option_or y z)
option_or-assoc None y z = refl
option_or-assoc (Some x) y z = refl

option_or-none : {A : Type 0} (x : Option A) → option_or x None ≡ x
option_or-none None = refl
option_or-none (Some x) = refl

pub first_answer-append : {A B : Type 0} (ask : List A → A → Option B) (before xs ys : List A)
    → first_answer ask before (xs ++ ys) ≡ option_or (first_answer ask before xs) (first_answer ask (before ++ xs) ys)
first_answer-append ask before [] ys = ap (λ (b : List _). first_answer ask b ys) (sym (append-nil before))
first_answer-append ask before (x ∷ xs) ys =
    ap (option_or (ask before x)) (first_answer-append ask (before ++ x ∷ []) xs ys
    ∙ ap (λ (b : List _). option_or (first_answer ask (before ++ x ∷ []) xs) (first_answer ask b ys))
    (append_assoc before (x ∷ []) xs))
    ∙ sym (option_or-assoc (ask before x) _ _)

declared_twice-push : (all : List Declaration) (d : Declaration)
    → declared_twice (all ++ d ∷ []) ≡ option_or (declared_twice all) (declared_again all d)
declared_twice-push all d = first_answer-append declared_again [] all (d ∷ [])
    ∙ ap (option_or (declared_twice all)) (option_or-none (declared_again all d))

pub index_more : (names after : Names) (all : List Declaration) (d : Declaration)
    (t : ℕ) (y : List ℕ) (v : Found) → IsIndex names all
    → t ≡ scope_of d → y ≡ d.name → v ≡ found_of d
    → ((s : ℕ) (x : List ℕ) → known_at after s x
    ≡ option_or (known_at names s x) (cond (nat_eq s t && bytes_eq x y) (Some v) None))
    → IsIndex after (all ++ d ∷ [])
index_more names after all d t y v known at_scope at_name is_found added = λ s x.
    added s x
    ∙ rw (at_scope, at_name, is_found) refl
    ∙ ap (λ (o : Option Found). option_or o (cond (nat_eq s (scope_of d) && bytes_eq x d.name)
    (Some (found_of d)) None)) (known s x)
    ∙ sym (first_in-push all d s x)

pub twice_more : (names : Names) (all : List Declaration) (d : Declaration) (again : Bool) (t : ℕ) (y : List ℕ)
    → IsIndex names all → t ≡ scope_of d → y ≡ d.name → again ≡ is_some (known_at names t y)
    → option_map declared_place (declared_twice (all ++ d ∷ []))
    ≡ option_or (option_map declared_place (declared_twice all)) (cond again (Some (declared_place d)) None)
unfolding first_in
twice_more names all d again t y known at_scope at_name is =
    let e : again ≡ list_any (λ e. share_names e d && bytes_eq e.name d.name) all =
    is ∙ rw (at_scope, at_name) refl ∙ ap (λ (o : Option Found). is_some o) (known (scope_of d) d.name)
    ∙ is_some-mapped_find found_of (is_named (scope_of d) d.name) all
    ∙ list_any_same _ _ (is_named_again d) all in
    ap (option_map declared_place) (declared_twice-push all d)
    ∙ option_or_mapped declared_place (declared_twice all) (declared_again all d)
    ∙ ap (option_or (option_map declared_place (declared_twice all)))
    (mapped_cond declared_place (list_any (λ e. share_names e d && bytes_eq e.name d.name) all) d
    ∙ ap (λ (b : Bool). cond b (Some (declared_place d)) None) (sym e))
