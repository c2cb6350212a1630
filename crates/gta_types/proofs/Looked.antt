-- What an index of a specification's declarations has at a name is what the specification declares it as.
use Rattle.std.proofs.Common.{◌≡◌, ℕ, ◌+◌, ◌<◌, ◌≤◌, ◌≢◌, Bool, true, false, ◌&&◌, ◌||◌, not}
use Rattle.std.proofs.Common.{nat_eq, List, [], ◌∷◌, ◌++◌, map, Option, Some, None, is_some}
use Rattle.std.proofs.Common.{option_map, cond, refl, sym, ap, ◌∙◌, inl, inr, ◌⊎◌, arith}
use Rattle.std.specs.Option.{option_or}
use Rattle.std.specs.List.{find, list_any}
use Rattle.std.specs.Str.{bytes_eq}
use Rattle.std.proofs.lemmas.List.Folds.{find-append, list_any-append}
use Rattle.std.proofs.lemmas.Bool.{ne_eqb, eq-eqb, false≢true, cases_Bool}
use Rattle.std.proofs.lemmas.Option.{none-some, same_Some, cond_some}
use Rattle.gta_spec.specs.declared.parts.ColumnItem.{ColumnItem}
use Rattle.gta_spec.specs.Parts.{KindTree, Columns, Labels, Measure, Table, Times, Automaton, Step, Generate, Test}
use Rattle.gta_spec.specs.Parts.{AutomatonTree, TableTree, Named, Keep, Aggregate, PartTree}
use Rattle.gta_types.specs.Ready.{Ascend}
use Rattle.spec_rules.specs.SpecRules.{first_answer}
use Rattle.gta_types.specs.declared.declaring.InnerKind.{InnerKind}
use Rattle.gta_types.specs.declared.declaring.InnerKind.TheVariants.{Element, State, Letter}
use Rattle.gta_types.specs.declared.declaring.NameKind.{NameKind}
use Rattle.gta_types.specs.declared.declaring.NameKind.TheVariants.{AColumn, ALabel, AMeasure, ATable, AnAutomaton}
use Rattle.gta_types.specs.declared.declaring.NameKind.TheVariants.{ATest, Inner}
use Rattle.gta_types.specs.declared.names.Found.{Found}
use Rattle.gta_types.specs.declared.names.Names.{Names}
use Rattle.gta_types.specs.Names.{Declaration, declare, declarations_of, declarations, is_inner, same_inner}
use Rattle.spec_tables.specs.Tables.{is_one_of}
use Rattle.gta_types.specs.Names.{declaration_of, kind_of, Use, Wanted, home, inner_names}
use Rattle.gta_types.specs.Names.{listed, names_within, is_of, same_kind, declared_as, is_known}
use Rattle.gta_types.specs.Names.{unknown_use, uses}
use Rattle.gta_types.specs.Names as names
use Rattle.gta_types.specs.Index.{scope_in, scope_within, is_named, found_of, first_in, known_at, kind_at, has_inner}
use Rattle.gta_types.specs.Index.{known_by, used_place, unknown_in, IsIndex}
use Rattle.gta_types.proofs.Twice.{is_some-mapped_find, bytes_eq_swap, shared_scope, inner_scope}

pub find_same : {A : Type 0} (p q : A → Bool) → ((x : A) → p x ≡ q x) → (xs : List A) → find p xs ≡ find q xs
find_same p q same [] = refl
find_same p q same (x ∷ xs) = rw (same x, find_same p q same xs) refl

named_shared : (x : List ℕ) (d : Declaration) → is_named 0 x d ≡ (not (is_inner d.kind) && bytes_eq d.name x)
named_shared x d =
    ap (λ (b : Bool). b && bytes_eq x d.name) (shared_scope d.kind d.line)
    ∙ ap (λ (b : Bool). not (is_inner d.kind) && b) (bytes_eq_swap x d.name)

pub first_in-shared : (all : List Declaration) (x : List ℕ)
    → first_in all 0 x ≡ option_map found_of (declaration_of all x)
unfolding first_in
first_in-shared all x = ap (option_map found_of) (find_same (is_named 0 x) _ (named_shared x) all)

kind_found : (o : Option Declaration) → option_map (λ (f : Found). f.kind) (option_map found_of o) ≡ kind_of o
kind_found None = refl
kind_found (Some d) = refl

-- no declaration on another line is in a list of this one
list_any_none_map : {A B : Type 0} (p : B → Bool) (f : A → B) → ((x : A) → p (f x) ≡ false) → (xs : List A)
    → list_any p (map f xs) ≡ false
list_any_none_map p f none [] = refl
list_any_none_map p f none (x ∷ xs) = rw (none x, list_any_none_map p f none xs) refl

and_false : (b : Bool) → (b && false) ≡ false
and_false true = refl
and_false false = refl

or_false : (b : Bool) → (b || false) ≡ b
or_false true = refl
or_false false = refl

apart : (a : InnerKind) (l line : ℕ) (x name : List ℕ) (kind : NameKind) → l ≢ line
    → is_named (scope_within a l) x (declare line kind name) ≡ false
apart a l line x name kind ne =
    let other : nat_eq line l ≡ false = ne_eqb line l (λ e. ne (sym e)) in
    let scopes : nat_eq (scope_within a l) (scope_in kind line) ≡ false =
    inner_scope kind a line l
    ∙ rw (other, and_false (same_kind kind (Inner a)), and_false (is_inner kind)) refl in
    rw scopes refl

-- a name of another kind is in another list
other_list : (a : InnerKind) (line : ℕ) (x name : List ℕ) (kind : NameKind) → same_kind kind (Inner a) ≡ false
    → is_named (scope_within a line) x (declare line kind name) ≡ false
other_list a line x name kind other =
    let scopes : nat_eq (scope_within a line) (scope_in kind line) ≡ false =
    inner_scope kind a line line ∙ rw (other, and_false (is_inner kind)) refl in
    rw scopes refl

no_others : (a : InnerKind) (line : ℕ) (x : List ℕ) (kind : NameKind) (xs : List (List ℕ))
    → same_kind kind (Inner a) ≡ false
    → list_any (is_named (scope_within a line) x) (map (declare line kind) xs) ≡ false
no_others a line x kind xs other =
    list_any_none_map (is_named (scope_within a line) x) (declare line kind)
    (λ name. other_list a line x name kind other) xs

none_of_line : (a : InnerKind) (l line : ℕ) (x : List ℕ) (kind : KindTree) → l ≢ line
    → list_any (is_named (scope_within a l) x) (declarations_of line kind) ≡ false
none_of_line a l line x (Columns items) ne =
    list_any_none_map (is_named (scope_within a l) x) (λ (item : ColumnItem). declare line AColumn item.name)
    (λ item. apart a l line x item.name AColumn ne) items
none_of_line a l line x (Labels xs) ne =
    list_any_none_map (is_named (scope_within a l) x) (declare line ALabel)
    (λ name. apart a l line x name ALabel ne) xs
none_of_line a l line x (Measure part) ne = rw (apart a l line x part.name AMeasure ne) refl
none_of_line a l line x (Table part) ne =
    rw (apart a l line x part.name ATable ne)
    (list_any_none_map (is_named (scope_within a l) x) (declare line (Inner Element))
    (λ name. apart a l line x name (Inner Element) ne) part.elements)
none_of_line a l line x (Times part) ne = refl
none_of_line a l line x (Automaton part) ne =
    rw (apart a l line x part.name AnAutomaton ne)
    (list_any-append (is_named (scope_within a l) x) (map (declare line (Inner State)) part.states)
    (map (declare line (Inner Letter)) part.letters)
    ∙ rw (
      list_any_none_map (is_named (scope_within a l) x) (declare line (Inner State))
          (λ name. apart a l line x name (Inner State) ne) part.states,
      list_any_none_map (is_named (scope_within a l) x) (declare line (Inner Letter))
          (λ name. apart a l line x name (Inner Letter) ne) part.letters,
    ) refl)
none_of_line a l line x (Step part) ne = refl
none_of_line a l line x (Generate shape) ne = refl
none_of_line a l line x (Test test) ne = refl
none_of_line a l line x (Named name test) ne = rw (apart a l line x name ATest ne) refl
none_of_line a l line x (Keep keep) ne = refl
none_of_line a l line x (Aggregate goal) ne = refl

none_later : (a : InnerKind) (l low : ℕ) (x : List ℕ) (parts : List PartTree) → l < low → Ascend low parts
    → list_any (is_named (scope_within a l) x) (declarations parts) ≡ false
none_later a l low x [] lt fits = refl
none_later a l low x (part ∷ parts) lt fits =
    list_any-append (is_named (scope_within a l) x) (declarations_of part.line part.kind) (declarations parts)
    ∙ rw (
      none_of_line a l part.line x part.kind (λ h. omega (arith, fits.0)),
      none_later a l (part.line + 1) x parts (omega (arith, fits.0)) fits.1,
    ) refl

-- a declaration that is found on a line has its number
pub line_of_map : {A : Type 0} (p : Declaration → Bool) (line : ℕ) (kind : NameKind) (f : A → List ℕ) (xs : List A)
    (d : Declaration) → find p (map (λ x. declare line kind (f x)) xs) ≡ Some d → (d.line ≡ line) × (d.kind ≡ kind)
line_of_map p line kind f [] d e = absurd (none-some d e)
line_of_map p line kind f (x ∷ xs) d e =
    elim (p (declare line kind (f x))) as (λ b. cond b (Some (declare line kind (f x)))
    (find p (map (λ x. declare line kind (f x)) xs)) ≡ Some d
    → (d.line ≡ line) × (d.kind ≡ kind)) [
      | true ↦ (λ h. let s = same_Some _ _ h in (
        ap (λ (x : Declaration). x.line) (sym s),
        ap
            (λ (x : Declaration). x.kind) (sym s),
      ))
      | false ↦ (λ h. line_of_map p line kind f xs d h)
    ] e

abbrev pub called : List ℕ → Declaration → Bool
called t d = not (is_inner d.kind) && bytes_eq d.name t

-- a name that isn't that of a table or automaton is no home
column_no_home : (a : InnerKind) → same_kind (home a) AColumn ≡ false
column_no_home Element = refl
column_no_home State = refl
column_no_home Letter = refl

label_no_home : (a : InnerKind) → same_kind (home a) ALabel ≡ false
label_no_home Element = refl
label_no_home State = refl
label_no_home Letter = refl

measure_no_home : (a : InnerKind) → same_kind (home a) AMeasure ≡ false
measure_no_home Element = refl
measure_no_home State = refl
measure_no_home Letter = refl

test_no_home : (a : InnerKind) → same_kind (home a) ATest ≡ false
test_no_home Element = refl
test_no_home State = refl
test_no_home Letter = refl

pub kind_differs : (wanted k d : NameKind) → d ≡ k → same_kind wanted k ≡ false → same_kind wanted d ≡ true → ⊥
kind_differs wanted k d e differs same = false≢true (sym differs ∙ ap (same_kind wanted) (sym e) ∙ same)

none_called : (line : ℕ) (a : InnerKind) (t : List ℕ) (xs : List (List ℕ))
    → find (called t) (map (declare line (Inner a)) xs) ≡ None
none_called line a t [] = refl
none_called line a t (x ∷ xs) = none_called line a t xs

-- the names of a kind within a line
inner_named : (a : InnerKind) (line : ℕ) (x : List ℕ) (xs : List (List ℕ))
    → list_any (is_named (scope_within a line) x) (map (declare line (Inner a)) xs) ≡ is_one_of xs x
inner_named a line x [] = refl
inner_named a line x (name ∷ xs) =
    rw (eq-eqb (scope_within a line) (scope_within a line) refl, bytes_eq_swap x name, inner_named a line x xs) refl

-- a declaration of a table's line that is called t is the table's own
pub table_hit : (line : ℕ) (name t : List ℕ) (elements : List (List ℕ)) (d : Declaration)
    → find (called t) (declare line ATable name ∷ map (declare line (Inner Element)) elements) ≡ Some d
    → (bytes_eq name t ≡ true) × (declare line ATable name ≡ d)
table_hit line name t elements d e =
    cond_some (bytes_eq name t) (declare line ATable name) d
    (ap (λ (o : Option Declaration). cond (bytes_eq name t) (Some (declare line ATable name)) o)
    (sym (none_called line Element t elements)) ∙ e)

-- so is one of an automaton's line
abbrev pub inner_of : ℕ → AutomatonTree → List Declaration
inner_of line part = map (declare line (Inner State)) part.states ++ map (declare line (Inner Letter)) part.letters

pub none_inner : (line : ℕ) (part : AutomatonTree) (t : List ℕ) → find (called t) (inner_of line part) ≡ None
none_inner line part t =
    find-append (called t) (map (declare line (Inner State)) part.states)
    (map (declare line (Inner Letter)) part.letters)
    ∙ rw (none_called line State t part.states, none_called line Letter t part.letters) refl

pub automaton_hit : (line : ℕ) (part : AutomatonTree) (t : List ℕ) (d : Declaration)
    → find (called t) (declare line AnAutomaton part.name ∷ inner_of line part) ≡ Some d
    → (bytes_eq part.name t ≡ true) × (declare line AnAutomaton part.name ≡ d)
automaton_hit line part t d e =
    cond_some (bytes_eq part.name t) (declare line AnAutomaton part.name) d
    (ap (λ (o : Option Declaration). cond (bytes_eq part.name t) (Some (declare line AnAutomaton part.name)) o)
    (sym (none_inner line part t)) ∙ e)

-- a home that is found on a line: it has that line, and the names within it are those of the line
record IsHomeOf (a : InnerKind) (line : ℕ) (kind : KindTree) (t : List ℕ) (d : Declaration) : Type 0 where
  on_line : d.line ≡ line
  inner : (x : List ℕ) → list_any (is_named (scope_within a line) x) (declarations_of line kind)
      ≡ is_one_of (listed (inner_names a kind t)) x
  there : (o : Option (List (List ℕ))) → option_or (inner_names a kind t) o ≡ inner_names a kind t

table_here : (a : InnerKind) (line : ℕ) (part : TableTree) (t : List ℕ) (d : Declaration)
    → find (called t) (declarations_of line (Table part)) ≡ Some d → same_kind (home a) d.kind ≡ true
    → IsHomeOf a line (Table part) t d
table_here Element line part t d e same =
    let hit = table_hit line part.name t part.elements d e in
    record {
      on_line = ap (λ (x : Declaration). x.line) (sym hit.1);
      inner = λ x. rw (other_list Element line x part.name ATable refl, hit.0)
          (inner_named Element line x part.elements);
      there = λ o. rw hit.0 refl;
    }
table_here State line part t d e same =
    absurd (kind_differs AnAutomaton ATable d.kind
    (ap (λ (x : Declaration). x.kind) (sym (table_hit line part.name t part.elements d e).1)) refl same)
table_here Letter line part t d e same =
    absurd (kind_differs AnAutomaton ATable d.kind
    (ap (λ (x : Declaration). x.kind) (sym (table_hit line part.name t part.elements d e).1)) refl same)

automaton_here : (a : InnerKind) (line : ℕ) (part : AutomatonTree) (t : List ℕ) (d : Declaration)
    → find (called t) (declarations_of line (Automaton part)) ≡ Some d → same_kind (home a) d.kind ≡ true
    → IsHomeOf a line (Automaton part) t d
automaton_here Element line part t d e same =
    absurd (kind_differs ATable AnAutomaton d.kind
    (ap (λ (x : Declaration). x.kind) (sym (automaton_hit line part t d e).1)) refl same)
automaton_here State line part t d e same =
    let hit = automaton_hit line part t d e in
    record {
      on_line = ap (λ (x : Declaration). x.line) (sym hit.1);
      inner = λ x. rw (other_list State line x part.name AnAutomaton refl, hit.0)
          (list_any-append (is_named (scope_within State line) x) (map (declare line (Inner State)) part.states)
          (map (declare line (Inner Letter)) part.letters)
          ∙ rw (inner_named State line x part.states, no_others State line x (Inner Letter) part.letters refl)
          (or_false (is_one_of part.states x)));
      there = λ o. rw hit.0 refl;
    }
automaton_here Letter line part t d e same =
    let hit = automaton_hit line part t d e in
    record {
      on_line = ap (λ (x : Declaration). x.line) (sym hit.1);
      inner = λ x. rw (other_list Letter line x part.name AnAutomaton refl, hit.0)
          (list_any-append (is_named (scope_within Letter line) x) (map (declare line (Inner State)) part.states)
          (map (declare line (Inner Letter)) part.letters)
          ∙ rw (no_others Letter line x (Inner State) part.states refl, inner_named Letter line x part.letters) refl);
      there = λ o. rw hit.0 refl;
    }

home_here : (a : InnerKind) (line : ℕ) (kind : KindTree) (t : List ℕ) (d : Declaration)
    → find (called t) (declarations_of line kind) ≡ Some d → same_kind (home a) d.kind ≡ true
    → IsHomeOf a line kind t d
home_here a line (Columns items) t d e same =
    absurd (kind_differs (home a) AColumn d.kind
    (line_of_map (called t) line AColumn (λ (item : ColumnItem). item.name) items d e).1 (column_no_home a) same)
home_here a line (Labels xs) t d e same =
    absurd (kind_differs (home a) ALabel d.kind
    (line_of_map (called t) line ALabel (λ x. x) xs d e).1 (label_no_home a) same)
home_here a line (Measure part) t d e same =
    absurd (kind_differs (home a) AMeasure d.kind
    (line_of_map (called t) line AMeasure (λ (x : List ℕ). x) (part.name ∷ []) d e).1 (measure_no_home a) same)
home_here a line (Table part) t d e same = table_here a line part t d e same
home_here a line (Times part) t d e same = absurd (none-some d e)
home_here a line (Automaton part) t d e same = automaton_here a line part t d e same
home_here a line (Step part) t d e same = absurd (none-some d e)
home_here a line (Generate shape) t d e same = absurd (none-some d e)
home_here a line (Test test) t d e same = absurd (none-some d e)
home_here a line (Named name test) t d e same =
    absurd (kind_differs (home a) ATest d.kind
    (line_of_map (called t) line ATest (λ (x : List ℕ). x) (name ∷ []) d e).1 (test_no_home a) same)
home_here a line (Keep keep) t d e same = absurd (none-some d e)
home_here a line (Aggregate goal) t d e same = absurd (none-some d e)

-- a line that declares nothing of a name has no names within it for that name
unless_called : (called_so : Bool) (d : Declaration) (o : Option Declaration) (names : List (List ℕ))
    → cond called_so (Some d) o ≡ None → cond called_so (Some names) None ≡ None
unless_called true d o names h = absurd (none-some d (sym h))
unless_called false d o names h = refl

no_home_here : (a : InnerKind) (line : ℕ) (kind : KindTree) (t : List ℕ)
    → find (called t) (declarations_of line kind) ≡ None → inner_names a kind t ≡ None
no_home_here Element line (Table part) t e =
    unless_called (bytes_eq part.name t) (declare line ATable part.name) _ part.elements e
no_home_here State line (Automaton part) t e =
    unless_called (bytes_eq part.name t) (declare line AnAutomaton part.name) _ part.states e
no_home_here Letter line (Automaton part) t e =
    unless_called (bytes_eq part.name t) (declare line AnAutomaton part.name) _ part.letters e
no_home_here Element line (Columns items) t e = refl
no_home_here Element line (Labels xs) t e = refl
no_home_here Element line (Measure part) t e = refl
no_home_here Element line (Times part) t e = refl
no_home_here Element line (Automaton part) t e = refl
no_home_here Element line (Step part) t e = refl
no_home_here Element line (Generate shape) t e = refl
no_home_here Element line (Test test) t e = refl
no_home_here Element line (Named name test) t e = refl
no_home_here Element line (Keep keep) t e = refl
no_home_here Element line (Aggregate goal) t e = refl
no_home_here State line (Columns items) t e = refl
no_home_here State line (Labels xs) t e = refl
no_home_here State line (Measure part) t e = refl
no_home_here State line (Table part) t e = refl
no_home_here State line (Times part) t e = refl
no_home_here State line (Step part) t e = refl
no_home_here State line (Generate shape) t e = refl
no_home_here State line (Test test) t e = refl
no_home_here State line (Named name test) t e = refl
no_home_here State line (Keep keep) t e = refl
no_home_here State line (Aggregate goal) t e = refl
no_home_here Letter line (Columns items) t e = refl
no_home_here Letter line (Labels xs) t e = refl
no_home_here Letter line (Measure part) t e = refl
no_home_here Letter line (Table part) t e = refl
no_home_here Letter line (Times part) t e = refl
no_home_here Letter line (Step part) t e = refl
no_home_here Letter line (Generate shape) t e = refl
no_home_here Letter line (Test test) t e = refl
no_home_here Letter line (Named name test) t e = refl
no_home_here Letter line (Keep keep) t e = refl
no_home_here Letter line (Aggregate goal) t e = refl

-- a declaration that is found among those of one line has its number
line_of_two : (p : Declaration → Bool) (line : ℕ) (kind : NameKind) (name : List ℕ) (inner : List Declaration)
    (d : Declaration) → ((d : Declaration) → find p inner ≡ Some d → d.line ≡ line)
    → find p (declare line kind name ∷ inner) ≡ Some d → d.line ≡ line
line_of_two p line kind name inner d rest e =
    elim (p (declare line kind name)) as (λ b. cond b (Some (declare line kind name)) (find p inner) ≡ Some d
    → d.line ≡ line) [
      | true ↦ (λ h. ap (λ (x : Declaration). x.line) (sym (same_Some _ _ h)))
      | false ↦ (λ h. rest d h)
    ] e

pub option_cases : {A : Type 0} (o : Option A) → (o ≡ None) ⊎ ((x : A) × (o ≡ Some x))
option_cases None = inl refl
option_cases (Some x) = inr (x, refl)

line_of_inner : (p : Declaration → Bool) (line : ℕ) (part : AutomatonTree) (d : Declaration)
    → find p (inner_of line part) ≡ Some d → d.line ≡ line
line_of_inner p line part d e =
    let states = map (declare line (Inner State)) part.states in
    let letters = map (declare line (Inner Letter)) part.letters in
    let joined : option_or (find p states) (find p letters) ≡ Some d = sym (find-append p states letters) ∙ e in
    elim (option_cases (find p states)) [
      | inl none ↦ (let later : find p letters ≡ Some d = rw none at joined in
          (line_of_map p line (Inner Letter) (λ (x : List ℕ). x) part.letters d later).0)
      | inr some ↦ (let found : some.0 ≡ d = same_Some _ _ (rw some.1 at joined) in
          (line_of_map p line (Inner State) (λ (x : List ℕ). x) part.states d (some.1 ∙ ap Some found)).0)
    ]

line_here : (p : Declaration → Bool) (line : ℕ) (kind : KindTree) (d : Declaration)
    → find p (declarations_of line kind) ≡ Some d → d.line ≡ line
line_here p line (Columns items) d e = (line_of_map p line AColumn (λ (item : ColumnItem). item.name) items d e).0
line_here p line (Labels xs) d e = (line_of_map p line ALabel (λ x. x) xs d e).0
line_here p line (Measure part) d e = (line_of_map p line AMeasure (λ (x : List ℕ). x) (part.name ∷ []) d e).0
line_here p line (Table part) d e =
    line_of_two p line ATable part.name (map (declare line (Inner Element)) part.elements) d
    (λ d h. (line_of_map p line (Inner Element) (λ (x : List ℕ). x) part.elements d h).0) e
line_here p line (Times part) d e = absurd (none-some d e)
line_here p line (Automaton part) d e =
    line_of_two p line AnAutomaton part.name (inner_of line part) d (line_of_inner p line part) e
line_here p line (Step part) d e = absurd (none-some d e)
line_here p line (Generate shape) d e = absurd (none-some d e)
line_here p line (Test test) d e = absurd (none-some d e)
line_here p line (Named name test) d e = (line_of_map p line ATest (λ (x : List ℕ). x) (name ∷ []) d e).0
line_here p line (Keep keep) d e = absurd (none-some d e)
line_here p line (Aggregate goal) d e = absurd (none-some d e)

line_after : (p : Declaration → Bool) (low : ℕ) (parts : List PartTree) (d : Declaration) → Ascend low parts
    → find p (declarations parts) ≡ Some d → low ≤ d.line
line_after p low [] d fits e = absurd (none-some d e)
line_after p low (part ∷ parts) d fits e =
    let here = find p (declarations_of part.line part.kind) in
    let joined : option_or here (find p (declarations parts)) ≡ Some d =
    sym (find-append p (declarations_of part.line part.kind) (declarations parts)) ∙ e in
    elim (option_cases here) [
      | inl none ↦ (let later : find p (declarations parts) ≡ Some d = rw none at joined in
          let after : part.line + 1 ≤ d.line = line_after p (part.line + 1) parts d fits.1 later in omega
          (arith, fits.0))
      | inr some ↦ (let found : Some some.0 ≡ Some d = rw some.1 at joined in
          let line : d.line ≡ part.line = ap (λ (x : Declaration). x.line) (sym (same_Some _ _ found))
          ∙ line_here p part.line part.kind some.0 some.1 in omega (arith, fits.0))
    ]

pub inner_found : (a : InnerKind) (t x : List ℕ) (low : ℕ) (before parts : List PartTree) (d : Declaration)
    → Ascend low parts → find (called t) (declarations parts) ≡ Some d → same_kind (home a) d.kind ≡ true
    → list_any (is_named (scope_within a d.line) x) (declarations parts)
    ≡ is_one_of (listed (first_answer (λ (before : List PartTree)
    (part : PartTree). inner_names a part.kind t) before parts)) x
inner_found a t x low before [] d fits e same = absurd (none-some d e)
inner_found a t x low before (part ∷ parts) d fits e same =
    let ds = declarations_of part.line part.kind in
    let here = find (called t) ds in
    let joined : option_or here (find (called t) (declarations parts)) ≡ Some d =
    sym (find-append (called t) ds (declarations parts)) ∙ e in
    list_any-append (is_named (scope_within a d.line) x) ds (declarations parts)
    ∙ elim (option_cases here) [
      | inl none ↦ (let later : find (called t) (declarations parts) ≡ Some d = rw none at joined in
          let after : part.line + 1 ≤ d.line = line_after (called t) (part.line + 1) parts d fits.1 later in
          rw (
            none_of_line a d.line part.line x part.kind (λ h. omega arith),
            no_home_here a part.line part.kind t none,
          )
          (inner_found a t x (part.line + 1) (before ++ part ∷ []) parts d fits.1 later same))
      | inr some ↦ (let found : some.0 ≡ d = same_Some _ _ (rw some.1 at joined) in
          let home = home_here a part.line part.kind t d (some.1 ∙ ap Some found) same in
          rw (
            home.on_line,
            home.there _,
            home.inner x,
            none_later a part.line (part.line + 1) x parts (omega arith) fits.1,
          )
          (or_false (is_one_of (listed (inner_names a part.kind t)) x)))
    ]

module _ (index : Names) (parts : List PartTree) (known : IsIndex index (declarations parts)) where
  pub shared_at : (x : List ℕ) → known_at index 0 x ≡ option_map found_of (declaration_of (declarations parts) x)
  shared_at x = known 0 x ∙ first_in-shared (declarations parts) x

  pub kind_at-declared_as : (x : List ℕ) → kind_at index x ≡ declared_as parts x
  kind_at-declared_as x =
      ap (option_map (λ (f : Found). f.kind)) (shared_at x) ∙ kind_found (declaration_of (declarations parts) x)

  inner_at : (a : InnerKind) (x : List ℕ) (line : ℕ) → is_some (known_at index (scope_within a line) x)
      ≡ list_any (is_named (scope_within a line) x) (declarations parts)
  unfolding first_in
  inner_at a x line = ap (λ (o : Option Found). is_some o) (known (scope_within a line) x)
      ∙ is_some-mapped_find found_of (is_named (scope_within a line) x) (declarations parts)

  inner_known : (a : InnerKind) (low : ℕ) → Ascend low parts → (t x : List ℕ)
      → has_inner index a (known_at index 0 t) x ≡ is_known parts (names.Within a t) x
  inner_known a low fits t x =
      ap (λ (o : Option Found). has_inner index a o x) (shared_at t)
      ∙ elim (option_cases (declaration_of (declarations parts) t)) [
        | inl none ↦ rw none refl
        | inr some ↦ rw some.1 (home_or_not some.0 some.1)
      ]
    where
      home_or_not : (d : Declaration) → declaration_of (declarations parts) t ≡ Some d
          → cond (same_kind (home a) d.kind) (is_some (known_at index (scope_within a d.line) x)) true
          ≡ cond (same_kind (home a) d.kind) (is_one_of (names_within a parts t) x) true
      home_or_not d e =
          elim (cases_Bool (same_kind (home a) d.kind)) [
            | inl is ↦ (let f : is_some (known_at index (scope_within a d.line) x)
                ≡ is_one_of (names_within a parts t) x =
                inner_at a x d.line ∙ inner_found a t x low [] parts d fits e is in rw f refl)
            | inr other ↦ rw other refl
          ]

  known_by-is_known : (low : ℕ) → Ascend low parts → (wanted : Wanted) (x : List ℕ)
      → known_by index wanted x ≡ is_known parts wanted x
  known_by-is_known low fits names.Column x = ap (is_of AColumn) (kind_at-declared_as x)
  known_by-is_known low fits names.Label x = ap (is_of ALabel) (kind_at-declared_as x)
  known_by-is_known low fits names.Weight x =
      ap (λ (o : Option NameKind). is_of AColumn o || is_of AMeasure o) (kind_at-declared_as x)
  known_by-is_known low fits names.TableName x = ap (is_of ATable) (kind_at-declared_as x)
  known_by-is_known low fits names.TestName x = ap (is_of ATest) (kind_at-declared_as x)
  known_by-is_known low fits names.AutomatonName x = ap (is_of AnAutomaton) (kind_at-declared_as x)
  known_by-is_known low fits (names.Within a t) x = inner_known a low fits t x
  known_by-is_known low fits (names.OneOf xs) x = refl

  pub unknown_in-uses : (low : ℕ) → Ascend low parts
      → unknown_in index (uses parts) ≡ option_map used_place (unknown_use parts)
  unfolding unknown_in
  unknown_in-uses low fits =
      ap (option_map used_place) (find_same _ _
      (λ (u : Use). ap not (known_by-is_known low fits u.wanted u.name)) (uses parts))
