-- What holds of each line, and of the lines together, where no rule is broken.
use Rattle.std.proofs.Common.{◌≡◌, ℕ, ◌+◌, ◌≤◌, Bool, true, false, ◌&&◌, ◌||◌, List, [], ◌∷◌, ◌++◌}
use Rattle.std.specs.Option.{option_or}
use Rattle.std.proofs.Common.{filter, length, Option, Some, None, option_map, cond, refl, sym, ap}
use Rattle.std.proofs.Common.{◌∙◌, inl, inr, append_assoc, subst, leb, arith}
use Rattle.std.specs.List.{find, list_any, flat_map}
use Rattle.std.proofs.lemmas.List.{append-nil, length-append}
use Rattle.std.proofs.lemmas.List.Folds.{list_any-append}
use Rattle.std.proofs.lemmas.Bool.{false≢true, cases_Bool, leb-false}
use Rattle.std.proofs.lemmas.Option.{none-some}
use Rattle.gta_spec.specs.Parts.{KindTree, PartTree}
use Rattle.gta_spec.specs.WellFormed.{EachFits}
use Rattle.spec_rules.specs.declared.fault.SinglePart.{SinglePart}
use Rattle.spec_rules.specs.declared.fault.SinglePart.TheVariants as singles
use Rattle.spec_rules.specs.declared.fault.Limit.{Limit}
use Rattle.spec_rules.specs.declared.fault.Limit.TheVariants as limits
use Rattle.spec_rules.specs.SpecRules.{first_answer, single_of, is_the, is_single, is_past}
use Rattle.spec_rules.specs.SpecRules.{all_limits, limit_at, second_at, earlier}

pub option_or_none : {A : Type 0} (x y : Option A) → option_or x y ≡ None → (x ≡ None) × (y ≡ None)
option_or_none None y e = (refl, e)
option_or_none (Some x) y e = absurd (none-some _ (sym e))

pub mapped_none : {A B : Type 0} (f : A → B) (o : Option A) → option_map f o ≡ None → o ≡ None
mapped_none f None e = refl
mapped_none f (Some x) e = absurd (none-some _ (sym e))

pub none_found : {A : Type 0} (p : A → Bool) (xs : List A) → find p xs ≡ None → EachFits (λ x. p x ≡ false) xs
none_found p [] e = tt
none_found p (x ∷ xs) e =
    elim (cases_Bool (p x)) [
      | inl h ↦ absurd (none-some _ (sym (rw h at e)))
      | inr h ↦ (h, none_found p xs (rw h at e))
    ]

-- a line passes no limit beside the lines before it
abbrev pub Kept : ℕ → KindTree → Type 0
Kept count kind = (limit : Limit) → is_past count kind limit ≡ false

abbrev pub AllKept : List PartTree → List PartTree → Type 0
AllKept before [] = Unit {0}
AllKept before (part ∷ parts) = Kept (earlier before part.kind) part.kind × AllKept (before ++ part ∷ []) parts

kept_by : (count : ℕ) (kind : KindTree) → EachFits (λ limit. is_past count kind limit ≡ false) all_limits
    → Kept count kind
kept_by count kind h limits.Name = h.0
kept_by count kind h limits.Header = h.1.0
kept_by count kind h limits.Columns = h.1.1.0
kept_by count kind h limits.Labels = h.1.1.1.0
kept_by count kind h limits.Measures = h.1.1.1.1.0
kept_by count kind h limits.Tables = h.1.1.1.1.1.0
kept_by count kind h limits.Tests = h.1.1.1.1.1.1.0
kept_by count kind h limits.Elements = h.1.1.1.1.1.1.1.0
kept_by count kind h limits.Cases = h.1.1.1.1.1.1.1.1.0
kept_by count kind h limits.Terms = h.1.1.1.1.1.1.1.1.1.0
kept_by count kind h limits.Atoms = h.1.1.1.1.1.1.1.1.1.1.0
kept_by count kind h limits.Factor = h.1.1.1.1.1.1.1.1.1.1.1.0
kept_by count kind h limits.Bound = h.1.1.1.1.1.1.1.1.1.1.1.1.0
kept_by count kind h limits.Modulus = h.1.1.1.1.1.1.1.1.1.1.1.1.1.0
kept_by count kind h limits.Residue = h.1.1.1.1.1.1.1.1.1.1.1.1.1.1.0
kept_by count kind h limits.Kept = h.1.1.1.1.1.1.1.1.1.1.1.1.1.1.1.0
kept_by count kind h limits.Automata = h.1.1.1.1.1.1.1.1.1.1.1.1.1.1.1.1.0
kept_by count kind h limits.States = h.1.1.1.1.1.1.1.1.1.1.1.1.1.1.1.1.1.0
kept_by count kind h limits.Letters = h.1.1.1.1.1.1.1.1.1.1.1.1.1.1.1.1.1.1.0

pub all_kept : (before parts : List PartTree)
    → first_answer limit_at before parts ≡ None
    → AllKept before parts
all_kept before [] e = tt
all_kept before (part ∷ parts) e =
    let h = option_or_none _ _ e in (
      kept_by (earlier before part.kind) part.kind
          (none_found (is_past (earlier before part.kind) part.kind) all_limits (mapped_none _ _ h.0)),
      all_kept (before ++ part ∷ []) parts h.1,
    )

filter-append : {A : Type 0} (p : A → Bool) (xs ys : List A) → filter p (xs ++ ys) ≡ filter p xs ++ filter p ys
filter-append p [] ys = refl
filter-append p (x ∷ xs) ys =
    elim (cases_Bool (p x)) [
      | inl h ↦ rw (h, filter-append p xs ys) refl
      | inr h ↦ rw (h, filter-append p xs ys) refl
    ]

module _ (is_kind : KindTree → Bool) (limit : ℕ)
    (pick : (before : List PartTree) (kind : KindTree) → Kept (earlier before kind) kind
    → (is_kind kind && leb limit (length (filter (λ line. is_kind line.kind) before))) ≡ false) where
  few_from : (before parts : List PartTree) → AllKept before parts
      → length (filter (λ line. is_kind line.kind) before) ≤ limit
      → length (filter (λ line. is_kind line.kind) (before ++ parts)) ≤ limit
  few_from before [] kept few = rw (append-nil before) few
  few_from before (part ∷ parts) kept few =
      let K = λ (line : PartTree). is_kind line.kind in
      let len : length (filter K (before ++ part ∷ [])) ≡ length (filter K before) + length (filter K (part ∷ [])) =
      ap length (filter-append K before (part ∷ [])) ∙ length-append (filter K before) (filter K (part ∷ [])) in
      let next : length (filter K (before ++ part ∷ [])) ≤ limit =
      elim (cases_Bool (is_kind part.kind)) [
        | inl h ↦ (let below = leb-false limit (length (filter K before)) (rw h at (pick before part.kind kept.0)) in
            let one : length (filter K (part ∷ [])) ≡ 1 = rw h refl in omega arith)
        | inr h ↦ (let none : length (filter K (part ∷ [])) ≡ 0 = rw h refl in omega arith)
      ] in
      let P : List PartTree → Type 0 = λ ps. length (filter K ps) ≤ limit in
      subst P (append_assoc before (part ∷ []) parts) (few_from (before ++ part ∷ []) parts kept.1 next)

  pub few_lines : (parts : List PartTree) → AllKept [] parts → length (filter (λ line. is_kind line.kind) parts) ≤ limit
  few_lines parts kept = few_from [] parts kept (omega arith)

  -- a list with one item for each line of the kind
  pub length_lines : {A : Type 0} (g : KindTree → List A)
      → ((kind : KindTree) → length (g kind) ≡ cond (is_kind kind) 1 0)
      → (parts : List PartTree) → length (flat_map (λ (part : PartTree). g part.kind) parts)
      ≡ length (filter (λ line. is_kind line.kind) parts)
  length_lines g one [] = refl
  length_lines g one (part ∷ parts) =
      length-append (g part.kind) (flat_map (λ (part : PartTree). g part.kind) parts)
      ∙ elim (cases_Bool (is_kind part.kind)) [
        | inl h ↦ (let here = rw h at (one part.kind) in let rest = length_lines g one parts in rw h (omega arith))
        | inr h ↦ (let here = rw h at (one part.kind) in let rest = length_lines g one parts in rw h (omega arith))
      ]

-- a line repeats no part beside the lines before it
abbrev pub AllOnce : List PartTree → List PartTree → Type 0
AllOnce before [] = Unit {0}
AllOnce before (part ∷ parts) =
    ((single : SinglePart) → (is_single single part && list_any (is_single single) before) ≡ false)
    × AllOnce (before ++ part ∷ []) parts

pub all_once : (before parts : List PartTree)
    → first_answer second_at before parts ≡ None
    → AllOnce before parts
all_once before [] e = tt
all_once before (part ∷ parts) e =
    let h = option_or_none _ _ e in
    let each = none_found (λ single. is_single single part && list_any (is_single single) before)
    (singles.Columns ∷ singles.Labels ∷ singles.Generate ∷ singles.Aggregate ∷ singles.Keep ∷ [])
    (mapped_none _ _ h.0) in
    (once before part each, all_once (before ++ part ∷ []) parts h.1)
  where
    once : (before : List PartTree) (part : PartTree)
        → EachFits (λ single. (is_single single part && list_any (is_single single) before) ≡ false)
        (singles.Columns ∷ singles.Labels ∷ singles.Generate ∷ singles.Aggregate ∷ singles.Keep ∷ [])
        → (single : SinglePart) → (is_single single part && list_any (is_single single) before) ≡ false
    once before part each singles.Columns = each.0
    once before part each singles.Labels = each.1.0
    once before part each singles.Generate = each.1.1.0
    once before part each singles.Aggregate = each.1.1.1.0
    once before part each singles.Keep = each.1.1.1.1.0

-- the one line that is a part, of which g gives nothing elsewhere
pub record IsOnly {A : Type 0} (P : PartTree → Type 0) (single : SinglePart) (g : KindTree → List A)
    (parts : List PartTree) : Type 0 where
  pub line : PartTree
  pub is : is_single single line ≡ true
  pub fits : P line
  pub only : flat_map (λ (part : PartTree). g part.kind) parts ≡ g line.kind

module _ {A : Type 0} (single : SinglePart) (g : KindTree → List A)
    (none : (kind : KindTree) → is_the single (single_of kind) ≡ false → g kind ≡ []) where
  no_more : (before parts : List PartTree) → AllOnce before parts → list_any (is_single single) before ≡ true
      → flat_map (λ (part : PartTree). g part.kind) parts ≡ []
  no_more before [] once there = refl
  no_more before (part ∷ parts) once there =
      let here : is_single single part ≡ false = and_true _ (rw there at (once.0 single)) in
      let seen : list_any (is_single single) (before ++ part ∷ []) ≡ true =
      list_any-append (is_single single) before (part ∷ []) ∙ rw there refl in
      rw (none part.kind here, no_more (before ++ part ∷ []) parts once.1 seen) refl
    where
      and_true : (b : Bool) → (b && true) ≡ false → b ≡ false
      and_true true h = h
      and_true false h = h

  pub the_only : (P : PartTree → Type 0) (before parts : List PartTree) → AllOnce before parts → EachFits P parts
      → list_any (is_single single) parts ≡ true → IsOnly P single g parts
  the_only P before [] once fits there = absurd (false≢true there)
  the_only P before (part ∷ parts) once fits there =
      elim (cases_Bool (is_single single part)) [
        | inl h ↦ (let seen : list_any (is_single single) (before ++ part ∷ []) ≡ true =
            list_any-append (is_single single) before (part ∷ [])
            ∙ rw h (or_true (list_any (is_single single) before)) in
            record {
              line = part;
              is = h;
              fits = fits.0;
              only = rw (no_more (before ++ part ∷ []) parts once.1 seen) (append-nil (g part.kind));
            })
        | inr h ↦ (let rest = the_only P (before ++ part ∷ []) parts once.1 fits.1 (rw h at there) in
            record {
              line = rest.line;
              is = rest.is;
              fits = rest.fits;
              only = rw (none part.kind h) rest.only;
            })
      ]
    where
      or_true : (b : Bool) → (b || true) ≡ true
      or_true true = refl
      or_true false = refl

  pub none_there : (parts : List PartTree) → list_any (is_single single) parts ≡ false
      → flat_map (λ (part : PartTree). g part.kind) parts ≡ []
  none_there [] there = refl
  none_there (part ∷ parts) there =
      elim (cases_Bool (is_single single part)) [
        | inl h ↦ absurd (false≢true (sym (rw h at there)))
        | inr h ↦ rw (none part.kind h) (none_there parts (rw h at there))
      ]
