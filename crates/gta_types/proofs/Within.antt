-- A line that is well formed, passes no limit and uses known names is within the limits once its names are resolved.
use Rattle.std.proofs.Common.{◌≡◌, ℕ, zero, suc, ◌<◌, Bool, true, false, ◌||◌, not, nat_lt, List}
use Rattle.std.proofs.Common.{[], ◌∷◌, ◌++◌, map, length, Option, Some, None, option_map, All, pos}
use Rattle.std.proofs.Common.{negsuc, nat_abs, cond, refl, sym, arith}
use Rattle.std.specs.List.{list_any, flat_map}
use Rattle.std.proofs.lemmas.List.{length-map}
use Rattle.std.proofs.lemmas.List.Elements.{All-nil, All-cons}
use Rattle.std.proofs.lemmas.Bool.{false≢true, ltb-false, leb-false, not-false}
use Rattle.std.proofs.lemmas.Int.{ints}
use Rattle.gta_spec.specs.declared.limits.TheConstants.{ATOM_LIMIT, BOUND_LIMIT, FACTOR_LIMIT}
use Rattle.gta_spec.specs.declared.limits.TheConstants.{MODULUS_LIMIT, TERM_LIMIT}
use Rattle.gta_spec.specs.declared.parts.TermPart.{TermPart}
use Rattle.gta_spec.specs.declared.parts.AtomPart.{AtomPart}
use Rattle.gta_spec.specs.declared.parts.AtomPart.TheVariants as atom_parts
use Rattle.gta_spec.specs.declared.parts.Check.{Check}
use Rattle.gta_spec.specs.declared.parts.Check.TheVariants.{Compare, Mod}
use Rattle.gta_spec.specs.Parts.{CaseTree, PartTree}
use Rattle.gta_spec.specs.WellFormed.{EachFits, FitsQuantity, FitsTerm, FitsCase}
use Rattle.gta_checked.specs.Within.{IsFactorWithin, IsTermWithin, IsAtomWithin, IsConditionWithin}
use Rattle.gta_checked.specs.Within.{IsCaseWithin, IsCheckWithin}
use Rattle.spec_rules.specs.SpecRules.{is_longer, case_forms, case_conditions, is_quantity_past}
use Rattle.spec_rules.specs.SpecRules.{is_factor_past, is_bound_past, is_modulus_past}
use Rattle.spec_rules.specs.SpecRules.{is_residue_past}
use Rattle.gta_types.specs.Names.{Use, Column, use_as, is_known, uses_of_term, use_of_atom, uses_of_case}
use Rattle.spec_tables.specs.Tables.{number_of}
use Rattle.gta_types.specs.Resolved.{column_items, environment, signed, factor_of}
use Rattle.gta_types.specs.Resolved.{resolved_term, resolved_atom, resolved_case}
use Rattle.gta_types.proofs.InRange.{column_in, label_in}

-- a name is declared for its use
abbrev pub Known : List PartTree → Use → Type 0
Known all u = not (is_known all u.wanted u.name) ≡ false

abbrev pub column_count : List PartTree → ℕ
column_count all = length (flat_map (λ (part : PartTree). column_items part.kind) all)

abbrev pub label_count : List PartTree → ℕ
label_count all = length (environment all).labels

pub each_front : {A : Type 0} (F : A → Type 0) (xs ys : List A) → EachFits F (xs ++ ys) → EachFits F xs
each_front F [] ys h = tt
each_front F (x ∷ xs) ys h = (h.0, each_front F xs ys h.1)

pub each_back : {A : Type 0} (F : A → Type 0) (xs ys : List A) → EachFits F (xs ++ ys) → EachFits F ys
each_back F [] ys h = h
each_back F (x ∷ xs) ys h = each_back F xs ys h.1

pub or_false_parts : (x y : Bool) → (x || y) ≡ false → (x ≡ false) × (y ≡ false)
or_false_parts true y h = absurd (false≢true (sym h))
or_false_parts false y h = (refl, h)

nat_abs-signed : (minus : Bool) (n : ℕ) → nat_abs (signed minus n) ≡ n
nat_abs-signed true zero = refl
nat_abs-signed true (suc n) = refl
nat_abs-signed false n = refl

module _ (all : List PartTree) (line : ℕ) where
  column_within : (x : List ℕ) → Known all (use_as line Column x)
      → number_of (environment all).columns x < column_count all
  column_within x known =
      let within = column_in all x (not-false _ known) in
      let len = length-map (flat_map (λ (part : PartTree). column_items part.kind) all) (λ item. item.name) in
      omega (arith, within, len)

  factor_within : (version : ℕ) (minus : Bool) (number : Option ℕ) (name : Option (List ℕ))
      → FitsQuantity version number name
      → is_quantity_past number name ≡ false → EachFits (Known all) (uses_of_term line name)
      → IsFactorWithin (column_count all) (signed minus (factor_of number))
      (option_map (number_of (environment all).columns) name)
  factor_within version minus None None fits past known = absurd fits
  factor_within version minus None (Some x) fits past known =
      (column_within x known.0, (let e = nat_abs-signed minus 1 in omega arith))
  factor_within version minus (Some n) None fits past known = rw (nat_abs-signed minus n) fits
  factor_within version minus (Some n) (Some x) fits past known = (
    column_within x known.0,
    (let e = nat_abs-signed minus n in let few = ltb-false FACTOR_LIMIT n past in omega arith),
  )

  terms_within : (version : ℕ) (form : List TermPart) → EachFits (FitsTerm version) form
      → list_any is_factor_past form ≡ false
      → EachFits (Known all) (flat_map (λ (term : TermPart). uses_of_term line term.name) form)
      → All (IsTermWithin (column_count all)) (map (resolved_term (environment all)) form)
  terms_within version [] fits past known = All-nil (IsTermWithin (column_count all))
  terms_within version (term ∷ form) fits past known =
      let past_parts = or_false_parts (is_factor_past term) (list_any is_factor_past form) past in
      All-cons (IsTermWithin (column_count all)) (resolved_term (environment all) term)
      (map (resolved_term (environment all)) form)
      (factor_within version term.minus term.number term.name fits.0 past_parts.0
      (each_front (Known all) (uses_of_term line term.name) _ known))
      (terms_within version form fits.1 past_parts.1 (each_back (Known all) (uses_of_term line term.name) _ known))

  atom_within : (atom : AtomPart) → Known all (use_of_atom line atom)
      → IsAtomWithin (column_count all) (label_count all) (resolved_atom (environment all) atom)
  atom_within (atom_parts.Label x) known = label_in all x (not-false _ known)
  atom_within (atom_parts.Column x cmp number) known = column_within x known

  atoms_within : (cond : List AtomPart) → EachFits (Known all) (map (use_of_atom line) cond)
      → All (IsAtomWithin (column_count all) (label_count all)) (map (resolved_atom (environment all)) cond)
  atoms_within [] known = All-nil (IsAtomWithin (column_count all) (label_count all))
  atoms_within (atom ∷ cond) known =
      All-cons (IsAtomWithin (column_count all) (label_count all)) (resolved_atom (environment all) atom)
      (map (resolved_atom (environment all)) cond) (atom_within atom known.0) (atoms_within cond known.1)

  pub condition_within : (cond : List AtomPart) → is_longer ATOM_LIMIT cond ≡ false
      → EachFits (Known all) (map (use_of_atom line) cond)
      → IsConditionWithin (column_count all) (label_count all) (map (resolved_atom (environment all)) cond)
  condition_within cond atoms known = (
    (let l = length-map cond (resolved_atom (environment all)) in
        let few = ltb-false ATOM_LIMIT (length cond) atoms in omega arith),
    atoms_within cond known,
  )

  case_within : (version : ℕ) (case : CaseTree) → FitsCase version case → is_longer TERM_LIMIT case.form ≡ false
      → is_longer ATOM_LIMIT case.cond ≡ false → list_any is_factor_past case.form ≡ false
      → EachFits (Known all) (uses_of_case line case)
      → IsCaseWithin (column_count all) (label_count all) (resolved_case (environment all) case)
  case_within version case fits terms atoms factors known = record {
    few_terms = (let l = length-map case.form (resolved_term (environment all)) in
        let few = ltb-false TERM_LIMIT (length case.form) terms in omega arith);
    terms = terms_within version case.form fits.0.1 factors
        (each_front (Known all) (flat_map (λ (term : TermPart). uses_of_term line term.name) case.form) _ known);
    condition = condition_within case.cond atoms
        (each_back (Known all) (flat_map (λ (term : TermPart). uses_of_term line term.name) case.form) _ known);
  }

  pub cases_within : (version : ℕ) (cases : List CaseTree) → EachFits (FitsCase version) cases
      → list_any (is_longer TERM_LIMIT) (case_forms cases) ≡ false
      → list_any (is_longer ATOM_LIMIT) (case_conditions cases) ≡ false
      → list_any (list_any is_factor_past) (case_forms cases) ≡ false
      → EachFits (Known all) (flat_map (uses_of_case line) cases)
      → All (IsCaseWithin (column_count all) (label_count all)) (map (resolved_case (environment all)) cases)
  cases_within version [] fits terms atoms factors known = All-nil (IsCaseWithin (column_count all) (label_count all))
  cases_within version (case ∷ cases) fits terms atoms factors known =
      let t = or_false_parts _ _ terms in let a = or_false_parts _ _ atoms in let f = or_false_parts _ _ factors in
      All-cons (IsCaseWithin (column_count all) (label_count all)) (resolved_case (environment all) case)
      (map (resolved_case (environment all)) cases)
      (case_within version case fits.0 t.0 a.0 f.0 (each_front (Known all) (uses_of_case line case) _ known))
      (cases_within version cases fits.1 t.1 a.1 f.1 (each_back (Known all) (uses_of_case line case) _ known))

pub check_within : (check : Check) → is_bound_past check ≡ false → is_modulus_past check ≡ false
    → is_residue_past check ≡ false → IsCheckWithin check
check_within (Compare cmp (pos n)) bound modulus residue =
    let b = or_false_parts (nat_lt n 0) (nat_lt BOUND_LIMIT n) bound in
    let few = ltb-false BOUND_LIMIT n b.1 in (omega (arith, ints), omega (arith, ints, few))
check_within (Compare cmp (negsuc n)) bound modulus residue = absurd (false≢true (sym bound))
check_within (Mod m r) bound modulus residue =
    let b = or_false_parts (nat_lt m 1) (nat_lt MODULUS_LIMIT m) modulus in
    let few = ltb-false MODULUS_LIMIT m b.1 in
    let below = leb-false m r residue in (few, below)
