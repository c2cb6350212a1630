-- Names within a line: where a use of them is known, their numbers are those of the line's names.
use Rattle.std.proofs.Common.{◌≡◌, ℕ, ◌<◌, true, false, List, [], ◌∷◌, ◌++◌, map, length, All, subst}
use Rattle.std.specs.List.{list_any, flat_map}
use Rattle.std.proofs.lemmas.Bool.{not-false}
use Rattle.std.proofs.lemmas.List.Elements.{All-nil, All-cons}
use Rattle.gta_spec.specs.declared.limits.TheConstants.{ATOM_LIMIT}
use Rattle.gta_spec.specs.Parts.{PickTree, PartTree}
use Rattle.gta_spec.specs.WellFormed.{EachFits}
use Rattle.gta_checked.specs.Within.{IsPickWithin}
use Rattle.spec_rules.specs.SpecRules.{is_longer, pick_conditions}
use Rattle.spec_tables.specs.Tables.{is_one_of, number_of}
use Rattle.spec_tables.proofs.Rows.{number_of-within}
use Rattle.gta_types.specs.declared.declaring.InnerKind.{InnerKind}
use Rattle.gta_types.specs.Names.{Within, use_as, uses_of_pick, declared_as, is_of, home, names_within}
use Rattle.gta_types.specs.Resolved.{environment, resolved_pick}
use Rattle.gta_types.proofs.Within.{Known, column_count, label_count, each_front, each_back}
use Rattle.gta_types.proofs.Within.{or_false_parts, condition_within}

module _ (all : List PartTree) (line : ℕ) (kind : InnerKind) (of : List ℕ)
    (is : is_of (home kind) (declared_as all of) ≡ true) (names : List (List ℕ))
    (same : names_within kind all of ≡ names) where
  name_within : (x : List ℕ) → Known all (use_as line (Within kind of) x) → number_of names x < length names
  name_within x known =
      let one : is_one_of (names_within kind all of) x ≡ true = rw is at (not-false _ known) in
      number_of-within names x (subst (λ (xs : List (List ℕ)). is_one_of xs x ≡ true) same one)

  pub accepted_within : (accept : List (List ℕ)) → EachFits (Known all) (map (use_as line (Within kind of)) accept)
      → All (λ e. e < length names) (map (number_of names) accept)
  accepted_within [] known = All-nil (λ e. e < length names)
  accepted_within (x ∷ xs) known =
      All-cons (λ e. e < length names) (number_of names x) (map (number_of names) xs) (name_within x known.0)
      (accepted_within xs known.1)

  pub picks_within : (picks : List PickTree) → list_any (is_longer ATOM_LIMIT) (pick_conditions picks) ≡ false
      → EachFits (Known all) (flat_map (uses_of_pick line (Within kind of)) picks)
      → All (IsPickWithin (column_count all) (label_count all) (length names))
      (map (resolved_pick (environment all) names) picks)
  picks_within [] atoms known = All-nil (IsPickWithin (column_count all) (label_count all) (length names))
  picks_within (pick ∷ picks) atoms known =
      let a = or_false_parts _ _ atoms in
      let here = each_front (Known all) (uses_of_pick line (Within kind of) pick) _ known in
      All-cons (IsPickWithin (column_count all) (label_count all) (length names))
      (resolved_pick (environment all) names pick) (map (resolved_pick (environment all) names) picks)
      (name_within pick.element here.0, condition_within all line pick.cond a.0 here.1)
      (picks_within picks a.1 (each_back (Known all) (uses_of_pick line (Within kind of) pick) _ known))
