-- The first fault of the names, from the first unknown use and the first name declared twice.
use Rattle.std.proofs.Common.{◌≡◌, ℕ, List, Option, Some, None, option_map, refl, sym, ap, ◌∙◌}
use Rattle.std.specs.Option.{option_or}
use Rattle.std.proofs.lemmas.Option.{none-some, same_Some}
use Rattle.gta_spec.specs.Parts.{PartTree}
use Rattle.gta_types.specs.declared.fault.CheckFault.{CheckFault}
use Rattle.gta_types.specs.declared.fault.CheckFault.TheVariants.{Unknown, Twice}
use Rattle.gta_types.specs.Names.{Use, Declaration, declarations, declared_twice, unknown_use}
use Rattle.gta_types.specs.Index.{used_place, declared_place}
use Rattle.gta_types.specs.Faults.{name_fault}

unknown_at : (u : Option Use) (other : Option CheckFault) (p : ℕ × List ℕ) → option_map used_place u ≡ Some p
    → option_or (option_map (λ u. Unknown u.line u.name) u) other ≡ Some (Unknown p.0 p.1)
unknown_at None other p e = absurd (none-some p e)
unknown_at (Some u) other p e = ap (λ (p : ℕ × List ℕ). Some (Unknown p.0 p.1)) (same_Some _ _ e)

none_unknown : (u : Option Use) (other : Option CheckFault) → option_map used_place u ≡ None
    → option_or (option_map (λ u. Unknown u.line u.name) u) other ≡ other
none_unknown None other e = refl
none_unknown (Some u) other e = absurd (none-some _ (sym e))

twice_at : (d : Option Declaration) (p : ℕ × List ℕ) → option_map declared_place d ≡ Some p
    → option_map (λ d. Twice d.line d.name) d ≡ Some (Twice p.0 p.1)
twice_at None p e = absurd (none-some p e)
twice_at (Some d) p e = ap (λ (p : ℕ × List ℕ). Some (Twice p.0 p.1)) (same_Some _ _ e)

none_twice : (d : Option Declaration) → option_map declared_place d ≡ None
    → ◌≡◌ {A = Option CheckFault} (option_map (λ d. Twice d.line d.name) d) None
none_twice None e = refl
none_twice (Some d) e = absurd (none-some _ (sym e))

pub name_fault-unknown : (parts : List PartTree) (line : ℕ) (name : List ℕ)
    → option_map used_place (unknown_use parts) ≡ Some (line, name) → name_fault parts ≡ Some (Unknown line name)
unfolding name_fault
name_fault-unknown parts line name e = unknown_at (unknown_use parts) _ (line, name) e

pub name_fault-twice : (parts : List PartTree) (line : ℕ) (name : List ℕ)
    → option_map used_place (unknown_use parts) ≡ None
    → option_map declared_place (declared_twice (declarations parts)) ≡ Some (line, name)
    → name_fault parts ≡ Some (Twice line name)
unfolding name_fault
name_fault-twice parts line name none e =
    none_unknown (unknown_use parts) _ none ∙ twice_at (declared_twice (declarations parts)) (line, name) e

pub name_fault-none : (parts : List PartTree) → option_map used_place (unknown_use parts) ≡ None
    → option_map declared_place (declared_twice (declarations parts)) ≡ None → name_fault parts ≡ None
unfolding name_fault
name_fault-none parts none e = none_unknown (unknown_use parts) _ none
    ∙ none_twice (declared_twice (declarations parts)) e

-- what the name says of no fault
pub no_name_fault : (parts : List PartTree) → name_fault parts ≡ None
    → (unknown_use parts ≡ None) × (declared_twice (declarations parts) ≡ None)
unfolding name_fault
no_name_fault parts e = both (unknown_use parts) (declared_twice (declarations parts)) e
  where
    both : (u : Option Use) (d : Option Declaration)
        → option_or (option_map (λ u. Unknown u.line u.name) u) (option_map (λ d. Twice d.line d.name) d) ≡ None
        → (u ≡ None) × (d ≡ None)
    both None None e = (refl, refl)
    both None (Some d) e = absurd (none-some _ (sym e))
    both (Some u) d e = absurd (none-some _ (sym e))
