-- Reading the parts of lines one after the other, as a loop does.
use Rattle.std.proofs.Common.{◌≡◌, ℕ, true, false, List, [], ◌∷◌, ◌++◌, refl, sym, ◌∙◌, append_assoc}
use Rattle.std.proofs.lemmas.List.{append-nil}
use Rattle.std.specs.Prelude.{Some, None, Result, Ok, Err}
use Rattle.outcome_kit.specs.Outcome.{Carries}
use Rattle.gta_text.specs.Text.{Numbered}
use Rattle.gta_syntax.specs.declared.fault.SpecFault.{SpecFault}
use Rattle.gta_syntax.specs.declared.fault.SpecFault.TheVariants.{Byte, Version, Grammar, Number, NoRows, Memory}
use Rattle.gta_spec.specs.Parts.{PartTree}
use Rattle.gta_spec.specs.Symbols.{symbols}
use Rattle.gta_syntax.specs.Rules.{part_at}
use Rattle.gta_spec.specs.SpecText.{has_past}
use Rattle.gta_syntax.specs.Refusals.{first_past, the_part, with_part, parts_from, fault_in}

pub past_here : (version : ℕ) (source : List ℕ) (line : Numbered) (lines : List Numbered)
    → has_past version source line.tokens ≡ true
    → first_past version source (line ∷ lines) ≡ Some line.number
unfolding first_past
past_here version source line lines on = rw on refl

pub past_later : (version : ℕ) (source : List ℕ) (line : Numbered) (lines : List Numbered)
    → has_past version source line.tokens ≡ false
    → first_past version source (line ∷ lines) ≡ first_past version source lines
unfolding first_past
past_later version source line lines off = rw off refl

pub past_nowhere : (version : ℕ) (source : List ℕ) → first_past version source [] ≡ None
unfolding first_past
past_nowhere version source = refl

abbrev pub with_front : List PartTree → Result (List PartTree) SpecFault → Result (List PartTree) SpecFault
with_front front (Ok parts) = Ok (front ++ parts)
with_front front (Err fault) = Err fault

-- the parts read so far, and those of the lines that are left, are the whole
pub record PartsSoFar (version : ℕ) (source : List ℕ) (front : List PartTree) (lines : List Numbered)
    (whole : Result (List PartTree) SpecFault) : Type 0 where
  pub joined : with_front front (parts_from version source lines) ≡ whole

no_front : (parts : Result (List PartTree) SpecFault) → with_front [] parts ≡ parts
no_front (Ok parts) = refl
no_front (Err fault) = refl

regroup : (front : List PartTree) (part : PartTree) (parts : Result (List PartTree) SpecFault)
    → with_front front (with_part (Ok part) parts) ≡ with_front (front ++ part ∷ []) parts
regroup front part (Ok parts) = simp append_assoc
regroup front part (Err fault) = refl

pub parts_at_start : (version : ℕ) (source : List ℕ) (lines : List Numbered)
    → PartsSoFar version source [] lines (parts_from version source lines)
parts_at_start version source lines = record { joined = no_front (parts_from version source lines) }

pub parts_at_end : {version : ℕ} {source : List ℕ} {front : List PartTree} {whole : Result (List PartTree) SpecFault}
    → PartsSoFar version source front [] whole → whole ≡ Ok front
unfolding parts_from
parts_at_end {version = version} {source = source} {front = front} so_far =
    let one : with_front front (parts_from version source []) ≡ Ok front = rw (append-nil front) refl in
    sym so_far.joined ∙ one

pub parts_at_line : {version : ℕ} {source : List ℕ} {front : List PartTree} {line : Numbered} {lines : List Numbered}
    {whole : Result (List PartTree) SpecFault}
    → PartsSoFar version source front (line ∷ lines) whole → (part : PartTree)
    → the_part line.number (part_at version (symbols version source line.tokens)) ≡ Ok part
    → PartsSoFar version source (front ++ part ∷ []) lines whole
unfolding parts_from
parts_at_line {version = version} {source = source} {front = front} {line = line} {lines = lines} so_far part is =
    let one : with_front front (parts_from version source (line ∷ lines)) ≡ with_front (front ++ part ∷ [])
    (parts_from version source lines) =
    rw is (regroup front part (parts_from version source lines)) in
    record { joined = sym one ∙ so_far.joined }

parts_at_refusal : {version : ℕ} {source : List ℕ} {front : List PartTree} {line : Numbered} {lines : List Numbered}
    {whole : Result (List PartTree) SpecFault}
    → PartsSoFar version source front (line ∷ lines) whole → (fault : SpecFault)
    → the_part line.number (part_at version (symbols version source line.tokens)) ≡ Err fault → whole ≡ Err fault
unfolding parts_from
parts_at_refusal {version = version} {source = source} {front = front} {line = line} {lines = lines} so_far fault is =
    let one : with_front front (parts_from version source (line ∷ lines)) ≡ Err fault = rw is refl in
    sym so_far.joined ∙ one

pub parts_at_fault : {version : ℕ} {source : List ℕ} {front : List PartTree} {line : Numbered} {lines : List Numbered}
    {whole : Result (List PartTree) SpecFault}
    → PartsSoFar version source front (line ∷ lines) whole → (fault : SpecFault)
    → Carries (the_part line.number (part_at version (symbols version source line.tokens))) (fault_in fault)
    → Carries whole (fault_in fault)
parts_at_fault so_far (Byte l p) is = parts_at_refusal so_far _ is
parts_at_fault so_far (Version l) is = parts_at_refusal so_far _ is
parts_at_fault so_far (Grammar l) is = parts_at_refusal so_far _ is
parts_at_fault so_far (Number l) is = parts_at_refusal so_far _ is
parts_at_fault so_far NoRows is = parts_at_refusal so_far _ is
parts_at_fault so_far Memory is = tt
