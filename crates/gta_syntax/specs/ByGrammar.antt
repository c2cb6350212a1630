-- What `spec_of` gives, by the grammar and by the refusals in their order.
use Rattle.std.specs.Prelude.{◌≡◌, ◌↔◌, ℕ, List, Ok, Err}
use Rattle.gta_spec.specs.Parts.{SpecTree}
use Rattle.gta_spec.specs.SpecText.{SpecText}
use Rattle.gta_syntax.specs.declared.fault.SpecFault.{SpecFault}
use Rattle.gta_syntax.specs.Refused.{IsRefused}
use Rattle.gta_syntax.specs.Refusals.{spec_of}

-- a specification, and where the table begins, exactly where the bytes are its text
abbrev pub GivesTexts : Type 0
GivesTexts = (bytes : List ℕ) (spec : SpecTree) (place : ℕ)
    → (spec_of bytes ≡ Ok (record { spec = spec; rows_at = place })) ↔ SpecText bytes spec place

-- a refusal exactly where it stands
abbrev pub GivesRefusals : Type 0
GivesRefusals = (bytes : List ℕ) (fault : SpecFault) → (spec_of bytes ≡ Err fault) ↔ IsRefused bytes fault
