-- What is answered to the bytes of a specification: the refusals in their order, or the specification.
use Rattle.std.specs.Prelude.{ℕ, List, [], ◌∷◌, if◌then◌else◌, Option, Some, None, Result, Ok, Err}
use Rattle.gta_text.specs.Text.{Numbered, Found, BadByte, read_lines}
use Rattle.gta_syntax.specs.declared.fault.SpecFault.{SpecFault}
use Rattle.gta_syntax.specs.declared.fault.SpecFault.TheVariants.{Byte, Version, Grammar, Number, NoRows, Memory}
use Rattle.gta_syntax.specs.declared.reading.Read.{Read}
use Rattle.gta_spec.specs.Parts.{KindTree, PartTree, SpecTree, spec_tree}
use Rattle.gta_spec.specs.Symbols.{symbols}
use Rattle.gta_syntax.specs.Rules.{part_at}
use Rattle.gta_spec.specs.SpecText.{version_in, has_past}

-- a specification, and where the table begins
pub record ReadTree : Type 0 where
  pub spec : SpecTree
  pub rows_at : ℕ

abbrev pub read_tree : Read → ReadTree
read_tree read = record { spec = spec_tree read.spec; rows_at = read.rows_at }

-- the number of the first line with a number past the bound
unfoldable pub first_past : ℕ → List ℕ → List Numbered → Option ℕ
first_past version source [] = None
first_past version source (line ∷ lines) =
    if has_past version source line.tokens then Some line.number else first_past version source lines

-- the part of the line with this number
abbrev pub the_part : ℕ → Option KindTree → Result PartTree SpecFault
the_part number None = Err (Grammar number)
the_part number (Some kind) = Ok (record { line = number; kind = kind })

abbrev pub with_part : Result PartTree SpecFault → Result (List PartTree) SpecFault
    → Result (List PartTree) SpecFault
with_part (Err fault) others = Err fault
with_part (Ok part) (Ok parts) = Ok (part ∷ parts)
with_part (Ok part) (Err fault) = Err fault

-- the parts of the lines, or the first line that is not in the grammar
unfoldable pub parts_from : ℕ → List ℕ → List Numbered → Result (List PartTree) SpecFault
parts_from version source [] = Ok []
parts_from version source (line ∷ lines) =
    with_part (the_part line.number (part_at version (symbols version source line.tokens)))
    (parts_from version source lines)

abbrev pub with_rows : SpecTree → Option ℕ → Result ReadTree SpecFault
with_rows spec None = Err NoRows
with_rows spec (Some place) = Ok (record { spec = spec; rows_at = place })

abbrev pub with_numbers : Option ℕ → SpecTree → Option ℕ → Result ReadTree SpecFault
with_numbers (Some number) spec rows_at = Err (Number number)
with_numbers None spec rows_at = with_rows spec rows_at

abbrev pub with_parts : ℕ → List ℕ → List Numbered → Option ℕ → Result (List PartTree) SpecFault
    → Result ReadTree SpecFault
with_parts version source lines rows_at (Err fault) = Err fault
with_parts version source lines rows_at (Ok parts) =
    with_numbers (first_past version source lines) (record { version = version; parts = parts }) rows_at

-- the other lines, read by the grammar of the version that the first one names
abbrev pub with_version : List ℕ → ℕ → List Numbered → Option ℕ → Option ℕ → Result ReadTree SpecFault
with_version source number lines rows_at None = Err (Version number)
with_version source number lines rows_at (Some version) =
    with_parts version source lines rows_at (parts_from version source lines)

abbrev pub with_lines : List ℕ → List Numbered → Option ℕ → Result ReadTree SpecFault
with_lines source [] rows_at = Err (Version 1)
with_lines source (first ∷ others) rows_at =
    with_version source first.number others rows_at (version_in source first.tokens)

abbrev pub with_text : List ℕ → Result Found BadByte → Result ReadTree SpecFault
with_text source (Err bad) = Err (Byte bad.line bad.place)
with_text source (Ok found) = with_lines source found.lines found.rows_at

unfoldable pub spec_of : List ℕ → Result ReadTree SpecFault
spec_of bytes = with_text bytes (read_lines bytes)

-- the refusal that an end tells of; want of memory is none
abbrev pub fault_in : SpecFault → Option SpecFault
fault_in Memory = None
fault_in fault = Some fault
