-- Which refusal the bytes of a specification get, by whole lines and the grammar.
use Rattle.std.specs.Prelude.{◌≡◌, ℕ, true, false, List, [], ◌∷◌, Option, Some, None, Ok, Err}
use Rattle.std.specs.List.{list_any}
use Rattle.gta_text.specs.Text.{Numbered, BadByte, read_lines}
use Rattle.gta_syntax.specs.declared.fault.SpecFault.{SpecFault}
use Rattle.gta_syntax.specs.declared.fault.SpecFault.TheVariants.{Byte, Version, Grammar, Number, NoRows}
use Rattle.gta_spec.specs.Parts.{KindTree, PartTree}
use Rattle.gta_spec.specs.Symbols.{symbols}
use Rattle.gta_spec.specs.Grammar.{IsPart}
use Rattle.gta_spec.specs.SpecText.{version_in, has_past, AreParts}

-- the first line that is not in the grammar has this number
pub data IsFirstOutside (version : ℕ) (source : List ℕ) : List Numbered → ℕ → Type 0 where
  here : {line : Numbered} {lines : List Numbered}
      → ((kind : KindTree) → IsPart version kind (symbols version source line.tokens) → ⊥)
      → IsFirstOutside version source (line ∷ lines) line.number
  later : {line : Numbered} {lines : List Numbered} {kind : KindTree} {n : ℕ}
      → IsPart version kind (symbols version source line.tokens)
      → IsFirstOutside version source lines n → IsFirstOutside version source (line ∷ lines) n

-- the first line that has a number past the bound has this number
pub data IsFirstPast (version : ℕ) (source : List ℕ) : List Numbered → ℕ → Type 0 where
  here : {line : Numbered} {lines : List Numbered} → has_past version source line.tokens ≡ true
      → IsFirstPast version source (line ∷ lines) line.number
  later : {line : Numbered} {lines : List Numbered} {n : ℕ} → has_past version source line.tokens ≡ false
      → IsFirstPast version source lines n
      → IsFirstPast version source (line ∷ lines) n

-- the refusals in their order: each stands only where those before it don't
pub data IsRefused (bytes : List ℕ) : SpecFault → Type 0 where
  byte : {bad : BadByte} → read_lines bytes ≡ Err bad → IsRefused bytes (Byte bad.line bad.place)
  no_line : {rows : Option ℕ} → read_lines bytes ≡ Ok (record { lines = []; rows_at = rows })
      → IsRefused bytes (Version 1)
  version : {first : Numbered} {others : List Numbered} {rows : Option ℕ}
      → read_lines bytes ≡ Ok (record { lines = first ∷ others; rows_at = rows })
      → version_in bytes first.tokens ≡ None
      → IsRefused bytes (Version first.number)
  grammar : {first : Numbered} {others : List Numbered} {rows : Option ℕ} {version n : ℕ}
      → read_lines bytes ≡ Ok (record { lines = first ∷ others; rows_at = rows })
      → version_in bytes first.tokens ≡ Some version
      → IsFirstOutside version bytes others n → IsRefused bytes (Grammar n)
  number : {first : Numbered} {others : List Numbered} {rows : Option ℕ} {parts : List PartTree} {version n : ℕ}
      → read_lines bytes ≡ Ok (record { lines = first ∷ others; rows_at = rows })
      → version_in bytes first.tokens ≡ Some version
      → AreParts version bytes others parts → IsFirstPast version bytes others n → IsRefused bytes (Number n)
  no_rows : {first : Numbered} {others : List Numbered} {parts : List PartTree} {version : ℕ}
      → read_lines bytes ≡ Ok (record { lines = first ∷ others; rows_at = None })
      → version_in bytes first.tokens ≡ Some version
      → AreParts version bytes others parts → list_any (λ line. has_past version bytes line.tokens) others ≡ false
      → IsRefused bytes NoRows
