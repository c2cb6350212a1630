-- The first declarations of names, looked up by scope and name.
use Rattle.std.specs.Prelude.{◌≡◌, ℕ, ◌+◌, ◌*◌, Bool, true, ◌&&◌, ◌||◌, not, List, Some, None, is_some}
use Rattle.std.specs.Prelude.{Option, option_map, nat_eq, if◌then◌else◌}
use Rattle.std.specs.Str.{bytes_eq}
use Rattle.std.specs.List.{find}
use Rattle.std.specs.Map.{lookup}
use Rattle.gta_types.specs.declared.declaring.Declared.{Declared}
use Rattle.gta_types.specs.declared.declaring.NameKind.{NameKind}
use Rattle.gta_types.specs.declared.names.Found.{Found}
use Rattle.gta_types.specs.declared.names.Names.{Names}
use Rattle.gta_types.specs.declared.names.Place.{Place}
use Rattle.gta_types.specs.declared.uses.Wanted.{Wanted as WantedPart}
use Rattle.gta_types.specs.declared.uses.Wanted.TheVariants as wants
use Rattle.gta_types.specs.Names.{Declaration, Use, Wanted, Column, Label, Weight}
use Rattle.gta_types.specs.Names.{TableName, TestName, AutomatonName, Within, OneOf}
use Rattle.gta_types.specs.declared.declaring.InnerKind.{InnerKind}
use Rattle.gta_types.specs.declared.declaring.InnerKind.TheVariants.{Element, State, Letter}
use Rattle.gta_types.specs.declared.declaring.NameKind.TheVariants.{AColumn, ALabel, AMeasure, ATable, AnAutomaton}
use Rattle.gta_types.specs.declared.declaring.NameKind.TheVariants.{ATest, Inner}
use Rattle.gta_types.specs.Names.{home, is_of}
use Rattle.spec_tables.specs.Tables.{is_one_of}

-- a declaration as a record of plain values
abbrev pub declaration : Declared → Declaration
declaration d = record { line = d.line; name = d.name.now; kind = d.kind }

-- the lists of names within lines are counted, three for each line
abbrev pub scope_within : InnerKind → ℕ → ℕ
scope_within Element line = 3 * line + 1
scope_within State line = 3 * line + 2
scope_within Letter line = 3 * line + 3

-- other names are apart from all of them, in scope 0
abbrev pub scope_in : NameKind → ℕ → ℕ
scope_in (Inner kind) line = scope_within kind line
scope_in _ line = 0

-- the scope of a declared name
abbrev pub scope_of : Declaration → ℕ
scope_of d = scope_in d.kind d.line

abbrev pub is_named : ℕ → List ℕ → Declaration → Bool
is_named scope x d = nat_eq scope (scope_of d) && bytes_eq x d.name

abbrev pub found_of : Declaration → Found
found_of d = record { kind = d.kind; line = d.line }

-- what the first declaration of a name in a scope says
unfoldable pub first_in : List Declaration → ℕ → List ℕ → Option Found
first_in all scope x = option_map found_of (find (is_named scope x) all)

-- what an index has at a name in a scope
unfoldable pub known_at : Names → ℕ → List ℕ → Option Found
known_at names scope x = lookup (λ k. nat_eq scope k.0 && bytes_eq x k.1.now) names.first.entries

-- the index of the first declarations
abbrev pub IsIndex : Names → List Declaration → Type 0
IsIndex names all = (scope : ℕ) (x : List ℕ) → known_at names scope x ≡ first_in all scope x

-- a name, and its line
abbrev pub place : Place → ℕ × List ℕ
place p = (p.line, p.name.now)

abbrev pub declared_place : Declaration → ℕ × List ℕ
declared_place d = (d.line, d.name)

-- what an index has at a name that is in no line's list
abbrev pub kind_at : Names → List ℕ → Option NameKind
kind_at names x = option_map (λ found. found.kind) (known_at names 0 x)

-- whether an index has a name of a kind within a line, passed over where that is no line of the kind's home
abbrev pub has_inner : Names → InnerKind → Option Found → List ℕ → Bool
has_inner names kind None x = true
has_inner names kind (Some line) x =
    if is_of (home kind) (Some line.kind) then is_some (known_at names (scope_within kind line.line) x) else true

-- whether a name is declared for a use, as an index has it
abbrev pub known_by : Names → Wanted → List ℕ → Bool
known_by names Column x = is_of AColumn (kind_at names x)
known_by names Label x = is_of ALabel (kind_at names x)
known_by names Weight x = is_of AColumn (kind_at names x) || is_of AMeasure (kind_at names x)
known_by names TableName x = is_of ATable (kind_at names x)
known_by names TestName x = is_of ATest (kind_at names x)
known_by names AutomatonName x = is_of AnAutomaton (kind_at names x)
known_by names (Within kind line) x = has_inner names kind (known_at names 0 line) x
known_by names (OneOf names') x = is_one_of names' x

abbrev pub used_place : Use → ℕ × List ℕ
used_place u = (u.line, u.name)

-- the first of these uses whose name an index hasn't for it
unfoldable pub unknown_in : Names → List Use → Option (ℕ × List ℕ)
unknown_in names us = option_map used_place (find (λ u. not (known_by names u.wanted u.name)) us)

abbrev pub wanted_of : WantedPart → Wanted
wanted_of wants.Column = Column
wanted_of wants.Label = Label
wanted_of wants.Weight = Weight
wanted_of wants.TableName = TableName
wanted_of wants.TestName = TestName
wanted_of wants.AutomatonName = AutomatonName
wanted_of (wants.OneOf names) = OneOf names.now
