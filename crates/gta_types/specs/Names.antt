-- The names that a specification declares and uses.
use Rattle.std.specs.Prelude.{ℕ, Bool, true, false, ◌&&◌, ◌||◌, not, List, [], ◌∷◌, ◌++◌, map}
use Rattle.std.specs.Prelude.{nat_eq, Option, Some, None}
use Rattle.std.specs.Prelude.{if◌then◌else◌}
use Rattle.std.specs.Str.{bytes_eq}
use Rattle.std.specs.List.{list_any, find, flat_map}
use Rattle.gta_spec.specs.declared.parts.AtomPart.{AtomPart}
use Rattle.gta_spec.specs.declared.parts.AtomPart.TheVariants as atoms
use Rattle.gta_spec.specs.declared.parts.GoalPart.{GoalPart}
use Rattle.gta_spec.specs.declared.parts.GoalPart.TheVariants as goals
use Rattle.gta_spec.specs.declared.parts.RankPart.{RankPart}
use Rattle.gta_spec.specs.Parts.{CaseTree, PickTree, TestTree, Sum, Length, Fold, Run, KindTree, Columns}
use Rattle.gta_spec.specs.Parts.{Labels, Measure, Table, Automaton, Step}
use Rattle.gta_spec.specs.Parts.{Times, Test, Named, Keep, Aggregate, PartTree}
use Rattle.gta_spec.specs.Keep.{kept_tests}
use Rattle.spec_rules.specs.SpecRules.{first_answer}
use Rattle.spec_tables.specs.Tables.{is_one_of}
use Rattle.gta_types.specs.declared.declaring.InnerKind.{InnerKind}
use Rattle.gta_types.specs.declared.declaring.InnerKind.TheVariants.{Element, State, Letter}
use Rattle.gta_types.specs.declared.declaring.NameKind.{NameKind}
use Rattle.gta_types.specs.declared.declaring.NameKind.TheVariants.{AColumn, ALabel, AMeasure, ATable, AnAutomaton}
use Rattle.gta_types.specs.declared.declaring.NameKind.TheVariants.{ATest, Inner}

abbrev pub same_inner : InnerKind → InnerKind → Bool
same_inner Element Element = true
same_inner State State = true
same_inner Letter Letter = true
same_inner _ _ = false

abbrev pub same_kind : NameKind → NameKind → Bool
same_kind AColumn AColumn = true
same_kind ALabel ALabel = true
same_kind AMeasure AMeasure = true
same_kind ATable ATable = true
same_kind ATest ATest = true
same_kind AnAutomaton AnAutomaton = true
same_kind (Inner a) (Inner b) = same_inner a b
same_kind _ _ = false

-- a name, what it is declared as, and the line that does so
pub record Declaration : Type 0 where
  pub line : ℕ
  pub name : List ℕ
  pub kind : NameKind

abbrev pub declare : ℕ → NameKind → List ℕ → Declaration
declare line kind name = record { line = line; name = name; kind = kind }

-- the names that a line declares, in their order
abbrev pub declarations_of : ℕ → KindTree → List Declaration
declarations_of line (Columns items) = map (λ item. declare line AColumn item.name) items
declarations_of line (Labels names) = map (declare line ALabel) names
declarations_of line (Measure part) = declare line AMeasure part.name ∷ []
declarations_of line (Table part) = declare line ATable part.name ∷ map (declare line (Inner Element)) part.elements
declarations_of line (Automaton part) =
    declare line AnAutomaton part.name
    ∷ (map (declare line (Inner State)) part.states ++ map (declare line (Inner Letter)) part.letters)
declarations_of line (Named name test) = declare line ATest name ∷ []
declarations_of line _ = []

-- the names that a specification declares, by line and place
abbrev pub declarations : List PartTree → List Declaration
declarations parts = flat_map (λ part. declarations_of part.line part.kind) parts

-- whether a name is one of a list within a line: an element of a table, or a state or letter of an automaton
abbrev pub is_inner : NameKind → Bool
is_inner (Inner kind) = true
is_inner _ = false

-- whether two names may not be the same: names of one list within a line, or names that are in none
abbrev pub share_names : Declaration → Declaration → Bool
share_names a b =
    if is_inner a.kind then same_kind a.kind b.kind && nat_eq a.line b.line else not (is_inner b.kind)

-- a declaration of a name that is declared before it
abbrev pub declared_again : List Declaration → Declaration → Option Declaration
declared_again before d =
    if list_any (λ e. share_names e d && bytes_eq e.name d.name) before then Some d else None

-- the first name that is declared twice, where it is declared the second time
abbrev pub declared_twice : List Declaration → Option Declaration
declared_twice all = first_answer declared_again [] all

-- the first declaration of a name, those within lines left out
abbrev pub declaration_of : List Declaration → List ℕ → Option Declaration
declaration_of all x = find (λ d. not (is_inner d.kind) && bytes_eq d.name x) all

abbrev pub kind_of : Option Declaration → Option NameKind
kind_of None = None
kind_of (Some d) = Some d.kind

-- what a name is used as
pub data Wanted : Type 0 where
  Column : Wanted
  Label : Wanted
  -- a measure, or a column used as one
  Weight : Wanted
  TableName : Wanted
  TestName : Wanted
  AutomatonName : Wanted
  -- a name of this kind within the line of this name, as an element is within that of its table; passed over where that
  -- is no such line
  Within : InnerKind → List ℕ → Wanted
  -- one of these names
  OneOf : List (List ℕ) → Wanted

pub record Use : Type 0 where
  pub line : ℕ
  pub name : List ℕ
  pub wanted : Wanted

abbrev pub use_as : ℕ → Wanted → List ℕ → Use
use_as line wanted name = record { line = line; name = name; wanted = wanted }

abbrev pub uses_of_term : ℕ → Option (List ℕ) → List Use
uses_of_term line None = []
uses_of_term line (Some x) = use_as line Column x ∷ []

abbrev pub use_of_atom : ℕ → AtomPart → Use
use_of_atom line (atoms.Label x) = use_as line Label x
use_of_atom line (atoms.Column x cmp number) = use_as line Column x

abbrev pub uses_of_case : ℕ → CaseTree → List Use
uses_of_case line case = flat_map (λ term. uses_of_term line term.name) case.form ++ map (use_of_atom line) case.cond

abbrev pub uses_of_pick : ℕ → Wanted → PickTree → List Use
uses_of_pick line wanted pick = use_as line wanted pick.element ∷ map (use_of_atom line) pick.cond

abbrev pub uses_of_test : ℕ → TestTree → List Use
uses_of_test line (Sum x check) = use_as line Weight x ∷ []
uses_of_test line (Length check) = []
uses_of_test line (Fold table picks accept) =
    use_as line TableName table
    ∷ (flat_map (uses_of_pick line (Within Element table)) picks
    ++ map (use_as line (Within Element table)) accept)
uses_of_test line (Run automaton picks accept) =
    use_as line AutomatonName automaton
    ∷ (flat_map (uses_of_pick line (Within Letter automaton)) picks
    ++ map (use_as line (Within State automaton)) accept)

abbrev pub use_of_rank : ℕ → RankPart → Use
use_of_rank line rank = use_as line Weight rank.name

abbrev pub uses_of_goal : ℕ → GoalPart → List Use
uses_of_goal line goals.Count = []
uses_of_goal line goals.Any = []
uses_of_goal line (goals.Max x) = use_as line Weight x ∷ []
uses_of_goal line (goals.Min x) = use_as line Weight x ∷ []
uses_of_goal line (goals.Best k greatest x) = use_as line Weight x ∷ []
uses_of_goal line (goals.Ranked k keys) = map (use_of_rank line) keys

-- the names that a line uses, in their order
abbrev pub uses_of : ℕ → KindTree → List Use
uses_of line (Measure part) = flat_map (uses_of_case line) part.cases
uses_of line (Table part) = use_as line (OneOf part.elements) part.unit ∷ []
uses_of line (Times part) =
    use_as line TableName part.table
    ∷ map (use_as line (Within Element part.table)) (part.element ∷ part.products)
uses_of line (Automaton part) = use_as line (OneOf part.states) part.start ∷ []
uses_of line (Step part) =
    use_as line AutomatonName part.automaton
    ∷ (use_as line (Within Letter part.automaton) part.letter
    ∷ map (use_as line (Within State part.automaton)) part.targets)
uses_of line (Test test) = uses_of_test line test
uses_of line (Named name test) = uses_of_test line test
uses_of line (Keep keep) = map (use_as line TestName) (kept_tests keep)
uses_of line (Aggregate goal) = uses_of_goal line goal
uses_of line _ = []

-- the names that a specification uses, by line and place
abbrev pub uses : List PartTree → List Use
uses parts = flat_map (λ part. uses_of part.line part.kind) parts

-- what the line is named as within which there are names of a kind
abbrev pub home : InnerKind → NameKind
home Element = ATable
home State = AnAutomaton
home Letter = AnAutomaton

-- the names of a kind within a line, where it has this name
abbrev pub inner_names : InnerKind → KindTree → List ℕ → Option (List (List ℕ))
inner_names Element (Table part) x = if bytes_eq part.name x then Some part.elements else None
inner_names State (Automaton part) x = if bytes_eq part.name x then Some part.states else None
inner_names Letter (Automaton part) x = if bytes_eq part.name x then Some part.letters else None
inner_names _ _ x = None

abbrev pub listed : Option (List (List ℕ)) → List (List ℕ)
listed None = []
listed (Some names) = names

-- the names of a kind within the first line of a name
abbrev pub names_within : InnerKind → List PartTree → List ℕ → List (List ℕ)
names_within kind parts x = listed (first_answer (λ before part. inner_names kind part.kind x) [] parts)

abbrev pub is_of : NameKind → Option NameKind → Bool
is_of wanted None = false
is_of wanted (Some kind) = same_kind wanted kind

-- what a name was first declared as, names within lines left out
abbrev pub declared_as : List PartTree → List ℕ → Option NameKind
declared_as parts x = kind_of (declaration_of (declarations parts) x)

-- whether a name is declared for a use
abbrev pub is_known : List PartTree → Wanted → List ℕ → Bool
is_known parts Column x = is_of AColumn (declared_as parts x)
is_known parts Label x = is_of ALabel (declared_as parts x)
is_known parts Weight x = is_of AColumn (declared_as parts x) || is_of AMeasure (declared_as parts x)
is_known parts TableName x = is_of ATable (declared_as parts x)
is_known parts TestName x = is_of ATest (declared_as parts x)
is_known parts AutomatonName x = is_of AnAutomaton (declared_as parts x)
is_known parts (Within kind line) x =
    if is_of (home kind) (declared_as parts line) then is_one_of (names_within kind parts line) x else true
is_known parts (OneOf names) x = is_one_of names x

-- the first use of a name that isn't declared for it
abbrev pub unknown_use : List PartTree → Option Use
unknown_use parts = find (λ u. not (is_known parts u.wanted u.name)) (uses parts)
