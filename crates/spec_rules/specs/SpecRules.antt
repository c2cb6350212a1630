-- The rules of a specification that need no name looked up, in their order.
use Rattle.std.specs.Prelude.{ℕ, Bool, true, false, ◌&&◌, ◌||◌, not, pos, List, [], ◌∷◌, ◌++◌, map, filter, length}
use Rattle.std.specs.Option.{option_or}
use Rattle.std.specs.Prelude.{nat_lt, nat_le, Option, Some, None, option_map}
use Rattle.std.specs.List.{list_any, find, flat_map}
use Rattle.std.specs.Int.RustNames.{int_lt}
use Rattle.shape_gen.specs.declared.shape.Shape.TheVariants.{Assign}
use Rattle.gta_spec.specs.declared.limits.TheConstants.{NAME_LIMIT, HEADER_LIMIT, COLUMN_LIMIT, LABEL_LIMIT}
use Rattle.gta_spec.specs.declared.limits.TheConstants.{MEASURE_LIMIT}
use Rattle.gta_spec.specs.declared.limits.TheConstants.{TABLE_LIMIT, TEST_LIMIT, ELEMENT_LIMIT, CASE_LIMIT, TERM_LIMIT}
use Rattle.gta_spec.specs.declared.limits.TheConstants.{ATOM_LIMIT, FACTOR_LIMIT, BOUND_LIMIT, MODULUS_LIMIT}
use Rattle.gta_spec.specs.declared.limits.TheConstants.{KEEP_LIMIT, AUTOMATON_LIMIT, STATE_LIMIT, LETTER_LIMIT}
use Rattle.gta_spec.specs.declared.parts.AtomPart.{AtomPart}
use Rattle.gta_spec.specs.declared.parts.TermPart.{TermPart}
use Rattle.gta_spec.specs.declared.parts.Check.{Check}
use Rattle.gta_spec.specs.declared.parts.Check.TheVariants.{Compare, Mod}
use Rattle.gta_spec.specs.declared.parts.GoalPart.TheVariants as goals
use Rattle.gta_spec.specs.Parts.{CaseTree, PickTree, TestTree, Sum, Length, Fold, Run, KindTree, Columns, Labels}
use Rattle.gta_spec.specs.Parts.{Measure, Table, Times, Automaton, Step}
use Rattle.gta_spec.specs.Parts.{Generate, Test, Named, Keep, Aggregate, PartTree, SpecTree}
use Rattle.spec_rules.specs.declared.fault.SinglePart.{SinglePart}
use Rattle.spec_rules.specs.declared.fault.SinglePart.TheVariants as singles
use Rattle.spec_rules.specs.declared.fault.Limit.{Limit}
use Rattle.spec_rules.specs.declared.fault.Limit.TheVariants as limits
use Rattle.spec_rules.specs.declared.fault.RuleFault.{RuleFault}
use Rattle.spec_rules.specs.declared.fault.RuleFault.TheVariants as faults

-- the first answer that an item gets, each asked beside the items before it
abbrev pub first_answer : {A B : Type 0} → (List A → A → Option B) → List A → List A → Option B
first_answer ask before [] = None
first_answer ask before (x ∷ xs) = option_or (ask before x) (first_answer ask (before ++ (x ∷ [])) xs)

-- the part that stands at most once, where a line is one
abbrev pub single_of : KindTree → Option SinglePart
single_of (Columns items) = Some singles.Columns
single_of (Labels names) = Some singles.Labels
single_of (Measure part) = None
single_of (Table part) = None
single_of (Times part) = None
single_of (Automaton part) = None
single_of (Step part) = None
single_of (Generate shape) = Some singles.Generate
single_of (Test test) = None
single_of (Named name test) = None
single_of (Keep keep) = Some singles.Keep
single_of (Aggregate goal) = Some singles.Aggregate

abbrev pub same_single : SinglePart → SinglePart → Bool
same_single singles.Columns singles.Columns = true
same_single singles.Labels singles.Labels = true
same_single singles.Generate singles.Generate = true
same_single singles.Aggregate singles.Aggregate = true
same_single singles.Keep singles.Keep = true
same_single _ _ = false

abbrev pub is_the : SinglePart → Option SinglePart → Bool
is_the part None = false
is_the part (Some other) = same_single part other

-- whether a line is this part
abbrev pub is_single : SinglePart → PartTree → Bool
is_single part line = is_the part (single_of line.kind)

-- the first part that must stand and doesn't
abbrev pub missing : List PartTree → Option SinglePart
missing parts = find (λ part. not (list_any (is_single part) parts))
    (singles.Columns ∷ singles.Generate ∷ singles.Aggregate ∷ [])

-- the part that a line repeats
abbrev pub repeated : List PartTree → PartTree → Option SinglePart
repeated before line =
    find (λ part. is_single part line && list_any (is_single part) before)
    (singles.Columns ∷ singles.Labels ∷ singles.Generate ∷ singles.Aggregate ∷ singles.Keep ∷ [])

-- the fault of a line that repeats a part
abbrev pub second_at : List PartTree → PartTree → Option RuleFault
second_at before line = option_map (faults.SecondPart line.line) (repeated before line)

-- the first line that repeats a part
abbrev pub second_part : List PartTree → Option RuleFault
second_part parts = first_answer second_at [] parts

abbrev pub is_assign : KindTree → Bool
is_assign (Generate Assign) = true
is_assign _ = false

-- the number of the first line that a test holds of
abbrev pub first_line : (PartTree → Bool) → List PartTree → Option ℕ
first_line test parts = option_map (λ line. line.line) (find test parts)

-- assignments without labels, or labels without assignments
abbrev pub labels_assign_of : Option ℕ → Option ℕ → Option RuleFault
labels_assign_of None None = None
labels_assign_of (Some assign) (Some labels) = None
labels_assign_of (Some assign) None = Some (faults.LabelsAssign assign true)
labels_assign_of None (Some labels) = Some (faults.LabelsAssign labels false)

abbrev pub labels_assign : List PartTree → Option RuleFault
labels_assign parts =
    labels_assign_of (first_line (λ line. is_assign line.kind) parts) (first_line (is_single singles.Labels) parts)

-- the names that a line declares
abbrev pub declared_names : KindTree → List (List ℕ)
declared_names (Columns items) = map (λ item. item.name) items
declared_names (Labels names) = names
declared_names (Measure part) = part.name ∷ []
declared_names (Table part) = part.name ∷ part.elements
declared_names (Automaton part) = part.name ∷ (part.states ++ part.letters)
declared_names (Named name test) = name ∷ []
declared_names _ = []

abbrev pub header_texts : Option (List ℕ) → List (List ℕ)
header_texts None = []
header_texts (Some text) = text ∷ []

-- the header texts that a line has
abbrev pub headers : KindTree → List (List ℕ)
headers (Columns items) = flat_map (λ item. header_texts item.header) items
headers _ = []

abbrev pub case_forms : List CaseTree → List (List TermPart)
case_forms cases = map (λ case. case.form) cases

-- the linear forms of a line
abbrev pub forms : KindTree → List (List TermPart)
forms (Measure part) = case_forms part.cases
forms _ = []

abbrev pub case_conditions : List CaseTree → List (List AtomPart)
case_conditions cases = map (λ case. case.cond) cases

abbrev pub pick_conditions : List PickTree → List (List AtomPart)
pick_conditions picks = map (λ pick. pick.cond) picks

-- the conditions of a test's picks
abbrev pub test_conditions : TestTree → List (List AtomPart)
test_conditions (Sum name check) = []
test_conditions (Length check) = []
test_conditions (Fold table picks accept) = pick_conditions picks
test_conditions (Run automaton picks accept) = pick_conditions picks

-- the conditions of a line: of a measure's cases, or of the picks of a fold or run
abbrev pub conditions : KindTree → List (List AtomPart)
conditions (Measure part) = case_conditions part.cases
conditions (Test test) = test_conditions test
conditions (Named name test) = test_conditions test
conditions _ = []

-- whether the number before a column is past the limit of factors
abbrev pub is_quantity_past : Option ℕ → Option (List ℕ) → Bool
is_quantity_past (Some number) (Some name) = nat_lt FACTOR_LIMIT number
is_quantity_past _ _ = false

abbrev pub is_factor_past : TermPart → Bool
is_factor_past term = is_quantity_past term.number term.name

-- the check of a test's sum or length
abbrev pub test_checks : TestTree → List Check
test_checks (Sum name check) = check ∷ []
test_checks (Length check) = check ∷ []
test_checks (Fold table picks accept) = []
test_checks (Run automaton picks accept) = []

abbrev pub checks : KindTree → List Check
checks (Test test) = test_checks test
checks (Named name test) = test_checks test
checks _ = []

abbrev pub is_bound_past : Check → Bool
is_bound_past (Compare cmp number) = int_lt number (pos 0) || int_lt (pos BOUND_LIMIT) number
is_bound_past (Mod modulus residue) = false

abbrev pub is_modulus_past : Check → Bool
is_modulus_past (Compare cmp number) = false
is_modulus_past (Mod modulus residue) = nat_lt modulus 1 || nat_lt MODULUS_LIMIT modulus

abbrev pub is_residue_past : Check → Bool
is_residue_past (Compare cmp number) = false
is_residue_past (Mod modulus residue) = nat_le modulus residue

abbrev pub is_number_kept_past : ℕ → Bool
is_number_kept_past k = nat_lt k 1 || nat_lt KEEP_LIMIT k

-- whether an aggregate keeps none, or more than it may
abbrev pub is_kept_past : KindTree → Bool
is_kept_past (Aggregate (goals.Best k greatest name)) = is_number_kept_past k
is_kept_past (Aggregate (goals.Ranked (Some k) keys)) = is_number_kept_past k
is_kept_past _ = false

abbrev pub is_longer : {A : Type 0} → ℕ → List A → Bool
is_longer limit xs = nat_lt limit (length xs)

abbrev pub is_measure : KindTree → Bool
is_measure (Measure part) = true
is_measure _ = false

abbrev pub is_table : KindTree → Bool
is_table (Table part) = true
is_table _ = false

abbrev pub is_automaton : KindTree → Bool
is_automaton (Automaton part) = true
is_automaton _ = false

-- a test, with a name or without
abbrev pub is_test : KindTree → Bool
is_test (Test test) = true
is_test (Named name test) = true
is_test _ = false

-- how many lines of a kind there are
abbrev pub count_of : (KindTree → Bool) → List PartTree → ℕ
count_of is_kind lines = length (filter (λ line. is_kind line.kind) lines)

-- how many lines before this one are of its kind, where that is one with a limit
abbrev pub earlier : List PartTree → KindTree → ℕ
earlier before (Measure part) = count_of is_measure before
earlier before (Table part) = count_of is_table before
earlier before (Automaton part) = count_of is_automaton before
earlier before (Test test) = count_of is_test before
earlier before (Named name test) = count_of is_test before
earlier before _ = 0

abbrev pub are_columns_past : KindTree → Bool
are_columns_past (Columns items) = is_longer COLUMN_LIMIT items
are_columns_past _ = false

abbrev pub are_labels_past : KindTree → Bool
are_labels_past (Labels names) = is_longer LABEL_LIMIT names
are_labels_past _ = false

abbrev pub are_elements_past : KindTree → Bool
are_elements_past (Table part) = is_longer ELEMENT_LIMIT part.elements
are_elements_past _ = false

abbrev pub are_picks_past : TestTree → Bool
are_picks_past (Fold table picks accept) = is_longer CASE_LIMIT picks
are_picks_past (Run automaton picks accept) = is_longer CASE_LIMIT picks
are_picks_past _ = false

abbrev pub are_cases_past : KindTree → Bool
are_cases_past (Measure part) = is_longer CASE_LIMIT part.cases
are_cases_past (Test test) = are_picks_past test
are_cases_past (Named name test) = are_picks_past test
are_cases_past _ = false

abbrev pub are_states_past : KindTree → Bool
are_states_past (Automaton part) = is_longer STATE_LIMIT part.states
are_states_past _ = false

abbrev pub are_letters_past : KindTree → Bool
are_letters_past (Automaton part) = is_longer LETTER_LIMIT part.letters
are_letters_past _ = false

-- whether a line, with so many of its kind before it, passes a limit
abbrev pub is_past : ℕ → KindTree → Limit → Bool
is_past count kind limits.Name = list_any (is_longer NAME_LIMIT) (declared_names kind)
is_past count kind limits.Header = list_any (is_longer HEADER_LIMIT) (headers kind)
is_past count kind limits.Columns = are_columns_past kind
is_past count kind limits.Labels = are_labels_past kind
is_past count kind limits.Measures = is_measure kind && nat_le MEASURE_LIMIT count
is_past count kind limits.Tables = is_table kind && nat_le TABLE_LIMIT count
is_past count kind limits.Tests = is_test kind && nat_le TEST_LIMIT count
is_past count kind limits.Elements = are_elements_past kind
is_past count kind limits.Cases = are_cases_past kind
is_past count kind limits.Terms = list_any (is_longer TERM_LIMIT) (forms kind)
is_past count kind limits.Atoms = list_any (is_longer ATOM_LIMIT) (conditions kind)
is_past count kind limits.Factor = list_any (list_any is_factor_past) (forms kind)
is_past count kind limits.Bound = list_any is_bound_past (checks kind)
is_past count kind limits.Modulus = list_any is_modulus_past (checks kind)
is_past count kind limits.Residue = list_any is_residue_past (checks kind)
is_past count kind limits.Kept = is_kept_past kind
is_past count kind limits.Automata = is_automaton kind && nat_le AUTOMATON_LIMIT count
is_past count kind limits.States = are_states_past kind
is_past count kind limits.Letters = are_letters_past kind

-- the limits in their order
abbrev pub all_limits : List Limit
all_limits =
    limits.Name ∷ limits.Header ∷ limits.Columns ∷ limits.Labels ∷ limits.Measures ∷ limits.Tables ∷ limits.Tests
    ∷ limits.Elements ∷ limits.Cases ∷ limits.Terms ∷ limits.Atoms ∷ limits.Factor ∷ limits.Bound ∷ limits.Modulus
    ∷ limits.Residue ∷ limits.Kept ∷ limits.Automata ∷ limits.States ∷ limits.Letters ∷ []

-- the first limit that a line passes
abbrev pub passed_limit : ℕ → KindTree → Option Limit
passed_limit count kind = find (is_past count kind) all_limits

-- the fault of a line that passes a limit
abbrev pub limit_at : List PartTree → PartTree → Option RuleFault
limit_at before line = option_map (faults.Limit line.line) (passed_limit (earlier before line.kind) line.kind)

-- the first line that passes a limit, and the first limit that it passes
abbrev pub limit_fault : List PartTree → Option RuleFault
limit_fault parts = first_answer limit_at [] parts

-- the first rule that the specification breaks
unfoldable pub rule_fault : SpecTree → Option RuleFault
rule_fault spec =
    option_or (option_map faults.Missing (missing spec.parts))
    (option_or (second_part spec.parts) (option_or (labels_assign spec.parts) (limit_fault spec.parts)))
