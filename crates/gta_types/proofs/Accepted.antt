-- A specification without a fault is within the limits once its names are resolved.
use Rattle.std.proofs.Common.{◌≡◌, ℕ, ◌+◌, ◌<◌, ◌≤◌, Bool, true, false, ◌&&◌, ◌||◌, nat_lt, leb}
use Rattle.std.proofs.Common.{List, [], ◌∷◌, ◌++◌, map, filter, length, get_or, All, cond, Option, Some, None}
use Rattle.std.proofs.Common.{refl, ◌∙◌, arith}
use Rattle.std.specs.List.{flat_map, list_any, range_with_len}
use Rattle.std.proofs.lemmas.List.{length-map, length-append}
use Rattle.std.proofs.lemmas.List.FromFn.{length-range_with_len, get_or-range_with_len}
use Rattle.std.proofs.lemmas.List.Elements.{All-nil, All-cons, All-append, All-map}
use Rattle.std.proofs.lemmas.Bool.{ltb-false, not-false}
use Rattle.gta_spec.specs.declared.limits.TheConstants.{ATOM_LIMIT, AUTOMATON_LIMIT, CASE_LIMIT, ELEMENT_LIMIT}
use Rattle.gta_spec.specs.declared.limits.TheConstants.{KEEP_LIMIT, LETTER_LIMIT, STATE_LIMIT}
use Rattle.gta_spec.specs.declared.limits.TheConstants.{MEASURE_LIMIT}
use Rattle.gta_spec.specs.declared.limits.TheConstants.{TABLE_LIMIT, TEST_LIMIT}
use Rattle.gta_spec.specs.declared.parts.GoalPart.{GoalPart}
use Rattle.gta_spec.specs.declared.parts.GoalPart.TheVariants as goals
use Rattle.gta_spec.specs.declared.parts.RankPart.{RankPart}
use Rattle.gta_spec.specs.Keep.{KeepTree, kept_tests}
use Rattle.gta_spec.specs.Parts.{Sum, Length, Fold, Run, KindTree, Columns, Labels, Measure, Table}
use Rattle.gta_spec.specs.Parts.{Times, Automaton, Step, Generate, Test, Named, Keep, Aggregate, PartTree, TestTree}
use Rattle.gta_spec.specs.WellFormed.{EachFits, FitsKind, FitParts}
use Rattle.gta_checked.specs.declared.resolved.Rank.{Rank}
use Rattle.gta_checked.specs.Plain.{PlainCase, PlainTest}
use Rattle.gta_checked.specs.Within.{IsTermWithin, IsAtomWithin, IsCaseWithin, IsMeasureWithin}
use Rattle.gta_checked.specs.Within.{IsTestWithin, IsKeptWithin, IsGoalWithin, IsKeepWithin}
use Rattle.spec_rules.specs.declared.fault.Limit.TheVariants as limits
use Rattle.spec_automata.specs.Automata.{automata_in, automaton_parts}
use Rattle.spec_automata.specs.Ready.{IsReadyAutomaton}
use Rattle.spec_rules.specs.SpecRules.{is_automaton, is_table, is_measure, is_test, earlier, is_longer, is_kept_past}
use Rattle.spec_rules.specs.SpecRules.{are_picks_past, test_conditions, test_checks}
use Rattle.spec_rules.specs.SpecRules.{is_bound_past, is_modulus_past, is_residue_past}
use Rattle.spec_tables.specs.Ready.{IsReadyTable}
use Rattle.spec_tables.specs.Tables.{table_parts, tables_in}
use Rattle.gta_types.specs.Names.{Weight, use_as, use_of_rank, uses_of_test, uses_of, uses}
use Rattle.gta_types.specs.Resolved.{number_of_weight, column_items, measure_names, test_names, environment}
use Rattle.gta_types.specs.Resolved.{resolved_case, resolved_test, resolved_rank, resolved_goal, column_measure}
use Rattle.gta_types.specs.Resolved.{declared_measures, tests_of, named_of, keeps_of, first_of, measures_of}
use Rattle.gta_types.proofs.Folds.{tables_of, fold_within}
use Rattle.gta_types.proofs.Runs.{automata_of, run_within}
use Rattle.gta_types.proofs.KeptTests.{tests_declared}
use Rattle.gta_types.proofs.Rules.{Kept, AllKept, few_lines, length_lines}
use Rattle.gta_types.proofs.InRange.{weight_in}
use Rattle.gta_types.proofs.Within.{Known, column_count, label_count, each_front, each_back}
use Rattle.gta_types.proofs.Within.{or_false_parts, cases_within, check_within}

-- what is known of each line
pub record LineFacts (all : List PartTree) (line : ℕ) (kind : KindTree) : Type 0 where
  pub version : ℕ
  pub count : ℕ
  pub fits : FitsKind version kind
  pub kept : Kept count kind
  pub known : EachFits (Known all) (uses_of line kind)

abbrev pub Facts : List PartTree → PartTree → Type 0
Facts all part = LineFacts all part.line part.kind

pub line_facts : (all : List PartTree) (version low : ℕ) (before parts : List PartTree) → FitParts version low parts
    → AllKept before parts → EachFits (Known all) (uses parts) → EachFits (Facts all) parts
line_facts all version low before [] fits kept known = tt
line_facts all version low before (part ∷ parts) fits kept known =
    let here = each_front (Known all) (uses_of part.line part.kind) (uses parts) known in (
      record {
        version = version;
        count = earlier before part.kind;
        fits = fits.1;
        kept = kept.0;
        known = here;
      },
      line_facts all version (part.line + 1) (before ++ part ∷ []) parts fits.2 kept.1
          (each_back (Known all) (uses_of part.line part.kind) (uses parts) known),
    )

measure_pick : (before : List PartTree) (kind : KindTree) → Kept (earlier before kind) kind
    → (is_measure kind && leb MEASURE_LIMIT (length (filter (λ line. is_measure line.kind) before))) ≡ false
measure_pick before (Columns items) kept = refl
measure_pick before (Labels xs) kept = refl
measure_pick before (Measure part) kept = kept limits.Measures
measure_pick before (Table part) kept = refl
measure_pick before (Times part) kept = refl
measure_pick before (Automaton part) kept = refl
measure_pick before (Step part) kept = refl
measure_pick before (Generate shape) kept = refl
measure_pick before (Test test) kept = refl
measure_pick before (Named name test) kept = refl
measure_pick before (Keep keep) kept = refl
measure_pick before (Aggregate goal) kept = refl

test_pick : (before : List PartTree) (kind : KindTree) → Kept (earlier before kind) kind
    → (is_test kind && leb TEST_LIMIT (length (filter (λ line. is_test line.kind) before))) ≡ false
test_pick before (Columns items) kept = refl
test_pick before (Labels xs) kept = refl
test_pick before (Measure part) kept = refl
test_pick before (Table part) kept = refl
test_pick before (Times part) kept = refl
test_pick before (Automaton part) kept = refl
test_pick before (Step part) kept = refl
test_pick before (Generate shape) kept = refl
test_pick before (Test test) kept = kept limits.Tests
test_pick before (Named name test) kept = kept limits.Tests
test_pick before (Keep keep) kept = refl
test_pick before (Aggregate goal) kept = refl

table_pick : (before : List PartTree) (kind : KindTree) → Kept (earlier before kind) kind
    → (is_table kind && leb TABLE_LIMIT (length (filter (λ line. is_table line.kind) before))) ≡ false
table_pick before (Columns items) kept = refl
table_pick before (Labels xs) kept = refl
table_pick before (Measure part) kept = refl
table_pick before (Table part) kept = kept limits.Tables
table_pick before (Times part) kept = refl
table_pick before (Automaton part) kept = refl
table_pick before (Step part) kept = refl
table_pick before (Generate shape) kept = refl
table_pick before (Test test) kept = refl
table_pick before (Named name test) kept = refl
table_pick before (Keep keep) kept = refl
table_pick before (Aggregate goal) kept = refl

automaton_pick : (before : List PartTree) (kind : KindTree) → Kept (earlier before kind) kind
    → (is_automaton kind && leb AUTOMATON_LIMIT (length (filter (λ line. is_automaton line.kind) before))) ≡ false
automaton_pick before (Columns items) kept = refl
automaton_pick before (Labels xs) kept = refl
automaton_pick before (Measure part) kept = refl
automaton_pick before (Table part) kept = refl
automaton_pick before (Times part) kept = refl
automaton_pick before (Automaton part) kept = kept limits.Automata
automaton_pick before (Step part) kept = refl
automaton_pick before (Generate shape) kept = refl
automaton_pick before (Test test) kept = refl
automaton_pick before (Named name test) kept = refl
automaton_pick before (Keep keep) kept = refl
automaton_pick before (Aggregate goal) kept = refl

one_measure_name : (kind : KindTree) → length (measure_names kind) ≡ cond (is_measure kind) 1 0
one_measure_name (Columns items) = refl
one_measure_name (Labels xs) = refl
one_measure_name (Measure part) = refl
one_measure_name (Table part) = refl
one_measure_name (Times part) = refl
one_measure_name (Automaton part) = refl
one_measure_name (Step part) = refl
one_measure_name (Generate shape) = refl
one_measure_name (Test test) = refl
one_measure_name (Named name test) = refl
one_measure_name (Keep keep) = refl
one_measure_name (Aggregate goal) = refl

one_measure : (all : List PartTree) (kind : KindTree)
    → length (declared_measures (environment all) kind) ≡ cond (is_measure kind) 1 0
one_measure all (Columns items) = refl
one_measure all (Labels xs) = refl
one_measure all (Measure part) = refl
one_measure all (Table part) = refl
one_measure all (Times part) = refl
one_measure all (Automaton part) = refl
one_measure all (Step part) = refl
one_measure all (Generate shape) = refl
one_measure all (Test test) = refl
one_measure all (Named name test) = refl
one_measure all (Keep keep) = refl
one_measure all (Aggregate goal) = refl

one_test : (all : List PartTree) (kind : KindTree) → length (tests_of (environment all) kind) ≡ cond (is_test kind) 1 0
one_test all (Columns items) = refl
one_test all (Labels xs) = refl
one_test all (Measure part) = refl
one_test all (Table part) = refl
one_test all (Times part) = refl
one_test all (Automaton part) = refl
one_test all (Step part) = refl
one_test all (Generate shape) = refl
one_test all (Test test) = refl
one_test all (Named name test) = refl
one_test all (Keep keep) = refl
one_test all (Aggregate goal) = refl

one_test_name : (kind : KindTree) → length (test_names kind) ≡ cond (is_test kind) 1 0
one_test_name (Columns items) = refl
one_test_name (Labels xs) = refl
one_test_name (Measure part) = refl
one_test_name (Table part) = refl
one_test_name (Times part) = refl
one_test_name (Automaton part) = refl
one_test_name (Step part) = refl
one_test_name (Generate shape) = refl
one_test_name (Test test) = refl
one_test_name (Named name test) = refl
one_test_name (Keep keep) = refl
one_test_name (Aggregate goal) = refl

one_named : (kind : KindTree) → length (named_of kind) ≡ cond (is_test kind) 1 0
one_named (Columns items) = refl
one_named (Labels xs) = refl
one_named (Measure part) = refl
one_named (Table part) = refl
one_named (Times part) = refl
one_named (Automaton part) = refl
one_named (Step part) = refl
one_named (Generate shape) = refl
one_named (Test test) = refl
one_named (Named name test) = refl
one_named (Keep keep) = refl
one_named (Aggregate goal) = refl

one_table : (kind : KindTree) → length (table_parts kind) ≡ cond (is_table kind) 1 0
one_table (Columns items) = refl
one_table (Labels xs) = refl
one_table (Measure part) = refl
one_table (Table part) = refl
one_table (Times part) = refl
one_table (Automaton part) = refl
one_table (Step part) = refl
one_table (Generate shape) = refl
one_table (Test test) = refl
one_table (Named name test) = refl
one_table (Keep keep) = refl
one_table (Aggregate goal) = refl

one_automaton : (kind : KindTree) → length (automaton_parts kind) ≡ cond (is_automaton kind) 1 0
one_automaton (Columns items) = refl
one_automaton (Labels xs) = refl
one_automaton (Measure part) = refl
one_automaton (Table part) = refl
one_automaton (Times part) = refl
one_automaton (Automaton part) = refl
one_automaton (Step part) = refl
one_automaton (Generate shape) = refl
one_automaton (Test test) = refl
one_automaton (Named name test) = refl
one_automaton (Keep keep) = refl
one_automaton (Aggregate goal) = refl

pub few_measure_names : (all : List PartTree) → AllKept [] all → length (environment all).measures ≤ MEASURE_LIMIT
few_measure_names all kept =
    let few = few_lines is_measure MEASURE_LIMIT measure_pick all kept in
    let len = length_lines is_measure MEASURE_LIMIT measure_pick measure_names one_measure_name all in
    omega (arith, few, len)

pub few_tests : (all : List PartTree) → AllKept [] all
    → length (flat_map (λ (part : PartTree). tests_of (environment all) part.kind) all) ≤ TEST_LIMIT
few_tests all kept =
    let few = few_lines is_test TEST_LIMIT test_pick all kept in
    let len = length_lines is_test TEST_LIMIT test_pick (tests_of (environment all)) (one_test all) all in
    omega (arith, few, len)

-- as many tests as names of tests
pub tests_length : (all : List PartTree)
    → length (flat_map (λ (part : PartTree). tests_of (environment all) part.kind) all) ≡ length (environment all).tests
tests_length all =
    let tests = length_lines is_test TEST_LIMIT test_pick (tests_of (environment all)) (one_test all) all in
    let names = length_lines is_test TEST_LIMIT test_pick test_names one_test_name all in omega (arith, tests, names)

pub named_length : (all : List PartTree)
    → length (flat_map (λ (part : PartTree). named_of part.kind) all)
    ≡ length (flat_map (λ (part : PartTree). tests_of (environment all) part.kind) all)
named_length all =
    let tests = length_lines is_test TEST_LIMIT test_pick (tests_of (environment all)) (one_test all) all in
    let named = length_lines is_test TEST_LIMIT test_pick named_of one_named all in omega (arith, tests, named)

pub few_test_names : (all : List PartTree) → AllKept [] all → length (environment all).tests ≤ TEST_LIMIT
few_test_names all kept =
    let few = few_tests all kept in let len = tests_length all in omega (arith, few, len)

pub few_tables : (all : List PartTree) → AllKept [] all → length (tables_in all) ≤ TABLE_LIMIT
few_tables all kept =
    let few = few_lines is_table TABLE_LIMIT table_pick all kept in
    let len = length_lines is_table TABLE_LIMIT table_pick table_parts one_table all in
    omega (arith, few, len)

pub few_automata : (all : List PartTree) → AllKept [] all → length (automata_in all) ≤ AUTOMATON_LIMIT
few_automata all kept =
    let few = few_lines is_automaton AUTOMATON_LIMIT automaton_pick all kept in
    let len = length_lines is_automaton AUTOMATON_LIMIT automaton_pick automaton_parts one_automaton all in
    omega (arith, few, len)

pub measures_length : (all : List PartTree)
    → length (measures_of all) ≡ length (environment all).columns + length (environment all).measures
measures_length all =
    let columns = map column_measure (range_with_len 0 (length (environment all).columns)) in
    let declared = flat_map (λ (part : PartTree). declared_measures (environment all) part.kind) all in
    let a : length (measures_of all) ≡ length columns + length declared = length-append columns declared in
    let b : length columns ≡ length (environment all).columns =
    length-map (range_with_len 0 (length (environment all).columns)) column_measure
    ∙ length-range_with_len 0 (length (environment all).columns) in
    let c = length_lines is_measure MEASURE_LIMIT measure_pick (declared_measures (environment all))
    (one_measure all) all in
    let d = length_lines is_measure MEASURE_LIMIT measure_pick measure_names one_measure_name all in
    omega (arith, a, b, c, d)

weight_within : (all : List PartTree) (line : ℕ) (x : List ℕ) → Known all (use_as line Weight x)
    → number_of_weight (environment all) x < length (measures_of all)
weight_within all line x known =
    let within = weight_in all x (not-false _ known) in
    let len = length-append (environment all).columns (environment all).measures in
    let m = measures_length all in omega (arith, within, len, m)

-- a measure, and a test, within the limits of these lines
abbrev pub MeasureWithin : List PartTree → List PlainCase → Type 0
MeasureWithin all = IsMeasureWithin (column_count all) (label_count all)

abbrev pub TestWithin : List PartTree → PlainTest → Type 0
TestWithin all =
    IsTestWithin (column_count all) (label_count all) (length (measures_of all)) (tables_of all) (automata_of all)

measures_of_line : (all : List PartTree) (line : ℕ) (kind : KindTree) → LineFacts all line kind
    → All (MeasureWithin all) (declared_measures (environment all) kind)
measures_of_line all line (Columns items) facts = All-nil (MeasureWithin all)
measures_of_line all line (Labels xs) facts = All-nil (MeasureWithin all)
measures_of_line all line (Measure part) facts =
    All-cons (MeasureWithin all) (map (resolved_case (environment all)) part.cases) [] (
      (let l = length-map part.cases (resolved_case (environment all)) in
          let few = ltb-false CASE_LIMIT (length part.cases) (facts.kept limits.Cases) in omega arith),
      cases_within all line facts.version part.cases facts.fits.1.1 (facts.kept limits.Terms) (facts.kept limits.Atoms)
          (facts.kept limits.Factor) facts.known,
    )
    (All-nil (MeasureWithin all))
measures_of_line all line (Table part) facts = All-nil (MeasureWithin all)
measures_of_line all line (Times part) facts = All-nil (MeasureWithin all)
measures_of_line all line (Automaton part) facts = All-nil (MeasureWithin all)
measures_of_line all line (Step part) facts = All-nil (MeasureWithin all)
measures_of_line all line (Generate shape) facts = All-nil (MeasureWithin all)
measures_of_line all line (Test test) facts = All-nil (MeasureWithin all)
measures_of_line all line (Named name test) facts = All-nil (MeasureWithin all)
measures_of_line all line (Keep keep) facts = All-nil (MeasureWithin all)
measures_of_line all line (Aggregate goal) facts = All-nil (MeasureWithin all)

one_check : (b : Bool) → (b || false) ≡ false → b ≡ false
one_check true h = h
one_check false h = refl

-- what is known of a test, with a name or without
record TestFacts (all : List PartTree) (line : ℕ) (test : TestTree) : Type 0 where
  cases : are_picks_past test ≡ false
  atoms : list_any (is_longer ATOM_LIMIT) (test_conditions test) ≡ false
  bound : list_any is_bound_past (test_checks test) ≡ false
  modulus : list_any is_modulus_past (test_checks test) ≡ false
  residue : list_any is_residue_past (test_checks test) ≡ false
  known : EachFits (Known all) (uses_of_test line test)

kept_test : {all : List PartTree} {line : ℕ} {test : TestTree} → LineFacts all line (Test test)
    → TestFacts all line test
kept_test facts = record {
  cases = facts.kept limits.Cases;
  atoms = facts.kept limits.Atoms;
  bound = facts.kept limits.Bound;
  modulus = facts.kept limits.Modulus;
  residue = facts.kept limits.Residue;
  known = facts.known;
}

kept_named : {all : List PartTree} {line : ℕ} {name : List ℕ} {test : TestTree} → LineFacts all line (Named name test)
    → TestFacts all line test
kept_named facts = record {
  cases = facts.kept limits.Cases;
  atoms = facts.kept limits.Atoms;
  bound = facts.kept limits.Bound;
  modulus = facts.kept limits.Modulus;
  residue = facts.kept limits.Residue;
  known = facts.known;
}

test_within : (all : List PartTree) (line : ℕ) (test : TestTree) → TestFacts all line test
    → TestWithin all (resolved_test (environment all) test)
test_within all line (Sum x check) facts = (
  weight_within all line x facts.known.0,
  check_within check (one_check _ facts.bound) (one_check _ facts.modulus) (one_check _ facts.residue),
)
test_within all line (Length check) facts =
    check_within check (one_check _ facts.bound) (one_check _ facts.modulus) (one_check _ facts.residue)
test_within all line (Fold table picks accept) facts =
    fold_within all line table picks accept facts.cases facts.atoms facts.known
test_within all line (Run automaton picks accept) facts =
    run_within all line automaton picks accept facts.cases facts.atoms facts.known

tests_of_line : (all : List PartTree) (line : ℕ) (kind : KindTree) → LineFacts all line kind
    → All (TestWithin all) (tests_of (environment all) kind)
tests_of_line all line (Columns items) facts = All-nil (TestWithin all)
tests_of_line all line (Labels xs) facts = All-nil (TestWithin all)
tests_of_line all line (Measure part) facts = All-nil (TestWithin all)
tests_of_line all line (Table part) facts = All-nil (TestWithin all)
tests_of_line all line (Times part) facts = All-nil (TestWithin all)
tests_of_line all line (Automaton part) facts = All-nil (TestWithin all)
tests_of_line all line (Step part) facts = All-nil (TestWithin all)
tests_of_line all line (Generate shape) facts = All-nil (TestWithin all)
tests_of_line all line (Test test) facts =
    All-cons (TestWithin all) _ [] (test_within all line test (kept_test facts)) (All-nil (TestWithin all))
tests_of_line all line (Named name test) facts =
    All-cons (TestWithin all) _ [] (test_within all line test (kept_named facts)) (All-nil (TestWithin all))
tests_of_line all line (Keep keep) facts = All-nil (TestWithin all)
tests_of_line all line (Aggregate goal) facts = All-nil (TestWithin all)

kept_within : (k : Option ℕ) (keys : List RankPart)
    → is_kept_past (Aggregate (goals.Ranked k keys)) ≡ false → IsKeptWithin k
kept_within None keys kept = tt
kept_within (Some k) keys kept =
    let h = or_false_parts (nat_lt k 1) (nat_lt KEEP_LIMIT k) kept in
    (ltb-false k 1 h.0, ltb-false KEEP_LIMIT k h.1)

ranks_within : (all : List PartTree) (line : ℕ) (keys : List RankPart)
    → EachFits (Known all) (map (use_of_rank line) keys)
    → All (λ (rank : Rank). rank.measure < length (measures_of all)) (map (resolved_rank (environment all)) keys)
ranks_within all line [] known = All-nil (λ (rank : Rank). rank.measure < length (measures_of all))
ranks_within all line (key ∷ keys) known =
    All-cons (λ (rank : Rank). rank.measure < length (measures_of all)) (resolved_rank (environment all) key)
    (map (resolved_rank (environment all)) keys) (weight_within all line key.name known.0)
    (ranks_within all line keys known.1)

pub goal_of_line : (all : List PartTree) (line : ℕ) (goal : GoalPart) → LineFacts all line (Aggregate goal)
    → IsGoalWithin (length (measures_of all)) (resolved_goal (environment all) goal)
goal_of_line all line goals.Count facts = tt
goal_of_line all line goals.Any facts = tt
goal_of_line all line (goals.Max x) facts = weight_within all line x facts.known.0
goal_of_line all line (goals.Min x) facts = weight_within all line x facts.known.0
goal_of_line all line (goals.Best k greatest x) facts =
    let h = or_false_parts (nat_lt k 1) (nat_lt KEEP_LIMIT k) (facts.kept limits.Kept) in
    let low = ltb-false k 1 h.0 in let high = ltb-false KEEP_LIMIT k h.1 in
    (low, high, weight_within all line x facts.known.0)
goal_of_line all line (goals.Ranked k keys) facts =
    let count = length-map keys (resolved_rank (environment all)) in (
      kept_within k keys (facts.kept limits.Kept),
      record {
        several = (let several = facts.fits.1.several in omega (arith, several, count));
        few = (let few = facts.fits.1.few in omega (arith, few, count));
        declared = ranks_within all line keys facts.known;
      },
    )

-- each expression over tests speaks of declared ones
abbrev pub KeepWithin : List PartTree → KeepTree ℕ → Type 0
KeepWithin all keep = All (λ test. test < length (environment all).tests) (kept_tests keep)

keeps_of_line : (all : List PartTree) (line : ℕ) (kind : KindTree) → LineFacts all line kind
    → All (KeepWithin all) (keeps_of (environment all) kind)
keeps_of_line all line (Columns items) facts = All-nil (KeepWithin all)
keeps_of_line all line (Labels xs) facts = All-nil (KeepWithin all)
keeps_of_line all line (Measure part) facts = All-nil (KeepWithin all)
keeps_of_line all line (Table part) facts = All-nil (KeepWithin all)
keeps_of_line all line (Times part) facts = All-nil (KeepWithin all)
keeps_of_line all line (Automaton part) facts = All-nil (KeepWithin all)
keeps_of_line all line (Step part) facts = All-nil (KeepWithin all)
keeps_of_line all line (Generate shape) facts = All-nil (KeepWithin all)
keeps_of_line all line (Test test) facts = All-nil (KeepWithin all)
keeps_of_line all line (Named name test) facts = All-nil (KeepWithin all)
keeps_of_line all line (Keep keep) facts =
    All-cons (KeepWithin all) _ [] (tests_declared all line keep facts.known) (All-nil (KeepWithin all))
keeps_of_line all line (Aggregate goal) facts = All-nil (KeepWithin all)

all_flat : {B : Type 0} (P : B → Type 0) (Q : PartTree → Type 0) (g : PartTree → List B)
    → ((part : PartTree) → Q part → All P (g part)) → (parts : List PartTree) → EachFits Q parts
    → All P (flat_map g parts)
all_flat P Q g each [] fits = All-nil P
all_flat P Q g each (part ∷ parts) fits =
    All-append P (g part) (flat_map g parts) (each part fits.0) (all_flat P Q g each parts fits.1)

column_measure_within : (columns labels column : ℕ) → column < columns
    → IsMeasureWithin columns labels (column_measure column)
column_measure_within columns labels column below = (
  omega arith,
  All-cons (IsCaseWithin columns labels) _ []
      (record {
        few_terms = omega arith;
        terms = All-cons (IsTermWithin columns) _ [] (below, omega arith) (All-nil (IsTermWithin columns));
        condition = (omega arith, All-nil (IsAtomWithin columns labels));
      })
      (All-nil (IsCaseWithin columns labels)),
)

pub all_measures : (all : List PartTree) → EachFits (Facts all) all
    → All (MeasureWithin all) (measures_of all)
all_measures all facts =
    let n = length (environment all).columns in
    let P = MeasureWithin all in
    let same : n ≡ column_count all = length-map (flat_map
    (λ (part : PartTree). column_items part.kind) all) (λ item. item.name) in
    All-append P (map column_measure (range_with_len 0 n))
    (flat_map (λ (part : PartTree). declared_measures (environment all) part.kind) all)
    (All-map P column_measure (range_with_len 0 n) (λ k d lt.
    let l = length-range_with_len 0 n in
    let below : k < n = omega (arith, lt, l) in
    let at = get_or-range_with_len 0 n k d below in
    column_measure_within (column_count all) (label_count all) (get_or (range_with_len 0 n) k d)
    (omega (arith, at, same, below))))
    (all_flat P (Facts all)
    (λ (part : PartTree). declared_measures (environment all) part.kind)
    (λ part facts. measures_of_line all part.line part.kind facts) all facts)

pub all_tests : (all : List PartTree) → EachFits (Facts all) all
    → All (TestWithin all)
    (flat_map (λ (part : PartTree). tests_of (environment all) part.kind) all)
all_tests all facts =
    all_flat (TestWithin all)
    (Facts all) (λ (part : PartTree). tests_of (environment all) part.kind)
    (λ part facts. tests_of_line all part.line part.kind facts) all facts

first_within : (tests : ℕ) (keeps : List (KeepTree ℕ))
    → All (λ keep. All (λ test. test < tests) (kept_tests keep)) keeps → IsKeepWithin tests (first_of keeps)
first_within tests [] within = tt
first_within tests (keep ∷ keeps) within = within 0 keep (omega arith)

pub keep_declared : (all : List PartTree) → EachFits (Facts all) all
    → IsKeepWithin (length (environment all).tests)
    (first_of (flat_map (λ (part : PartTree). keeps_of (environment all) part.kind) all))
keep_declared all facts =
    first_within (length (environment all).tests)
    (flat_map (λ (part : PartTree). keeps_of (environment all) part.kind) all)
    (all_flat (KeepWithin all) (Facts all) (λ (part : PartTree). keeps_of (environment all) part.kind)
    (λ part facts. keeps_of_line all part.line part.kind facts) all facts)

-- each table is ready for its products to be looked at
ready_of_line : (all : List PartTree) (line : ℕ) (kind : KindTree) → LineFacts all line kind
    → EachFits IsReadyTable (table_parts kind)
ready_of_line all line (Columns items) facts = tt
ready_of_line all line (Labels xs) facts = tt
ready_of_line all line (Measure part) facts = tt
ready_of_line all line (Table part) facts = (
  record {
    some = facts.fits.2.0;
    few = ltb-false ELEMENT_LIMIT (length part.elements) (facts.kept limits.Elements);
    unit = not-false _ facts.known.0;
  },
  tt,
)
ready_of_line all line (Times part) facts = tt
ready_of_line all line (Automaton part) facts = tt
ready_of_line all line (Step part) facts = tt
ready_of_line all line (Generate shape) facts = tt
ready_of_line all line (Test test) facts = tt
ready_of_line all line (Named name test) facts = tt
ready_of_line all line (Keep keep) facts = tt
ready_of_line all line (Aggregate goal) facts = tt

-- each automaton is ready for its moves to be looked at
ready_automaton : (all : List PartTree) (line : ℕ) (kind : KindTree) → LineFacts all line kind
    → EachFits IsReadyAutomaton (automaton_parts kind)
ready_automaton all line (Columns items) facts = tt
ready_automaton all line (Labels xs) facts = tt
ready_automaton all line (Measure part) facts = tt
ready_automaton all line (Table part) facts = tt
ready_automaton all line (Times part) facts = tt
ready_automaton all line (Automaton part) facts = (
  record {
    some_states = facts.fits.2.0;
    few_states = ltb-false STATE_LIMIT (length part.states) (facts.kept limits.States);
    some_letters = facts.fits.4.0;
    few_letters = ltb-false LETTER_LIMIT (length part.letters) (facts.kept limits.Letters);
    start = not-false _ facts.known.0;
  },
  tt,
)
ready_automaton all line (Step part) facts = tt
ready_automaton all line (Generate shape) facts = tt
ready_automaton all line (Test test) facts = tt
ready_automaton all line (Named name test) facts = tt
ready_automaton all line (Keep keep) facts = tt
ready_automaton all line (Aggregate goal) facts = tt

each_append : {A : Type 0} (F : A → Type 0) (xs ys : List A) → EachFits F xs → EachFits F ys → EachFits F (xs ++ ys)
each_append F [] ys front back = back
each_append F (x ∷ xs) ys front back = (front.0, each_append F xs ys front.1 back)

pub tables_ready : (all parts : List PartTree) → EachFits (Facts all) parts → EachFits IsReadyTable (tables_in parts)
tables_ready all [] facts = tt
tables_ready all (part ∷ parts) facts =
    each_append IsReadyTable (table_parts part.kind) (tables_in parts)
    (ready_of_line all part.line part.kind facts.0) (tables_ready all parts facts.1)

pub automata_ready : (all parts : List PartTree) → EachFits (Facts all) parts
    → EachFits IsReadyAutomaton (automata_in parts)
automata_ready all [] facts = tt
automata_ready all (part ∷ parts) facts =
    each_append IsReadyAutomaton (automaton_parts part.kind) (automata_in parts)
    (ready_automaton all part.line part.kind facts.0) (automata_ready all parts facts.1)
