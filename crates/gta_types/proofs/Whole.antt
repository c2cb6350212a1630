-- What holds of a specification without a fault, and that its resolved form is within the limits.
use Rattle.std.proofs.Common.{◌≡◌, ◌↔◌, ℕ, ◌+◌, ◌≤◌, Bool, true, false, ◌||◌, not, List, [], ◌∷◌, map}
use Rattle.std.proofs.Common.{length, get_or, Option, Some, None, is_some, refl, sym, ap, ◌∙◌}
use Rattle.std.proofs.Common.{inl, inr, subst, All, arith}
use Rattle.std.specs.List.{list_any, flat_map}
use Rattle.std.proofs.lemmas.List.{length-map}
use Rattle.std.proofs.lemmas.List.Folds.{list_any-append}
use Rattle.std.proofs.lemmas.Bool.{false≢true, cases_Bool, ltb-false, not-false}
use Rattle.std.proofs.lemmas.Option.{none-some}
use Rattle.shape_gen.specs.declared.shape.Shape.{Shape}
use Rattle.shape_gen.specs.declared.shape.Shape.TheVariants.{Sublists, Assign, Prefixes, Suffixes, Segments}
use Rattle.gta_spec.specs.declared.limits.TheConstants.{COLUMN_LIMIT, LABEL_LIMIT}
use Rattle.gta_spec.specs.declared.parts.Part.{Part}
use Rattle.gta_spec.specs.Parts.{KindTree, Columns, Labels, Measure, Table, Times, Automaton, Step, Generate, Test}
use Rattle.gta_spec.specs.Parts.{Named, Keep, Aggregate, PartTree, SpecTree, CaseTree, part_tree, kind_tree}
use Rattle.gta_text.specs.declared.numbers.TheConstants.{NUMBER_BOUND}
use Rattle.gta_spec.specs.declared.parts.TermPart.{TermPart}
use Rattle.gta_spec.specs.WellFormed.{EachFits, FitsQuantity, FitsTerm, FitsCase, FitsKind, FitParts, IsWellFormed}
use Rattle.gta_checked.specs.declared.resolved.Goal.{Goal}
use Rattle.gta_checked.specs.Plain.{PlainChecked}
use Rattle.gta_checked.specs.Within.{IsAutomatonWithin, IsGoalWithin, IsTableWithin, IsWithinLimits}
use Rattle.spec_rules.specs.declared.fault.SinglePart.TheVariants as singles
use Rattle.spec_rules.specs.declared.fault.Limit.TheVariants as limits
use Rattle.spec_rules.specs.SpecRules.{single_of, is_the, is_single, first_line, labels_assign_of}
use Rattle.spec_rules.specs.SpecRules.{labels_assign, rule_fault, is_assign}
use Rattle.gta_types.specs.Names.{Use, is_known, uses}
use Rattle.spec_automata.specs.Automata.{automata_in, automaton_of}
use Rattle.spec_tables.specs.Tables.{tables_in, named_table}
use Rattle.gta_types.specs.Resolved.{column_items, factor_of, label_names, environment, shapes_of}
use Rattle.gta_types.specs.Resolved.{goals_of, resolved_goal, measures_of, IsResolved}
use Rattle.gta_types.specs.Ready.{Ascend, AreCasesReady, IsCaseReady, IsFactorReady, IsReady}
use Rattle.gta_types.specs.Lists.{HasFewNames}
use Rattle.gta_types.specs.Faults.{name_fault}
use Rattle.gta_types.proofs.FirstFault.{no_name_fault}
use Rattle.gta_types.proofs.Twice.{is_some-mapped_find}
use Rattle.gta_types.proofs.Rules.{option_or_none, mapped_none, none_found, AllKept, all_kept}
use Rattle.gta_types.proofs.Rules.{AllOnce, all_once, IsOnly, the_only, none_there}
use Rattle.gta_types.proofs.Within.{column_count, label_count}
use Rattle.gta_types.proofs.Accepted.{LineFacts, Facts, line_facts, few_automata, few_measure_names, few_tables}
use Rattle.gta_types.proofs.Accepted.{automata_ready, few_tests}
use Rattle.gta_types.proofs.Accepted.{measures_length, all_measures, all_tests, goal_of_line}
use Rattle.gta_types.proofs.Accepted.{few_test_names, keep_declared, named_length, tests_length}

-- what holds of lines without a fault
pub record IsSound (parts : List PartTree) : Type 0 where
  pub facts : EachFits (Facts parts) parts
  pub kept : AllKept [] parts
  pub once : AllOnce [] parts
  pub has_columns : list_any (is_single singles.Columns) parts ≡ true
  pub has_generate : list_any (is_single singles.Generate) parts ≡ true
  pub has_aggregate : list_any (is_single singles.Aggregate) parts ≡ true
  pub assigned : labels_assign parts ≡ None

pub is_sound : (spec : SpecTree) → IsWellFormed spec → name_fault spec.parts ≡ None → rule_fault spec ≡ None
    → IsSound spec.parts
unfolding rule_fault
is_sound spec well no_fault kept_rules =
    let names = no_name_fault spec.parts no_fault in
    let rules = option_or_none _ _ kept_rules in
    let more = option_or_none _ _ rules.1 in
    let last = option_or_none _ _ more.1 in
    let there = none_found (λ part. not (list_any (is_single part) spec.parts))
    (singles.Columns ∷ singles.Generate ∷ singles.Aggregate ∷ []) (mapped_none _ _ rules.0) in
    let kept = all_kept [] spec.parts last.1 in
    record {
      facts = line_facts spec.parts spec.version 0 [] spec.parts well.parts kept
          (none_found (λ (u : Use). not (is_known spec.parts u.wanted u.name)) (uses spec.parts) names.0);
      kept = kept;
      once = all_once [] spec.parts more.0;
      has_columns = not-false _ there.0;
      has_generate = not-false _ there.1.0;
      has_aggregate = not-false _ there.1.1.0;
      assigned = last.0;
    }

no_columns_else : (kind : KindTree) → is_the singles.Columns (single_of kind) ≡ false → column_items kind ≡ []
no_columns_else (Columns items) e = absurd (false≢true (sym e))
no_columns_else (Labels xs) e = refl
no_columns_else (Measure part) e = refl
no_columns_else (Table part) e = refl
no_columns_else (Times part) e = refl
no_columns_else (Automaton part) e = refl
no_columns_else (Step part) e = refl
no_columns_else (Generate shape) e = refl
no_columns_else (Test test) e = refl
no_columns_else (Named name test) e = refl
no_columns_else (Keep keep) e = refl
no_columns_else (Aggregate goal) e = refl

no_labels_else : (kind : KindTree) → is_the singles.Labels (single_of kind) ≡ false → label_names kind ≡ []
no_labels_else (Columns items) e = refl
no_labels_else (Labels xs) e = absurd (false≢true (sym e))
no_labels_else (Measure part) e = refl
no_labels_else (Table part) e = refl
no_labels_else (Times part) e = refl
no_labels_else (Automaton part) e = refl
no_labels_else (Step part) e = refl
no_labels_else (Generate shape) e = refl
no_labels_else (Test test) e = refl
no_labels_else (Named name test) e = refl
no_labels_else (Keep keep) e = refl
no_labels_else (Aggregate goal) e = refl

no_shapes_else : (kind : KindTree) → is_the singles.Generate (single_of kind) ≡ false → shapes_of kind ≡ []
no_shapes_else (Columns items) e = refl
no_shapes_else (Labels xs) e = refl
no_shapes_else (Measure part) e = refl
no_shapes_else (Table part) e = refl
no_shapes_else (Times part) e = refl
no_shapes_else (Automaton part) e = refl
no_shapes_else (Step part) e = refl
no_shapes_else (Generate shape) e = absurd (false≢true (sym e))
no_shapes_else (Test test) e = refl
no_shapes_else (Named name test) e = refl
no_shapes_else (Keep keep) e = refl
no_shapes_else (Aggregate goal) e = refl

no_goals_else : (all : List PartTree) (kind : KindTree) → is_the singles.Aggregate (single_of kind) ≡ false
    → goals_of (environment all) kind ≡ []
no_goals_else all (Columns items) e = refl
no_goals_else all (Labels xs) e = refl
no_goals_else all (Measure part) e = refl
no_goals_else all (Table part) e = refl
no_goals_else all (Times part) e = refl
no_goals_else all (Automaton part) e = refl
no_goals_else all (Step part) e = refl
no_goals_else all (Generate shape) e = refl
no_goals_else all (Test test) e = refl
no_goals_else all (Named name test) e = refl
no_goals_else all (Keep keep) e = refl
no_goals_else all (Aggregate goal) e = absurd (false≢true (sym e))

few_items : (all : List PartTree) (line : ℕ) (kind : KindTree) → is_the singles.Columns (single_of kind) ≡ true
    → LineFacts all line kind → length (column_items kind) ≤ COLUMN_LIMIT
few_items all line (Columns items) is facts = ltb-false COLUMN_LIMIT (length items) (facts.kept limits.Columns)
few_items all line (Labels xs) is facts = absurd (false≢true is)
few_items all line (Measure part) is facts = absurd (false≢true is)
few_items all line (Table part) is facts = absurd (false≢true is)
few_items all line (Times part) is facts = absurd (false≢true is)
few_items all line (Automaton part) is facts = absurd (false≢true is)
few_items all line (Step part) is facts = absurd (false≢true is)
few_items all line (Generate shape) is facts = absurd (false≢true is)
few_items all line (Test test) is facts = absurd (false≢true is)
few_items all line (Named name test) is facts = absurd (false≢true is)
few_items all line (Keep keep) is facts = absurd (false≢true is)
few_items all line (Aggregate goal) is facts = absurd (false≢true is)

some_labels : (all : List PartTree) (line : ℕ) (kind : KindTree) → is_the singles.Labels (single_of kind) ≡ true
    → LineFacts all line kind → (1 ≤ length (label_names kind)) × (length (label_names kind) ≤ LABEL_LIMIT)
some_labels all line (Columns items) is facts = absurd (false≢true is)
some_labels all line (Labels xs) is facts = (facts.fits.0, ltb-false LABEL_LIMIT (length xs) (facts.kept limits.Labels))
some_labels all line (Measure part) is facts = absurd (false≢true is)
some_labels all line (Table part) is facts = absurd (false≢true is)
some_labels all line (Times part) is facts = absurd (false≢true is)
some_labels all line (Automaton part) is facts = absurd (false≢true is)
some_labels all line (Step part) is facts = absurd (false≢true is)
some_labels all line (Generate shape) is facts = absurd (false≢true is)
some_labels all line (Test test) is facts = absurd (false≢true is)
some_labels all line (Named name test) is facts = absurd (false≢true is)
some_labels all line (Keep keep) is facts = absurd (false≢true is)
some_labels all line (Aggregate goal) is facts = absurd (false≢true is)

one_shape : (kind : KindTree) → is_the singles.Generate (single_of kind) ≡ true → length (shapes_of kind) ≡ 1
one_shape (Columns items) is = absurd (false≢true is)
one_shape (Labels xs) is = absurd (false≢true is)
one_shape (Measure part) is = absurd (false≢true is)
one_shape (Table part) is = absurd (false≢true is)
one_shape (Times part) is = absurd (false≢true is)
one_shape (Automaton part) is = absurd (false≢true is)
one_shape (Step part) is = absurd (false≢true is)
one_shape (Generate shape) is = refl
one_shape (Test test) is = absurd (false≢true is)
one_shape (Named name test) is = absurd (false≢true is)
one_shape (Keep keep) is = absurd (false≢true is)
one_shape (Aggregate goal) is = absurd (false≢true is)

one_goal : (all : List PartTree) (line : ℕ) (kind : KindTree) → is_the singles.Aggregate (single_of kind) ≡ true
    → LineFacts all line kind → (length (goals_of (environment all) kind) ≡ 1)
    × ((goal : Goal) → goal ∷ [] ≡ goals_of (environment all) kind → IsGoalWithin (length (measures_of all)) goal)
one_goal all line (Columns items) is facts = absurd (false≢true is)
one_goal all line (Labels xs) is facts = absurd (false≢true is)
one_goal all line (Measure part) is facts = absurd (false≢true is)
one_goal all line (Table part) is facts = absurd (false≢true is)
one_goal all line (Times part) is facts = absurd (false≢true is)
one_goal all line (Automaton part) is facts = absurd (false≢true is)
one_goal all line (Step part) is facts = absurd (false≢true is)
one_goal all line (Generate shape) is facts = absurd (false≢true is)
one_goal all line (Test test) is facts = absurd (false≢true is)
one_goal all line (Named name test) is facts = absurd (false≢true is)
one_goal all line (Keep keep) is facts = absurd (false≢true is)
one_goal all line (Aggregate goal) is facts = (
  refl,
  λ g e.
      let same : g ≡ resolved_goal (environment all) goal = cc in
      subst (IsGoalWithin (length (measures_of all))) (sym same) (goal_of_line all line goal facts),
)

module _ (all : List PartTree) (sound : IsSound all) where
  pub the_columns : IsOnly (Facts all) singles.Columns column_items all
  the_columns = the_only singles.Columns column_items no_columns_else
      (Facts all) [] all sound.once sound.facts sound.has_columns

  pub the_shape : IsOnly (Facts all) singles.Generate shapes_of all
  the_shape = the_only singles.Generate shapes_of no_shapes_else
      (Facts all) [] all sound.once sound.facts sound.has_generate

  pub the_goal : IsOnly (Facts all) singles.Aggregate (goals_of (environment all)) all
  the_goal = the_only singles.Aggregate (goals_of (environment all)) (no_goals_else all)
      (Facts all) [] all sound.once sound.facts sound.has_aggregate

  pub few_columns : column_count all ≤ COLUMN_LIMIT
  few_columns =
      let few = few_items all the_columns.line.line the_columns.line.kind the_columns.is the_columns.fits in
      let e = ap (λ (xs : List _). length xs) the_columns.only in omega (arith, few, e)

  pub labels_there : list_any (is_single singles.Labels) all ≡ true
      → (1 ≤ label_count all) × (label_count all ≤ LABEL_LIMIT)
  labels_there there =
      let only = the_only singles.Labels label_names no_labels_else (Facts all) [] all sound.once sound.facts there in
      let some = some_labels all only.line.line only.line.kind only.is only.fits in
      let e = ap (λ (xs : List _). length xs) only.only in
      (omega (arith, some.0, e), omega (arith, some.1, e))

  pub no_labels : list_any (is_single singles.Labels) all ≡ false → label_count all ≡ 0
  no_labels there = ap (λ (xs : List (List ℕ)). length xs)
      (none_there singles.Labels label_names no_labels_else all there)

  pub few_labels : label_count all ≤ LABEL_LIMIT
  few_labels =
      elim (cases_Bool (list_any (is_single singles.Labels) all)) [
        | inl h ↦ (labels_there h).1
        | inr h ↦ (let e = no_labels h in omega (arith, e))
      ]

  pub has_few_names : HasFewNames all
  has_few_names = record {
    columns = few_columns;
    labels = few_labels;
    measures = few_measure_names all sound.kept;
    automata = few_automata all sound.kept;
    each_automaton = automata_ready all all sound.facts;
    tests = few_test_names all sound.kept;
  }

  pub one_shape_there : length (flat_map (λ (part : PartTree). shapes_of part.kind) all) ≡ 1
  one_shape_there = ap (λ (xs : List Shape). length xs) the_shape.only ∙ one_shape the_shape.line.kind the_shape.is

  pub one_goal_there : length (flat_map (λ (part : PartTree). goals_of (environment all) part.kind) all) ≡ 1
  one_goal_there = ap (λ (xs : List Goal). length xs) the_goal.only
      ∙ (one_goal all the_goal.line.line the_goal.line.kind the_goal.is the_goal.fits).0

  goal_within : (goal : Goal) → goal ∷ [] ≡ flat_map (λ (part : PartTree). goals_of (environment all) part.kind) all
      → IsGoalWithin (length (measures_of all)) goal
  goal_within goal e =
      (one_goal all the_goal.line.line the_goal.line.kind the_goal.is the_goal.fits).1 goal (e ∙ the_goal.only)

-- assignments have labels, and nothing else has
abbrev is_assign_shape : Shape → Bool
is_assign_shape Assign = true
is_assign_shape _ = false

assign_of_shapes : (kind : KindTree) → is_assign kind ≡ list_any is_assign_shape (shapes_of kind)
assign_of_shapes (Columns items) = refl
assign_of_shapes (Labels xs) = refl
assign_of_shapes (Measure part) = refl
assign_of_shapes (Table part) = refl
assign_of_shapes (Times part) = refl
assign_of_shapes (Automaton part) = refl
assign_of_shapes (Step part) = refl
assign_of_shapes (Generate Sublists) = refl
assign_of_shapes (Generate Assign) = refl
assign_of_shapes (Generate Prefixes) = refl
assign_of_shapes (Generate Suffixes) = refl
assign_of_shapes (Generate Segments) = refl
assign_of_shapes (Test test) = refl
assign_of_shapes (Named name test) = refl
assign_of_shapes (Keep keep) = refl
assign_of_shapes (Aggregate goal) = refl

any_assign : (parts : List PartTree) → list_any (λ (part : PartTree). is_assign part.kind) parts
    ≡ list_any is_assign_shape (flat_map (λ (part : PartTree). shapes_of part.kind) parts)
any_assign [] = refl
any_assign (part ∷ parts) =
    ap (λ (b : Bool). b || list_any (λ (part : PartTree). is_assign part.kind) parts) (assign_of_shapes part.kind)
    ∙ ap (λ (b : Bool). list_any is_assign_shape (shapes_of part.kind) || b) (any_assign parts)
    ∙ sym (list_any-append is_assign_shape (shapes_of part.kind)
    (flat_map (λ (part : PartTree). shapes_of part.kind) parts))

same_there : (a b : Option ℕ) → labels_assign_of a b ≡ None → is_some a ≡ is_some b
same_there None None e = refl
same_there (Some x) (Some y) e = refl
same_there (Some x) None e = absurd (none-some _ (sym e))
same_there None (Some y) e = absurd (none-some _ (sym e))

assign_labels : (parts : List PartTree) → labels_assign parts ≡ None
    → list_any (λ (part : PartTree). is_assign part.kind) parts ≡ list_any (is_single singles.Labels) parts
assign_labels parts e =
    sym (is_some-mapped_find (λ (part : PartTree). part.line) (λ (part : PartTree). is_assign part.kind) parts)
    ∙ same_there (first_line (λ line. is_assign line.kind) parts) (first_line (is_single singles.Labels) parts) e
    ∙ is_some-mapped_find (λ (part : PartTree). part.line) (is_single singles.Labels) parts

is_the_assign : (shape : Shape) → (is_assign_shape shape || false) ≡ true → shape ≡ Assign
is_the_assign Sublists e = absurd (false≢true e)
is_the_assign Assign e = refl
is_the_assign Prefixes e = absurd (false≢true e)
is_the_assign Suffixes e = absurd (false≢true e)
is_the_assign Segments e = absurd (false≢true e)

assigned_labels : (all : List PartTree) → IsSound all → (shape : Shape)
    → shape ∷ [] ≡ flat_map (λ (part : PartTree). shapes_of part.kind) all → (shape ≡ Assign) ↔ (1 ≤ label_count all)
assigned_labels all sound shape only =
    let same : (is_assign_shape shape || false) ≡ list_any (is_single singles.Labels) all =
    ap (list_any is_assign_shape) only ∙ sym (any_assign all) ∙ assign_labels all sound.assigned in (
      (λ e. (labels_there all sound (sym same ∙ ap (λ (s : Shape). is_assign_shape s || false) e)).0),
      (λ some. elim (cases_Bool (list_any (is_single singles.Labels) all)) [
        | inl h ↦ is_the_assign shape (same ∙ h)
        | inr h ↦ (let none = no_labels all sound h in absurd (omega (arith, none, some)))
      ]),
    )

pub within_limits : (spec : SpecTree) → IsWellFormed spec → IsSound spec.parts → (checked : PlainChecked)
    → IsResolved spec checked → All IsTableWithin checked.tables → All IsAutomatonWithin checked.automata
    → IsWithinLimits checked
within_limits spec well sound checked resolved tables automata =
    let all = spec.parts in
    let m = measures_length all in
    let few_declared = few_measure_names all sound.kept in
    let columns = length-map (flat_map (λ (part : PartTree). column_items part.kind) all) (λ item. item.name) in
    record {
      version = rw resolved.version well.version;
      few_columns = rw resolved.columns (few_columns all sound);
      few_labels = rw resolved.labels (few_labels all sound);
      assigned = rw resolved.labels (assigned_labels all sound checked.shape resolved.shape);
      few_measures = rw (resolved.columns, resolved.measures) (omega (arith, m, few_declared, columns));
      measures = rw (resolved.columns, resolved.labels, resolved.measures) (all_measures all sound.facts);
      few_tables = (let few = few_tables all sound.kept in
          let count = length-map (tables_in all) (named_table all) in rw resolved.tables (omega (arith, few, count)));
      tables = tables;
      few_automata = (let few = few_automata all sound.kept in
          let count = length-map (automata_in all) (automaton_of all) in
          rw resolved.automata (omega (arith, few, count)));
      automata = automata;
      few_tests = rw resolved.tests (few_tests all sound.kept);
      tests = rw (
        resolved.columns,
        resolved.labels,
        resolved.measures,
        resolved.tables,
        resolved.automata,
        resolved.tests,
      )
          (all_tests all sound.facts);
      each_named = rw (resolved.named, resolved.tests) (named_length all);
      keep = rw (resolved.keep, resolved.tests, tests_length all) (keep_declared all sound.facts);
      goal = rw resolved.measures (goal_within all sound checked.goal resolved.goal);
    }

-- each line is ready to be resolved
factor_ready : (version : ℕ) (number : Option ℕ) (name : Option (List ℕ)) → FitsQuantity version number name
    → factor_of number ≤ NUMBER_BOUND
factor_ready version None None fits = absurd fits
factor_ready version None (Some x) fits = omega arith
factor_ready version (Some n) None fits = fits
factor_ready version (Some n) (Some x) fits = fits.0

terms_ready : (version : ℕ) (form : List TermPart) → EachFits (FitsTerm version) form → EachFits IsFactorReady form
terms_ready version [] fits = tt
terms_ready version (term ∷ form) fits =
    (factor_ready version term.number term.name fits.0, terms_ready version form fits.1)

cases_ready : (version : ℕ) (cases : List CaseTree) → EachFits (FitsCase version) cases → EachFits IsCaseReady cases
cases_ready version [] fits = tt
cases_ready version (case ∷ cases) fits =
    (terms_ready version case.form fits.0.0.1, cases_ready version cases fits.1)

line_ready : (version : ℕ) (kind : KindTree) → FitsKind version kind → AreCasesReady kind
line_ready version (Columns items) fits = tt
line_ready version (Labels xs) fits = tt
line_ready version (Measure part) fits = cases_ready version part.cases fits.1.1
line_ready version (Table part) fits = tt
line_ready version (Times part) fits = tt
line_ready version (Automaton part) fits = tt
line_ready version (Step part) fits = tt
line_ready version (Generate shape) fits = tt
line_ready version (Test test) fits = tt
line_ready version (Named name test) fits = tt
line_ready version (Keep keep) fits = tt
line_ready version (Aggregate goal) fits = tt

pub all_ready : (all : List PartTree) (parts : List Part) → EachFits (Facts all) (map part_tree parts)
    → EachFits IsReady (map (λ (part : Part). kind_tree part.kind) parts)
all_ready all [] facts = tt
all_ready all (part ∷ parts) facts = (
  record {
    cases = line_ready facts.0.version (kind_tree part.kind) facts.0.fits;
    kept = facts.0.kept limits.Kept;
  },
  all_ready all parts facts.1,
)

-- lines that the grammar can give ascend
pub ascending : (version low : ℕ) (parts : List PartTree) → FitParts version low parts → Ascend low parts
ascending version low [] fits = tt
ascending version low (part ∷ parts) fits = (fits.0, ascending version (part.line + 1) parts fits.2)

pub the_one : {A : Type 0} (xs : List A) (x : A) → length xs ≡ 1 → x ≡ get_or xs 0 x → x ∷ [] ≡ xs
the_one [] x len is = absurd (omega (arith, len))
the_one (y ∷ []) x len is = ap (λ (z : _). z ∷ []) is
the_one (y ∷ z ∷ xs) x len is = absurd (omega (arith, len))
