-- The specifications that the grammar can give.
use Rattle.std.specs.Prelude.{◌≡◌, ℕ, ◌+◌, ◌<◌, ◌≤◌, true, false, List, [], ◌∷◌, length, ℤ, nat_abs, Option, Some, None}
use Rattle.std.specs.List.{list_all}
use Rattle.gta_text.specs.declared.numbers.TheConstants.{NUMBER_BOUND}
use Rattle.gta_text.specs.Names.{is_name_text}
use Rattle.gta_text.specs.Tokens.{is_text_byte}
use Rattle.gta_spec.specs.declared.parts.ColumnItem.{ColumnItem}
use Rattle.gta_spec.specs.declared.parts.TermPart.{TermPart}
use Rattle.gta_spec.specs.declared.parts.AtomPart.{AtomPart}
use Rattle.gta_spec.specs.declared.parts.AtomPart.TheVariants.{Label, Column}
use Rattle.gta_spec.specs.declared.parts.Check.{Check}
use Rattle.gta_spec.specs.declared.parts.Check.TheVariants.{Compare, Mod}
use Rattle.gta_spec.specs.declared.parts.GoalPart.{GoalPart}
use Rattle.gta_spec.specs.declared.parts.GoalPart.TheVariants.{Count, Any, Max, Min, Best, Ranked}
use Rattle.gta_spec.specs.declared.parts.RankPart.{RankPart}
use Rattle.gta_spec.specs.declared.limits.TheConstants.{KEPT_NAME_LIMIT, NESTING_LIMIT, RANK_LIMIT}
use Rattle.gta_spec.specs.Parts.{CaseTree, PickTree, TestTree, Sum, Length, Fold, Run, KindTree, Columns, Labels}
use Rattle.gta_spec.specs.Parts.{Measure, Table, Times, Automaton, Step, Generate, Test, Named, Keep, Aggregate}
use Rattle.gta_spec.specs.Parts.{PartTree, SpecTree}
use Rattle.gta_spec.specs.Versions.{is_version, is_later}
use Rattle.gta_spec.specs.Keep.{KeepTree, kept_tests, nesting, Whole}

-- a word that the version doesn't reserve
abbrev pub FitsName : ℕ → List ℕ → Type 0
FitsName version x = (is_name_text x ≡ true) × (is_later version x ≡ false)

-- what may stand between quotes
abbrev pub FitsHeader : List ℕ → Type 0
FitsHeader text = list_all is_text_byte text ≡ true

abbrev pub FitsDigits : ℕ → Type 0
FitsDigits n = n ≤ NUMBER_BOUND

abbrev pub FitsNum : ℤ → Type 0
FitsNum z = nat_abs z ≤ NUMBER_BOUND

abbrev pub EachFits : {A : Type 0} → (A → Type 0) → List A → Type 0
EachFits Fits [] = Unit {0}
EachFits Fits (x ∷ xs) = Fits x × EachFits Fits xs

-- one or more, each of which fits
abbrev pub SomeFit : {A : Type 0} → (A → Type 0) → List A → Type 0
SomeFit Fits xs = (0 < length xs) × EachFits Fits xs

abbrev pub FitsIf : {A : Type 0} → (A → Type 0) → Option A → Type 0
FitsIf Fits None = Unit {0}
FitsIf Fits (Some x) = Fits x

abbrev pub FitsItem : ℕ → ColumnItem → Type 0
FitsItem version item = FitsName version item.name × FitsIf FitsHeader item.header

abbrev pub FitsAtom : ℕ → AtomPart → Type 0
FitsAtom version (Label x) = FitsName version x
FitsAtom version (Column x c z) = FitsName version x × FitsNum z

-- a number, a name or both
abbrev pub FitsQuantity : ℕ → Option ℕ → Option (List ℕ) → Type 0
FitsQuantity version None None = ⊥
FitsQuantity version None (Some x) = FitsName version x
FitsQuantity version (Some n) None = FitsDigits n
FitsQuantity version (Some n) (Some x) = FitsDigits n × FitsName version x

abbrev pub FitsTerm : ℕ → TermPart → Type 0
FitsTerm version term = FitsQuantity version term.number term.name

abbrev pub FitsCase : ℕ → CaseTree → Type 0
FitsCase version case = SomeFit (FitsTerm version) case.form × EachFits (FitsAtom version) case.cond

abbrev pub FitsPick : ℕ → PickTree → Type 0
FitsPick version pick = FitsName version pick.element × EachFits (FitsAtom version) pick.cond

abbrev pub FitsCheck : Check → Type 0
FitsCheck (Compare c z) = FitsNum z
FitsCheck (Mod m r) = FitsDigits m × FitsDigits r

abbrev pub FitsTest : ℕ → TestTree → Type 0
FitsTest version (Sum x check) = FitsName version x × FitsCheck check
FitsTest version (Length check) = FitsCheck check
FitsTest version (Fold table picks accept) =
    FitsName version table × SomeFit (FitsPick version) picks × SomeFit (FitsName version) accept
FitsTest version (Run automaton picks accept) =
    (3 ≤ version) × FitsName version automaton × SomeFit (FitsPick version) picks × SomeFit (FitsName version) accept

-- the expression of a line: so many names, and so many `not` and parentheses of its canonical text around one
pub record FitsKeep (version : ℕ) (keep : KeepTree (List ℕ)) : Type 0 where
  pub later : 2 ≤ version
  pub names : EachFits (FitsName version) (kept_tests keep)
  pub few : length (kept_tests keep) ≤ KEPT_NAME_LIMIT
  pub flat : nesting Whole keep ≤ NESTING_LIMIT

abbrev pub FitsRank : ℕ → RankPart → Type 0
FitsRank version rank = FitsName version rank.name

-- two or three ranks
pub record FitRanks (version : ℕ) (keys : List RankPart) : Type 0 where
  pub later : 2 ≤ version
  pub names : EachFits (FitsRank version) keys
  pub several : 2 ≤ length keys
  pub few : length keys ≤ RANK_LIMIT

abbrev pub FitsGoal : ℕ → GoalPart → Type 0
FitsGoal version Count = Unit {0}
FitsGoal version Any = Unit {0}
FitsGoal version (Max x) = FitsName version x
FitsGoal version (Min x) = FitsName version x
FitsGoal version (Best k greatest x) = FitsDigits k × FitsName version x
FitsGoal version (Ranked k keys) = FitsIf FitsDigits k × FitRanks version keys

abbrev pub FitsKind : ℕ → KindTree → Type 0
FitsKind version (Columns items) = SomeFit (FitsItem version) items
FitsKind version (Labels names) = SomeFit (FitsName version) names
FitsKind version (Measure part) = FitsName version part.name × SomeFit (FitsCase version) part.cases
FitsKind version (Table part) =
    FitsName version part.name × FitsName version part.unit × SomeFit (FitsName version) part.elements
FitsKind version (Times part) =
    FitsName version part.table × FitsName version part.element × SomeFit (FitsName version) part.products
FitsKind version (Automaton part) =
    (3 ≤ version) × FitsName version part.name × SomeFit (FitsName version) part.states
    × FitsName version part.start × SomeFit (FitsName version) part.letters
FitsKind version (Step part) =
    (3 ≤ version) × FitsName version part.automaton × FitsName version part.letter
    × SomeFit (FitsName version) part.targets
FitsKind version (Generate shape) = Unit {0}
FitsKind version (Test test) = FitsTest version test
FitsKind version (Named name test) = (2 ≤ version) × FitsName version name × FitsTest version test
FitsKind version (Keep keep) = FitsKeep version keep
FitsKind version (Aggregate goal) = FitsGoal version goal

-- parts on ascending lines, the first not before line `low`
abbrev pub FitParts : ℕ → ℕ → List PartTree → Type 0
FitParts version low [] = Unit {0}
FitParts version low (part ∷ parts) =
    (low ≤ part.line) × FitsKind version part.kind × FitParts version (part.line + 1) parts

pub record IsWellFormed (spec : SpecTree) : Type 0 where
  pub version : is_version spec.version ≡ true
  pub parts : FitParts spec.version 0 spec.parts
