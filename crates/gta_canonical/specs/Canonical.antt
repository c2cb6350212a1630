-- The canonical text of a specification: its symbols with one space between them,
-- but none where one is glued to the one before.
use Rattle.std.specs.Prelude.{ℕ, suc, ◌+◌, Bool, true, false, ◌||◌, List, [], ◌∷◌, ◌++◌, flat_map, ℤ, pos, negsuc}
use Rattle.std.specs.Prelude.{Option, Some, None, codes, if◌then◌else◌, decimal}
use Rattle.shape_gen.specs.declared.shape.Shape.{Shape}
use Rattle.shape_gen.specs.declared.shape.Shape.TheVariants as shapes
use Rattle.gta_spec.specs.declared.parts.ColumnItem.{ColumnItem}
use Rattle.gta_spec.specs.declared.parts.TermPart.{TermPart}
use Rattle.gta_spec.specs.declared.parts.AtomPart.{AtomPart}
use Rattle.gta_spec.specs.declared.parts.AtomPart.TheVariants.{Label, Column}
use Rattle.gta_spec.specs.declared.parts.Cmp.{Cmp}
use Rattle.gta_spec.specs.declared.parts.Cmp.TheVariants.{AtMost, AtLeast, Equal}
use Rattle.gta_spec.specs.declared.parts.Check.{Check}
use Rattle.gta_spec.specs.declared.parts.Check.TheVariants.{Compare, Mod}
use Rattle.gta_spec.specs.declared.parts.GoalPart.{GoalPart}
use Rattle.gta_spec.specs.declared.parts.GoalPart.TheVariants.{Count, Any, Max, Min, Best, Ranked}
use Rattle.gta_spec.specs.declared.parts.RankPart.{RankPart}
use Rattle.gta_spec.specs.Parts.{CaseTree, PickTree, TestTree, Sum, Length, Fold, Run, KindTree, Columns, Labels}
use Rattle.gta_spec.specs.Parts.{Measure, Table, Times, Automaton, Step, Generate, Test, Named, Keep, Aggregate}
use Rattle.gta_spec.specs.Parts.{PartTree, SpecTree}
use Rattle.gta_spec.specs.Keep as keeps
use Rattle.gta_spec.specs.Keep.{KeepTree, Place, Whole, Conjunct, Operand, encloses_both, encloses_either}
use Rattle.gta_spec.specs.Symbols.{Symbol, Word, Later, Digits, Text, Sign, Stray}

-- a symbol, and whether no space stands before it
pub record Piece : Type 0 where
  pub symbol : Symbol
  pub glued : Bool

abbrev pub spaced : Symbol → Piece
spaced symbol = record { symbol = symbol; glued = false }

abbrev pub glued : Symbol → Piece
glued symbol = record { symbol = symbol; glued = true }

abbrev pub symbol_text : Symbol → List ℕ
symbol_text (Word x) = x
symbol_text (Later x) = x
symbol_text (Digits n) = decimal n
symbol_text (Text x) = 34 ∷ (x ++ 34 ∷ [])
symbol_text (Sign s) = s
symbol_text Stray = []

abbrev pub piece_text : Piece → List ℕ
piece_text piece = (if piece.glued then [] else 32 ∷ []) ++ symbol_text piece.symbol

abbrev pub line_text : List Piece → List ℕ
line_text pieces = flat_map piece_text pieces

-- what stands in front of the rest, for each item in turn
abbrev pub fronts : {A : Type 0} → (A → List Piece → List Piece) → List A → List Piece → List Piece
fronts front [] rest = rest
fronts front (x ∷ xs) rest = front x (fronts front xs rest)

abbrev pub name_front : List ℕ → List Piece → List Piece
name_front x rest = spaced (Word x) ∷ rest

abbrev pub names_front : List (List ℕ) → List Piece → List Piece
names_front = fronts name_front

abbrev pub num_front : ℤ → List Piece → List Piece
num_front (pos n) rest = spaced (Digits n) ∷ rest
num_front (negsuc n) rest = spaced (Sign (codes "-")) ∷ glued (Digits (suc n)) ∷ rest

abbrev pub header_front : Option (List ℕ) → List Piece → List Piece
header_front None rest = rest
header_front (Some text) rest = glued (Sign (codes "=")) ∷ glued (Text text) ∷ rest

abbrev pub item_front : ColumnItem → List Piece → List Piece
item_front item rest = spaced (Word item.name) ∷ header_front item.header rest

abbrev pub cmp_text : Cmp → List ℕ
cmp_text AtMost = codes "<="
cmp_text AtLeast = codes ">="
cmp_text Equal = codes "="

abbrev pub atom_front : AtomPart → List Piece → List Piece
atom_front (Label x) rest = spaced (Word (codes "label")) ∷ spaced (Word x) ∷ rest
atom_front (Column x c z) rest = spaced (Word x) ∷ spaced (Sign (cmp_text c)) ∷ num_front z rest

abbrev pub and_front : AtomPart → List Piece → List Piece
and_front x rest = spaced (Word (codes "and")) ∷ atom_front x rest

abbrev pub if_front : List AtomPart → List Piece → List Piece
if_front [] rest = rest
if_front (x ∷ xs) rest = spaced (Word (codes "if")) ∷ atom_front x (fronts and_front xs rest)

-- a number, a name, or a number times a name; glued to what stands before, or not
abbrev pub quantity_front : Bool → Option ℕ → Option (List ℕ) → List Piece → List Piece
quantity_front is_glued None None rest = rest
quantity_front is_glued None (Some x) rest = record { symbol = Word x; glued = is_glued } ∷ rest
quantity_front is_glued (Some n) None rest = record { symbol = Digits n; glued = is_glued } ∷ rest
quantity_front is_glued (Some n) (Some x) rest =
    record { symbol = Digits n; glued = is_glued } ∷ glued (Sign (codes "*")) ∷ glued (Word x)
    ∷ rest

-- a leading minus stands right before its term
abbrev pub first_sign_front : Bool → List Piece → List Piece
first_sign_front false rest = rest
first_sign_front true rest = spaced (Sign (codes "-")) ∷ rest

abbrev pub first_term_front : TermPart → List Piece → List Piece
first_term_front term rest =
    first_sign_front term.minus (quantity_front term.minus term.number term.name rest)

abbrev pub sign_between : Bool → List ℕ
sign_between false = codes "+"
sign_between true = codes "-"

abbrev pub next_term_front : TermPart → List Piece → List Piece
next_term_front term rest =
    spaced (Sign (sign_between term.minus)) ∷ quantity_front false term.number term.name rest

abbrev pub form_front : List TermPart → List Piece → List Piece
form_front [] rest = rest
form_front (x ∷ xs) rest = first_term_front x (fronts next_term_front xs rest)

abbrev pub case_front : CaseTree → List Piece → List Piece
case_front case rest = form_front case.form (if_front case.cond rest)

abbrev pub next_case_front : CaseTree → List Piece → List Piece
next_case_front case rest = spaced (Sign (codes ";")) ∷ case_front case rest

abbrev pub cases_front : List CaseTree → List Piece → List Piece
cases_front [] rest = rest
cases_front (x ∷ xs) rest = case_front x (fronts next_case_front xs rest)

abbrev pub pick_front : PickTree → List Piece → List Piece
pick_front pick rest = spaced (Word pick.element) ∷ if_front pick.cond rest

abbrev pub next_pick_front : PickTree → List Piece → List Piece
next_pick_front pick rest = spaced (Sign (codes ";")) ∷ pick_front pick rest

abbrev pub picks_front : List PickTree → List Piece → List Piece
picks_front [] rest = rest
picks_front (x ∷ xs) rest = pick_front x (fronts next_pick_front xs rest)

abbrev pub check_front : Check → List Piece → List Piece
check_front (Compare c z) rest = spaced (Sign (cmp_text c)) ∷ num_front z rest
check_front (Mod m r) rest =
    spaced (Word (codes "mod")) ∷ spaced (Digits m) ∷ spaced (Sign (codes "=")) ∷ spaced (Digits r)
    ∷ rest

abbrev pub test_front : TestTree → List Piece → List Piece
test_front (Sum x check) rest =
    spaced (Word (codes "sum")) ∷ spaced (Word x) ∷ check_front check rest
test_front (Length check) rest = spaced (Word (codes "length")) ∷ check_front check rest
test_front (Fold table picks accept) rest =
    spaced (Word (codes "fold")) ∷ spaced (Word table) ∷ spaced (Word (codes "by"))
    ∷ picks_front picks (spaced (Word (codes "accept")) ∷ names_front accept rest)
test_front (Run automaton picks accept) rest =
    spaced (Later (codes "run")) ∷ spaced (Word automaton) ∷ spaced (Word (codes "by"))
    ∷ picks_front picks (spaced (Word (codes "accept")) ∷ names_front accept rest)

-- the parentheses of an expression that has them
abbrev pub open_front : Bool → Bool → List Piece → List Piece
open_front false is_glued rest = rest
open_front true is_glued rest = record { symbol = Sign (codes "("); glued = is_glued } ∷ rest

abbrev pub close_front : Bool → List Piece → List Piece
close_front false rest = rest
close_front true rest = glued (Sign (codes ")")) ∷ rest

-- an expression that stands at a place; glued to what stands before, or not
abbrev pub keep_front : Place → Bool → KeepTree (List ℕ) → List Piece → List Piece
keep_front place is_glued (keeps.Test x) rest = record { symbol = Word x; glued = is_glued } ∷ rest
keep_front place is_glued (keeps.Not x) rest =
    record { symbol = Later (codes "not"); glued = is_glued } ∷ keep_front Operand false x rest
keep_front place is_glued (keeps.Both x y) rest =
    open_front (encloses_both place) is_glued
    (keep_front Conjunct (encloses_both place || is_glued) x
    (spaced (Word (codes "and")) ∷ keep_front Operand false y (close_front (encloses_both place) rest)))
keep_front place is_glued (keeps.Either x y) rest =
    open_front (encloses_either place) is_glued
    (keep_front Whole (encloses_either place || is_glued) x
    (spaced (Later (codes "or")) ∷ keep_front Conjunct false y (close_front (encloses_either place) rest)))

abbrev pub shape_word : Shape → List ℕ
shape_word shapes.Sublists = codes "sublists"
shape_word shapes.Assign = codes "assign"
shape_word shapes.Prefixes = codes "prefixes"
shape_word shapes.Suffixes = codes "suffixes"
shape_word shapes.Segments = codes "segments"

abbrev pub end_word : Bool → List ℕ
end_word true = codes "max"
end_word false = codes "min"

abbrev pub rank_front : RankPart → List Piece → List Piece
rank_front rank rest = spaced (Word (end_word rank.greatest)) ∷ spaced (Word rank.name) ∷ rest

abbrev pub next_rank_front : RankPart → List Piece → List Piece
next_rank_front rank rest = spaced (Later (codes "then")) ∷ rank_front rank rest

abbrev pub ranks_front : List RankPart → List Piece → List Piece
ranks_front [] rest = rest
ranks_front (x ∷ xs) rest = rank_front x (fronts next_rank_front xs rest)

abbrev pub best_front : Option ℕ → List Piece → List Piece
best_front None rest = rest
best_front (Some k) rest = spaced (Word (codes "best")) ∷ spaced (Digits k) ∷ rest

abbrev pub goal_front : GoalPart → List Piece → List Piece
goal_front Count rest = spaced (Word (codes "count")) ∷ rest
goal_front Any rest = spaced (Word (codes "any")) ∷ rest
goal_front (Max x) rest = spaced (Word (codes "max")) ∷ spaced (Word x) ∷ rest
goal_front (Min x) rest = spaced (Word (codes "min")) ∷ spaced (Word x) ∷ rest
goal_front (Best k greatest x) rest =
    spaced (Word (codes "best")) ∷ spaced (Digits k) ∷ spaced (Word (end_word greatest))
    ∷ spaced (Word x) ∷ rest
goal_front (Ranked k keys) rest = best_front k (ranks_front keys rest)

-- the pieces of a line, the first of which stands at its beginning
abbrev pub kind_front : KindTree → List Piece → List Piece
kind_front (Columns items) rest = glued (Word (codes "columns")) ∷ fronts item_front items rest
kind_front (Labels names) rest = glued (Word (codes "labels")) ∷ names_front names rest
kind_front (Measure part) rest =
    glued (Word (codes "measure")) ∷ spaced (Word part.name) ∷ spaced (Sign (codes "="))
    ∷ cases_front part.cases rest
kind_front (Table part) rest =
    glued (Word (codes "table")) ∷ spaced (Word part.name) ∷ spaced (Word (codes "unit"))
    ∷ spaced (Word part.unit)
    ∷ spaced (Word (codes "elements")) ∷ names_front part.elements rest
kind_front (Times part) rest =
    glued (Word (codes "times")) ∷ spaced (Word part.table) ∷ spaced (Word part.element)
    ∷ spaced (Sign (codes "=")) ∷ names_front part.products rest
kind_front (Automaton part) rest =
    glued (Later (codes "automaton")) ∷ spaced (Word part.name) ∷ spaced (Later (codes "states"))
    ∷ names_front part.states (spaced (Later (codes "start")) ∷ spaced (Word part.start)
    ∷ spaced (Later (codes "letters")) ∷ names_front part.letters rest)
kind_front (Step part) rest =
    glued (Later (codes "step")) ∷ spaced (Word part.automaton) ∷ spaced (Word part.letter)
    ∷ spaced (Sign (codes "=")) ∷ names_front part.targets rest
kind_front (Generate shape) rest =
    glued (Word (codes "generate")) ∷ spaced (Word (shape_word shape)) ∷ rest
kind_front (Test test) rest = glued (Word (codes "test")) ∷ test_front test rest
kind_front (Named name test) rest =
    glued (Word (codes "test")) ∷ spaced (Word name) ∷ spaced (Sign (codes "=")) ∷ test_front test rest
kind_front (Keep keep) rest = glued (Later (codes "keep")) ∷ keep_front Whole false keep rest
kind_front (Aggregate goal) rest = glued (Word (codes "aggregate")) ∷ goal_front goal rest

abbrev pub part_text : PartTree → List ℕ
part_text part = line_text (kind_front part.kind []) ++ 10 ∷ []

-- `gta` and the number of the version
abbrev pub version_text : ℕ → List ℕ
version_text version = codes "gta " ++ decimal version

-- the version, each part on a line, and `rows`
abbrev pub canonical : SpecTree → List ℕ
canonical spec =
    version_text spec.version ++ 10 ∷ (flat_map part_text spec.parts ++ (codes "rows" ++ 10 ∷ []))

-- the same parts, on the lines from this number on
abbrev pub renumbered : ℕ → List PartTree → List PartTree
renumbered line [] = []
renumbered line (part ∷ parts) =
    record { line = line; kind = part.kind } ∷ renumbered (line + 1) parts

-- the specification as its canonical text says it: the first part on line 2
abbrev pub shown_as : SpecTree → SpecTree
shown_as spec = record { version = spec.version; parts = renumbered 2 spec.parts }
