-- The bytes of answers and of refusals.
use Rattle.std.specs.Prelude.{ℕ, ◌+◌, ◌<◌, ℤ, List, [], ◌∷◌, ◌++◌, length, slice_index_or, codes, nat_lt}
use Rattle.std.specs.Prelude.{Bool, true, false, ◌==◌, if◌then◌else◌, Option, Some, None}
use Rattle.std.specs.Fmt.{decimal, signed_decimal}
use Rattle.std.specs.List.{All}
use Rattle.shape_gen.specs.declared.mark.Mark.{Mark}
use Rattle.best_k.specs.declared.entry.Entry.{Entry}
use Rattle.semiring_kit.specs.declared.weight.Lex.{Lex}
use Rattle.report_text.specs.declared.answer.TheConstants.{COUNT_CAP}
use Rattle.report_text.specs.declared.answer.Answer.{Answer}
use Rattle.report_text.specs.declared.answer.Answer.TheVariants.{Count, Any, Total, Best, Totals, RankedBest}
use Rattle.report_text.specs.declared.refusal.Refusal.{Refusal}
use Rattle.report_text.specs.declared.refusal.Refusal.TheVariants.{Byte, Version, Grammar}
use Rattle.report_text.specs.declared.refusal.Refusal.TheVariants.{Number, NoRows}
use Rattle.report_text.specs.declared.refusal.Refusal.TheVariants.{Unknown, Twice, Missing}
use Rattle.report_text.specs.declared.refusal.Refusal.TheVariants.{SecondPart, LabelsAssign, Limit}
use Rattle.report_text.specs.declared.refusal.Refusal.TheVariants.{UnitFails, NotAssociative}
use Rattle.report_text.specs.declared.refusal.Refusal.TheVariants.{NotSquare, Automaton, NoHeader}
use Rattle.report_text.specs.declared.refusal.Refusal.TheVariants.{ColumnMissing, ColumnTwice}
use Rattle.report_text.specs.declared.refusal.Refusal.TheVariants.{Length, Field, TooMany}
use Rattle.report_text.specs.declared.refusal.Refusal.TheVariants.{Negative, Heavy, Keys}
use Rattle.report_text.specs.declared.refusal.Refusal.TheVariants.{Size, ListSize, Input}

-- what follows a count: at the cap it stands for more, too
abbrev pub cap_text : ℕ → List ℕ
cap_text n = if n == COUNT_CAP then codes " or more" else []

-- the name of a label, where there are labels
abbrev pub label_text : List (List ℕ) → ℕ → List ℕ
label_text [] label = []
label_text (name ∷ names) label = codes ":" ++ slice_index_or (name ∷ names) label []

-- a mark: its row, printed from 1, and its label
abbrev pub mark_text : List (List ℕ) → Mark → List ℕ
mark_text labels mark = decimal (mark.row + 1) ++ label_text labels mark.label

-- marks, each behind a space
abbrev pub more_marks_text : List (List ℕ) → List Mark → List ℕ
more_marks_text labels [] = []
more_marks_text labels (mark ∷ marks) =
    codes " " ++ (mark_text labels mark ++ more_marks_text labels marks)

-- the marks of a candidate, with a space between them
abbrev pub candidate_text : List (List ℕ) → List Mark → List ℕ
candidate_text labels [] = codes "-"
candidate_text labels (mark ∷ marks) = mark_text labels mark ++ more_marks_text labels marks

-- two totals, and the third where there are more parts

abbrev pub third_text : ℕ → ℤ → List ℕ
third_text parts total = if nat_lt 2 parts then codes " " ++ signed_decimal total else []

abbrev pub totals_text : ℕ → Lex → List ℕ
totals_text parts totals =
    signed_decimal totals.first ++ (codes " " ++ (signed_decimal totals.second ++ third_text parts totals.third))

-- the line of a candidate at its place, behind the text of its total
abbrev pub entry_text : List (List ℕ) → ℕ → List ℕ → List Mark → List ℕ
entry_text labels place total marks =
    decimal place ++ (codes " " ++ (total ++ (codes " " ++ (candidate_text labels marks ++ codes "\n"))))

-- the lines of entries, from a place on
abbrev pub entries_text : {W : Type 0} → (W → List ℕ) → List (List ℕ) → ℕ → List (Entry W) → List ℕ
entries_text total_text labels place [] = []
entries_text total_text labels place (entry ∷ entries) =
    entry_text labels place (total_text entry.total) entry.witness
    ++ entries_text total_text labels (place + 1) entries

-- the number of entries, and the entries from place 1 on
abbrev pub best_text : {W : Type 0} → (W → List ℕ) → List (List ℕ) → List (Entry W) → List ℕ
best_text total_text labels entries =
    codes "answer " ++ (decimal (length entries) ++ (codes "\n" ++ entries_text total_text labels 1 entries))

-- the report of an answer, with the names of the labels, or none where there are no labels
abbrev pub report_text : Answer → List (List ℕ) → List ℕ
report_text (Count n) labels = codes "answer " ++ (decimal n ++ (cap_text n ++ codes "\n"))
report_text (Any true) labels = codes "answer yes\n"
report_text (Any false) labels = codes "answer no\n"
report_text (Total (Some total)) labels = codes "answer " ++ (signed_decimal total ++ codes "\n")
report_text (Total None) labels = codes "answer none\n"
report_text (Best entries) labels = best_text signed_decimal labels entries
report_text (Totals parts (Some totals)) labels = codes "answer " ++ (totals_text parts totals ++ codes "\n")
report_text (Totals parts None) labels = codes "answer none\n"
report_text (RankedBest parts entries) labels = best_text (totals_text parts) labels entries

-- a candidate on a line of its own
abbrev pub candidate_line : List (List ℕ) → List Mark → List ℕ
candidate_line labels marks = candidate_text labels marks ++ codes "\n"

-- the lines of candidates
abbrev pub candidate_lines : List (List ℕ) → List (List Mark) → List ℕ
candidate_lines labels [] = []
candidate_lines labels (marks ∷ more) = candidate_line labels marks ++ candidate_lines labels more

-- the number of candidates that are kept, and the candidates
abbrev pub list_text : List (List ℕ) → List (List Mark) → List ℕ
list_text labels candidates =
    codes "kept " ++ (decimal (length candidates) ++ (codes "\n" ++ candidate_lines labels candidates))

-- where there are labels, each mark has one of them
abbrev pub AreLabelled : List (List ℕ) → List Mark → Type 0
AreLabelled labels marks = 0 < length labels → All (λ mark. mark.label < length labels) marks

-- the marks of a best answer have their labels
abbrev pub IsLabelled : Answer → List (List ℕ) → Type 0
IsLabelled (Count n) labels = Unit {0}
IsLabelled (Any found) labels = Unit {0}
IsLabelled (Total total) labels = Unit {0}
IsLabelled (Best entries) labels = All (λ entry. AreLabelled labels entry.witness) entries
IsLabelled (Totals parts totals) labels = Unit {0}
IsLabelled (RankedBest parts entries) labels = All (λ entry. AreLabelled labels entry.witness) entries

-- the line of a refusal, by its number and its text
unfoldable pub refused : ℕ → List ℕ → List ℕ
refused number text = codes "refused " ++ (decimal number ++ (codes ": " ++ (text ++ codes "\n")))

-- a text about a line of the specification; lines count from 1
unfoldable pub at_line : ℕ → List ℕ → List ℕ
at_line line text = codes "line " ++ (decimal line ++ (codes ": " ++ text))

-- a text about a row; rows count from 0 and are printed from 1
unfoldable pub at_row : ℕ → List ℕ → List ℕ
at_row row text = codes "row " ++ (decimal (row + 1) ++ text)

-- a text about a test; tests count from 0 and are printed from 1
unfoldable pub at_test : ℕ → List ℕ → List ℕ
at_test test text = codes "test " ++ (decimal (test + 1) ++ (codes ", " ++ text))

-- a text about a table, an automaton or a column, by its name
unfoldable pub of_table : List ℕ → List ℕ → List ℕ
of_table table text = codes "table " ++ (table ++ text)

unfoldable pub of_automaton : List ℕ → List ℕ → List ℕ
of_automaton automaton text = codes "automaton " ++ (automaton ++ text)

unfoldable pub of_column : List ℕ → List ℕ → List ℕ
of_column column text = codes "column " ++ (column ++ text)

-- a value that is to be negative nowhere
unfoldable pub value_text : ℤ → List ℕ
value_text value = codes ": value " ++ (signed_decimal value ++ codes " is negative")

-- a text behind the row's label, where it has one
unfoldable pub labelled : Option (List ℕ) → List ℕ → List ℕ
labelled None text = text
labelled (Some label) text = codes ", label " ++ (label ++ text)

-- three elements of a table
unfoldable pub triple_text : List ℕ → List ℕ → List ℕ → List ℕ
triple_text a b c = a ++ (codes " " ++ (b ++ (codes " " ++ c)))

-- the side of the element that the unit stands on
abbrev pub side_text : Bool → List ℕ
side_text true = codes ", left"
side_text false = codes ", right"

-- a letter on which an automaton isn't total, or the number of its functions
unfoldable pub automaton_text : Option (List ℕ) → List ℕ
automaton_text (Some letter) = codes ": not total at " ++ letter
automaton_text None = codes ": more than 64 elements"

-- the line of each refusal
abbrev pub fault_text : Refusal → List ℕ
fault_text (Byte line place) =
    refused 10 (codes "line " ++ (decimal line ++ (codes ", byte " ++ (decimal place
    ++ codes ": not printable ASCII"))))
fault_text (Version line) = refused 11 (at_line line (codes "not a known gta version"))
fault_text (Grammar line) = refused 12 (at_line line (codes "not in the grammar"))
fault_text (Number line) = refused 13 (at_line line (codes "number past 4611686018427387903"))
fault_text NoRows = refused 14 (codes "no line rows")
fault_text (Unknown line name) = refused 20 (at_line line (codes "unknown name " ++ name))
fault_text (Twice line name) =
    refused 21 (at_line line (codes "name " ++ (name ++ codes " declared twice")))
fault_text (Missing part) = refused 22 (codes "no part " ++ part)
fault_text (SecondPart line part) = refused 23 (at_line line (codes "second part " ++ part))
fault_text (LabelsAssign line true) = refused 24 (at_line line (codes "assign without labels"))
fault_text (LabelsAssign line false) = refused 24 (at_line line (codes "labels without assign"))
fault_text (Limit line limit) = refused 25 (at_line line (codes "limit " ++ limit))
fault_text (UnitFails table element left) =
    refused 26 (of_table table (codes ": unit fails at " ++ (element ++ side_text left)))
fault_text (NotAssociative table a b c) =
    refused 27 (of_table table (codes ": not associative at " ++ triple_text a b c))
fault_text (NotSquare table element) =
    refused 28 (of_table table (codes ": not square at " ++ element))
fault_text (Automaton name letter) = refused 29 (of_automaton name (automaton_text letter))
fault_text NoHeader = refused 31 (codes "no header")
fault_text (ColumnMissing column) = refused 32 (of_column column (codes " missing"))
fault_text (ColumnTwice column) = refused 33 (of_column column (codes " twice"))
fault_text (Length row fields header) =
    refused 34 (at_row row (codes ": " ++ (decimal fields
    ++ (codes " fields, header has " ++ decimal header))))
fault_text (Field row column) =
    refused 35 (at_row row (codes ", column " ++ (column
    ++ codes ": not a whole number within 4611686018427387903")))
fault_text (TooMany limit) = refused 36 (codes "more than " ++ (decimal limit ++ codes " rows"))
fault_text (Negative test row label value) =
    refused 40 (at_test test (at_row row (labelled label (value_text value))))
fault_text (Heavy row) = refused 41 (at_row row (codes ": weight total past 4611686018427387903"))
fault_text (Keys keys) = refused 42 (decimal keys ++ codes " keys past 8192")
fault_text (Size size) = refused 43 (codes "size " ++ (decimal size ++ codes " past 67108864"))
fault_text ListSize = refused 44 (codes "too many candidates to list")
fault_text (Input limit) = refused 45 (codes "input past " ++ (decimal limit ++ codes " bytes"))
