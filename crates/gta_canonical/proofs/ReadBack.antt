-- The canonical text of a well formed specification is that specification, its parts on the lines from the second on.
use Rattle.std.proofs.Common.{◌≡◌, ℕ, zero, suc, ◌+◌, ◌-◌, ◌<◌, Bool, true, false, not, ◌&&◌, ◌||◌, List, [], ◌∷◌}
use Rattle.std.proofs.Common.{◌++◌, length, get_or, refl, sym, ap, ◌∙◌, arith, append_assoc, one-add}
use Rattle.std.proofs.Common.{length-append}
use Rattle.std.proofs.lemmas.Bool.Decides.{nat_tests}
use Rattle.std.proofs.Math.Seq.{take-append_seam}
use Rattle.std.specs.Prelude.{Some, None, Result, Ok, Err, IfOk, nat_lt, ◌==◌, codes, flat_map, slice_index}
use Rattle.std.specs.Prelude.{if◌then◌else◌}
use Rattle.std.specs.Fmt.{digits}
use Rattle.std.specs.List.{list_all, list_any, prefix_len}
use Rattle.std.specs.Str.{bytes_eq}
use Rattle.gta_text.specs.declared.token.TokenKind.{TokenKind}
use Rattle.gta_text.specs.declared.token.TokenKind.TheVariants as kinds
use Rattle.gta_text.specs.declared.token.Token.{Token}
use Rattle.gta_text.specs.Tokens.{tokens_from, token_at}
use Rattle.gta_text.specs.Text.{raw_lines, without_last, content, is_plain, first_bad, is_rows, Numbered, Found}
use Rattle.gta_text.specs.Text.{token_text, BadByte, line_if, with_lines, lines_from, read_lines}
use Rattle.gta_spec.specs.Versions.{is_version, is_later}
use Rattle.gta_spec.specs.Symbols.{Symbol, Word, Later, Digits, Text, Sign, Stray, symbol_of, symbols}
use Rattle.gta_spec.specs.Parts.{KindTree, Columns, Labels, Measure, Table, Times, Automaton, Step, Generate, Test}
use Rattle.gta_spec.specs.Parts.{Named, Keep, Aggregate, PartTree, SpecTree}
use Rattle.gta_spec.specs.Grammar.{IsPart}
use Rattle.gta_spec.specs.SpecText.{version_in, is_past, has_past, AreParts, none, some, SpecText}
use Rattle.gta_spec.specs.WellFormed.{FitsKind, FitParts, IsWellFormed}
use Rattle.gta_canonical.specs.Canonical.{Piece, glued, line_text, kind_front, part_text, version_text, canonical}
use Rattle.gta_canonical.specs.Canonical.{renumbered}
use Rattle.gta_spec.proofs.WellRead.{symbols_at}
use Rattle.gta_canonical.proofs.Lexed.{Writable, AreWritable, lexed, is_print, prints}
use Rattle.gta_canonical.proofs.Spelled.{syms, kind_spelled, kind_writable}

-- a line of printed bytes

print_inside : (b : ℕ) → is_print b ≡ true → (b == 10) ≡ false
print_inside b e = grind (arith, nat_tests)

print_no_return : (b : ℕ) → is_print b ≡ true → (b == 13) ≡ false
print_no_return b e = grind (arith, nat_tests)

print_plain : (b : ℕ) → is_print b ≡ true → is_plain b ≡ true
print_plain b e = grind (arith, nat_tests)

first_prints : (b : ℕ) (bs : List ℕ) → list_all is_print (b ∷ bs) ≡ true → is_print b ≡ true
first_prints b bs all = left (is_print b) (list_all is_print bs) all
  where
    left : (x y : Bool) → (x && y) ≡ true → x ≡ true
    left true y e = refl
    left false y e = absurd cc

other_prints : (b : ℕ) (bs : List ℕ) → list_all is_print (b ∷ bs) ≡ true → list_all is_print bs ≡ true
other_prints b bs all = right (is_print b) (list_all is_print bs) all
  where
    right : (x y : Bool) → (x && y) ≡ true → y ≡ true
    right true y e = e
    right false y e = absurd cc

raw_line : (xs more : List ℕ) → list_all is_print xs ≡ true
    → raw_lines (xs ++ 10 ∷ more) ≡ (xs ++ 10 ∷ []) ∷ raw_lines more
unfolding raw_lines
raw_line [] more all = refl
raw_line (b ∷ bs) more all =
    rw (print_inside b (first_prints b bs all), raw_line bs more (other_prints b bs all)) refl

last_of : (xs : List ℕ) (b : ℕ) → slice_index (xs ++ b ∷ []) (length xs) ≡ b
last_of [] b = refl
last_of (x ∷ xs) b = last_of xs b

push_back : (xs : List ℕ) (b : ℕ) → without_last b (xs ++ b ∷ []) ≡ xs
push_back xs b =
    let len : length (xs ++ b ∷ []) ≡ suc (length xs) = omega (arith, length-append xs (b ∷ [])) in
    let less : suc (length xs) - 1 ≡ length xs = omega arith in
    let some : nat_lt 0 (suc (length xs)) ≡ true = grind (arith, nat_tests) in
    let same : (b == b) ≡ true = grind (arith, nat_tests) in
    rw (len, less, some, last_of xs b, same) (take-append_seam xs (b ∷ []))

print_at : (xs : List ℕ) (k : ℕ) → list_all is_print xs ≡ true → is_print (get_or xs k 32) ≡ true
print_at [] k all = refl
print_at (x ∷ xs) zero all = first_prints x xs all
print_at (x ∷ xs) (suc k) all = print_at xs k (other_prints x xs all)

index_as : (xs : List ℕ) (k : ℕ) → k < length xs → slice_index xs k ≡ get_or xs k 32
index_as [] k lt = absurd (omega arith)
index_as (x ∷ xs) zero lt = refl
index_as (x ∷ xs) (suc k) lt = index_as xs k (omega arith)

no_return : (xs : List ℕ) → list_all is_print xs ≡ true → without_last 13 xs ≡ xs
no_return [] all = refl
no_return (x ∷ xs) all =
    let k : length (x ∷ xs) - 1 ≡ length xs = omega arith in
    let last : (slice_index (x ∷ xs) (length xs) == 13) ≡ false =
    rw (index_as (x ∷ xs) (length xs) (omega arith))
    (print_no_return (get_or (x ∷ xs) (length xs) 32) (print_at (x ∷ xs) (length xs) all)) in
    let some : nat_lt 0 (length (x ∷ xs)) ≡ true = grind (arith, nat_tests) in
    rw (some, k, last) refl

content_back : (xs : List ℕ) → list_all is_print xs ≡ true → content (xs ++ 10 ∷ []) ≡ xs
content_back xs all = ap (λ (ys : List ℕ). without_last 13 ys) (push_back xs 10) ∙ no_return xs all

all_plain : (xs : List ℕ) → list_all is_print xs ≡ true → prefix_len (λ b. not (not (is_plain b))) xs ≡ length xs
all_plain [] all = refl
all_plain (x ∷ xs) all = rw (print_plain x (first_prints x xs all))
    (simp one-add (ap (λ n. suc n) (all_plain xs (other_prints x xs all))))

none_bad : (xs : List ℕ) → list_all is_print xs ≡ true → first_bad xs ≡ None
none_bad xs all =
    let here : nat_lt (length xs) (length xs) ≡ false = grind (arith, nat_tests) in
    rw (all_plain xs all, here) refl

-- the line `rows`, by its symbols

abbrev pub rows_symbols : List Symbol → Bool
rows_symbols [] = false
rows_symbols (Word x ∷ []) = bytes_eq x (codes "rows")
rows_symbols (Later x ∷ []) = bytes_eq x (codes "rows")
rows_symbols (Digits n ∷ []) = false
rows_symbols (Text x ∷ []) = false
rows_symbols (Sign s ∷ []) = false
rows_symbols (Stray ∷ []) = false
rows_symbols (t ∷ u ∷ ts) = false

word_by_symbols : (later : Bool) (text : List ℕ)
    → bytes_eq text (codes "rows") ≡ rows_symbols ((if later then Later text else Word text) ∷ [])
word_by_symbols true text = refl
word_by_symbols false text = refl

rows_by_symbols : (version : ℕ) (source : List ℕ) (tokens : List Token)
    → is_rows source tokens ≡ rows_symbols (symbols version source tokens)
rows_by_symbols version source [] = refl
rows_by_symbols version source (token ∷ []) = by_kind token.kind
  where
    by_kind : (kind : TokenKind) → is_rows source (record { kind = kind; start = token.start; end = token.end } ∷ [])
        ≡ rows_symbols (symbols version source (record { kind = kind; start = token.start; end = token.end } ∷ []))
    by_kind kinds.Word = word_by_symbols (is_later version (token_text source token)) (token_text source token)
    by_kind kinds.Digits = refl
    by_kind kinds.Text = refl
    by_kind kinds.Sign = refl
    by_kind kinds.Stray = refl
rows_by_symbols version source (token ∷ second ∷ tokens) = refl

no_rows : (w : List ℕ) (ts : List Symbol) → bytes_eq w (codes "rows") ≡ false → rows_symbols (Word w ∷ ts) ≡ false
no_rows w [] off = off
no_rows w (t ∷ ts) off = refl

no_rows_later : (w : List ℕ) (ts : List Symbol) → bytes_eq w (codes "rows") ≡ false
    → rows_symbols (Later w ∷ ts) ≡ false
no_rows_later w [] off = off
no_rows_later w (t ∷ ts) off = refl

kind_no_rows : (x : KindTree) → rows_symbols (syms (kind_front x [])) ≡ false
kind_no_rows (Columns xs) = no_rows (codes "columns") _ refl
kind_no_rows (Labels xs) = no_rows (codes "labels") _ refl
kind_no_rows (Measure part) = refl
kind_no_rows (Table part) = refl
kind_no_rows (Times part) = refl
kind_no_rows (Automaton part) = refl
kind_no_rows (Step part) = refl
kind_no_rows (Generate s) = refl
kind_no_rows (Test t) = no_rows (codes "test") _ refl
kind_no_rows (Named x t) = refl
kind_no_rows (Keep x) = no_rows_later (codes "keep") _ refl
kind_no_rows (Aggregate g) = no_rows (codes "aggregate") _ refl

-- numbers that can be written are within the bound

none_past : (version : ℕ) (ps : List Piece) → AreWritable version ps → list_any is_past (syms ps) ≡ false
none_past version [] w = refl
none_past version (p ∷ ps) w = rw (symbol_within p.symbol w.0) (none_past version ps w.2)
  where
    symbol_within : (s : Symbol) → Writable version s → is_past s ≡ false
    symbol_within (Word x) v = refl
    symbol_within (Later x) v = refl
    symbol_within (Digits n) v = grind (arith, nat_tests)
    symbol_within (Text x) v = refl
    symbol_within (Sign s) v = refl
    symbol_within Stray v = refl

past_by_symbols : (version : ℕ) (source : List ℕ) (tokens : List Token)
    → has_past version source tokens ≡ list_any is_past (symbols version source tokens)
past_by_symbols version source [] = refl
past_by_symbols version source (token ∷ tokens) =
    ap (λ b. is_past (symbol_of version source token) || b) (past_by_symbols version source tokens)

-- one line of pieces

-- a line of the source with this content, at this place
pub record Placed (source : List ℕ) (place : ℕ) (held back : List ℕ) : Type 0 where
  pub front : List ℕ
  pub whole : source ≡ front ++ (held ++ 10 ∷ back)
  pub at : place ≡ length front

line_symbols : (version : ℕ) (source : List ℕ) (place : ℕ) (ps : List Piece) (back : List ℕ)
    → AreWritable version ps → Placed source place (line_text ps) back
    → symbols version source (tokens_from 0 place (line_text ps)) ≡ syms ps
line_symbols version source place ps back w placed =
    symbols_at version (line_text ps) placed.front (10 ∷ back) source place placed.whole placed.at
    ∙ lexed version ps w

line_length : (held : List ℕ) → length (held ++ 10 ∷ []) ≡ length held + 1
line_length held = length-append held (10 ∷ [])

pub at_line : (version : ℕ) (source : List ℕ) (number place : ℕ) (ps : List Piece) (back : List ℕ)
    → AreWritable version ps → Placed source place (line_text ps) back → rows_symbols (syms ps) ≡ false
    → lines_from source number place (raw_lines (line_text ps ++ 10 ∷ back))
    ≡ with_lines (line_if number (tokens_from 0 place (line_text ps)))
    (lines_from source (number + 1) (place + (length (line_text ps) + 1)) (raw_lines back))
unfolding lines_from
at_line version source number place ps back w placed other =
    let held = line_text ps in
    let all = prints version ps w in
    let not_rows : is_rows source (tokens_from 0 place held) ≡ false =
    rows_by_symbols version source (tokens_from 0 place held)
    ∙ ap (λ ts. rows_symbols ts) (line_symbols version source place ps back w placed) ∙ other in
    rw (raw_line held back all, content_back held all, line_length held, not_rows, none_bad held all) refl

-- the parts, and the line `rows`

abbrev rows_text : List ℕ
rows_text = codes "rows" ++ 10 ∷ []

abbrev parts_text : List PartTree → List ℕ
parts_text parts = flat_map part_text parts ++ rows_text

-- what is read are the parts, on the lines from this number on, and the line `rows` at the end
record Back (version : ℕ) (source : List ℕ) (number : ℕ) (parts : List PartTree)
    (read : Result Found BadByte) : Type 0 where
  lines : List Numbered
  is : read ≡ Ok (record { lines = lines; rows_at = Some (length source) })
  said : AreParts version source lines (renumbered number parts)
  numbers : list_any (λ line. has_past version source line.tokens) lines ≡ false

at_rows : (source : List ℕ) (number place : ℕ) (front : List ℕ) → source ≡ front ++ rows_text → place ≡ length front
    → lines_from source number place (raw_lines rows_text) ≡ Ok (record { lines = []; rows_at = Some (length source) })
unfolding lines_from is_later
at_rows source number place front whole at =
    let placed : Placed source place (codes "rows") [] = record { front = front; whole = whole; at = at } in
    let same : symbols 1 source (tokens_from 0 place (codes "rows")) ≡ Word (codes "rows") ∷ [] =
    line_symbols 1 source place (glued (Word (codes "rows")) ∷ []) [] ((refl, refl), tt, tt) placed in
    let rows : is_rows source (tokens_from 0 place (codes "rows")) ≡ true =
    rows_by_symbols 1 source (tokens_from 0 place (codes "rows")) ∙ ap (λ ts. rows_symbols ts) same in
    let end : place + 5 ≡ length source = omega (arith, at, ap length whole, length-append front rows_text) in
    rw (raw_line (codes "rows") [] refl, content_back (codes "rows") refl, rows)
    (ap (λ n. Ok (record { lines = []; rows_at = Some n })) end)

text_splits : (part : PartTree) (parts : List PartTree)
    → parts_text (part ∷ parts) ≡ line_text (kind_front part.kind []) ++ 10 ∷ parts_text parts
text_splits part parts = simp append_assoc

kind_first : (x : KindTree) → (t : Symbol) × ((ts : List Symbol) × (syms (kind_front x []) ≡ t ∷ ts))
kind_first (Columns xs) = (Word (codes "columns"), (_, refl))
kind_first (Labels xs) = (Word (codes "labels"), (_, refl))
kind_first (Measure part) = (Word (codes "measure"), (_, refl))
kind_first (Table part) = (Word (codes "table"), (_, refl))
kind_first (Times part) = (Word (codes "times"), (_, refl))
kind_first (Automaton part) = (Later (codes "automaton"), (_, refl))
kind_first (Step part) = (Later (codes "step"), (_, refl))
kind_first (Generate s) = (Word (codes "generate"), (_, refl))
kind_first (Test t) = (Word (codes "test"), (_, refl))
kind_first (Named x t) = (Word (codes "test"), (_, refl))
kind_first (Keep x) = (Later (codes "keep"), (_, refl))
kind_first (Aggregate g) = (Word (codes "aggregate"), (_, refl))

some_line : (version : ℕ) (source : List ℕ) (number : ℕ) (tokens : List Token) (t : Symbol) (ts : List Symbol)
    → symbols version source tokens ≡ t ∷ ts
    → line_if number tokens ≡ record { number = number; tokens = tokens } ∷ []
some_line version source number [] t ts e = absurd cc
some_line version source number (token ∷ tokens) t ts e = refl

one_more : (version : ℕ) (source : List ℕ) (number : ℕ) (part : PartTree) (parts : List PartTree)
    (tokens : List Token) (read : Result Found BadByte) → FitsKind version part.kind
    → symbols version source tokens ≡ syms (kind_front part.kind []) → Back version source (number + 1) parts read
    → Back version source number (part ∷ parts) (with_lines (line_if number tokens) read)
one_more version source number part parts tokens read fits same back =
    let first = kind_first part.kind in
    let line : line_if number tokens ≡ record { number = number; tokens = tokens } ∷ [] =
    some_line version source number tokens first.0 first.1.0 (same ∙ first.1.1) in
    let derived : IsPart version part.kind (symbols version source tokens) =
    rw same (kind_spelled version part.kind fits) in
    let within : has_past version source tokens ≡ false =
    past_by_symbols version source tokens ∙ ap (λ ts. list_any is_past ts) same
    ∙ none_past version (kind_front part.kind []) (kind_writable version part.kind fits) in
    record {
      lines = record { number = number; tokens = tokens } ∷ back.lines;
      is = rw (back.is, line) refl;
      said = some derived back.said;
      numbers = rw within back.numbers;
    }

rest_of : (xs ys zs : List ℕ) → xs ++ (ys ++ 10 ∷ zs) ≡ (xs ++ (ys ++ 10 ∷ [])) ++ zs
rest_of xs ys zs = simp append_assoc

parts_back : (version : ℕ) (parts : List PartTree) (source front : List ℕ) (number place low : ℕ)
    → FitParts version low parts → source ≡ front ++ parts_text parts → place ≡ length front
    → Back version source number parts (lines_from source number place (raw_lines (parts_text parts)))
parts_back version [] source front number place low fit whole at =
    record { lines = []; is = at_rows source number place front whole at; said = none; numbers = refl }
parts_back version (part ∷ parts) source front number place low fit whole at =
    let pieces = kind_front part.kind [] in
    let held = line_text pieces in
    let writable = kind_writable version part.kind fit.1 in
    let placed : Placed source place held (parts_text parts) =
    record { front = front; whole = whole ∙ ap (λ (ts : List ℕ). front ++ ts) (text_splits part parts); at = at } in
    let later = parts_back version parts source (front ++ (held ++ 10 ∷ [])) (number + 1) (place + (length held + 1))
    (part.line + 1) fit.2
    (placed.whole ∙ rest_of front held (parts_text parts))
    (omega (arith, at, length-append front (held ++ 10 ∷ []), length-append held (10 ∷ []))) in
    let read : lines_from source number place (raw_lines (parts_text (part ∷ parts)))
    ≡ with_lines (line_if number (tokens_from 0 place held))
    (lines_from source (number + 1) (place + (length held + 1)) (raw_lines (parts_text parts))) =
    ap (λ (ts : List ℕ). lines_from source number place (raw_lines ts)) (text_splits part parts)
    ∙ at_line version source number place pieces (parts_text parts) writable placed (kind_no_rows part.kind) in
    let more = one_more version source number part parts (tokens_from 0 place held) _ fit.1
    (line_symbols version source place pieces (parts_text parts) writable placed) later in
    record { lines = more.lines; is = read ∙ more.is; said = more.said; numbers = more.numbers }

-- the first line

record NamesVersion (version : ℕ) : Type 0 where
  prints_all : list_all is_print (version_text version) ≡ true
  no_rows_in : (source : List ℕ) → is_rows source (tokens_from 0 0 (version_text version)) ≡ false
  line : line_if 1 (tokens_from 0 0 (version_text version)) ≡ record
      { number = 1; tokens = tokens_from 0 0 (version_text version) } ∷ []
  again : (back : List ℕ)
      → version_in (version_text version ++ 10 ∷ back) (tokens_from 0 0 (version_text version)) ≡ Some version

one_named : NamesVersion 1
unfolding tokens_from token_at digits
one_named = record { prints_all = refl; no_rows_in = λ source. refl; line = refl; again = λ back. refl }

two_named : NamesVersion 2
unfolding tokens_from token_at digits
two_named = record { prints_all = refl; no_rows_in = λ source. refl; line = refl; again = λ back. refl }

three_named : NamesVersion 3
unfolding tokens_from token_at digits
three_named = record { prints_all = refl; no_rows_in = λ source. refl; line = refl; again = λ back. refl }

known_version : (version : ℕ) → is_version version ≡ true → NamesVersion version
known_version zero is =
    let no : true ≡ false = sym is in absurd cc
known_version (suc zero) is = one_named
known_version (suc (suc zero)) is = two_named
known_version (suc (suc (suc zero))) is = three_named
known_version (suc (suc (suc (suc n)))) is =
    let off : is_version (suc (suc (suc (suc n)))) ≡ false = grind (arith, nat_tests) in
    let no : true ≡ false = sym is ∙ off in absurd cc

first_line : (version : ℕ) (source back : List ℕ) → NamesVersion version
    → lines_from source 1 0 (raw_lines (version_text version ++ 10 ∷ back))
    ≡ with_lines (line_if 1 (tokens_from 0 0 (version_text version)))
    (lines_from source 2 (length (version_text version) + 1) (raw_lines back))
unfolding lines_from
first_line version source back named =
    let held = version_text version in
    let all = named.prints_all in
    let place : 0 + (length held + 1) ≡ length held + 1 = omega arith in
    let other = named.no_rows_in source in
    rw (raw_line held back all, content_back held all, line_length held, other, none_bad held all, place) refl

pub canonical_text : (spec : SpecTree) → IsWellFormed spec
    → SpecText (canonical spec) (record { version = spec.version; parts = renumbered 2 spec.parts })
    (length (canonical spec))
unfolding read_lines
canonical_text spec well =
    let bytes = canonical spec in
    let held = version_text spec.version in
    let named = known_version spec.version well.version in
    let back = parts_back spec.version spec.parts bytes (held ++ 10 ∷ []) 2 (length held + 1) 0 well.parts
    (rest_of [] held (parts_text spec.parts)) (omega (arith, line_length held)) in
    record {
      first = record { number = 1; tokens = tokens_from 0 0 held };
      others = back.lines;
      lines = first_line spec.version bytes (parts_text spec.parts) named ∙ rw (back.is, named.line) refl;
      version = named.again (parts_text spec.parts);
      parts = back.said;
      numbers = back.numbers;
    }

pub reads_back : {V E : Type 0} (items : V → List ℕ) (spec : SpecTree) → IsWellFormed spec → (result : Result V E)
    → IfOk result (λ text. items text ≡ canonical spec)
    → IfOk result (λ text. SpecText (items text) (record { version = spec.version; parts = renumbered 2 spec.parts })
    (length (items text)))
reads_back items spec well (Ok text) e = rw e (canonical_text spec well)
reads_back items spec well (Err fault) e = e
