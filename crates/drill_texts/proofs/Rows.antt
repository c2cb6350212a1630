-- The lines of one more row, and how long lines are.
use Rattle.std.proofs.Common.{◌≡◌, ◌≤◌, ℕ, zero, suc, ◌+◌, ◌-◌, ◌*◌, List, ◌++◌, length}
use Rattle.std.proofs.Common.{codes, sym, ap, ◌∙◌, arith, append_assoc}
use Rattle.std.specs.Fmt.{decimal}
use Rattle.std.specs.List.{flat_map, range_with_len}
use Rattle.std.proofs.lemmas.List.{append-nil, length-append}
use Rattle.std.proofs.lemmas.Nat.{mod_below}
use Rattle.std.proofs.lemmas.Fmt.{length-decimal-le}
use Rattle.drill_texts.specs.declared.drill.Drill.{Drill}
use Rattle.drill_texts.specs.declared.drill.Drill.TheVariants.{Best, Greatest, Segments}
use Rattle.drill_texts.specs.declared.drill.TheConstants.{BYTES_LIMIT}
use Rattle.drill_texts.specs.declared.table.TheConstants.{ROWS_LIMIT}
use Rattle.drill_texts.specs.Drills.{weight_at, value_at, row_text, table_text, spec_text}

lines_more : (line : ℕ → List ℕ) (a n j : ℕ) → a + n ≡ j
    → flat_map line (range_with_len a (suc n)) ≡ flat_map line (range_with_len a n) ++ line j
lines_more line a zero j is = append-nil (line a) ∙ ap line (omega arith)
lines_more line a (suc n) j is =
    ap (λ l. line a ++ l) (lines_more line (a + 1) n j (omega arith))
    ∙ sym (append_assoc (line a) (flat_map line (range_with_len (a + 1) n)) (line j))

table_more : (seed row : ℕ) → 1 ≤ row
    → table_text seed (row - 1) ++ row_text seed row ≡ table_text seed row
table_more seed row some =
    let next : suc (row - 1) ≡ row = omega arith in
    append_assoc (codes "weight,value\n") (flat_map (row_text seed) (range_with_len 1 (row - 1))) (row_text seed row)
    ∙ ap (λ l. codes "weight,value\n" ++ l)
    (sym (lines_more (row_text seed) 1 (row - 1) row (omega arith))
    ∙ ap (λ n. flat_map (row_text seed) (range_with_len 1 n)) next)

-- the table of the rows before this one, and then its line
pub row_pushed : (front : List ℕ) {old new : List ℕ} (seed row : ℕ) → 1 ≤ row
    → old ≡ front ++ table_text seed (row - 1) → new ≡ old ++ row_text seed row
    → new ≡ front ++ table_text seed row
row_pushed front seed row some before pushed =
    pushed ∙ ap (λ l. l ++ row_text seed row) before
    ∙ append_assoc front (table_text seed (row - 1)) (row_text seed row)
    ∙ ap (λ l. front ++ l) (table_more seed row some)

row_short : (seed i : ℕ) → length (row_text seed i) ≤ 8
row_short seed i =
    let w = weight_at seed i in
    let v = value_at seed i in
    let small = mod_below (seed + 7 * i) 13 (omega arith) in
    let smaller = mod_below (3 * seed + 11 * i + i * i) 101 (omega arith) in
    let first : length (decimal w) ≤ 2 = length-decimal-le 2 w (omega arith) (omega arith) (omega arith) in
    let second : length (decimal v) ≤ 3 = length-decimal-le 3 v (omega arith) (omega arith) (omega arith) in
    let whole = length-append (decimal w) (codes "," ++ (decimal v ++ codes "\n")) in
    let rest = length-append (decimal v) (codes "\n") in
    omega arith

lines_short : (seed a n : ℕ) → length (flat_map (row_text seed) (range_with_len a n)) ≤ 8 * n
lines_short seed a zero = omega arith
lines_short seed a (suc n) =
    let split = length-append (row_text seed a) (flat_map (row_text seed) (range_with_len (a + 1) n)) in
    let one = row_short seed a in
    let others = lines_short seed (a + 1) n in
    omega arith

spec_short : (drill : Drill) → length (spec_text drill) ≤ 200
spec_short Best = omega arith
spec_short Greatest = omega arith
spec_short Segments = omega arith

-- 8 bytes for each line, and some for the header and the specification
pub text_short : (drill : Drill) (front text : List ℕ) (seed rows : ℕ) → front ≡ spec_text drill
    → rows ≤ ROWS_LIMIT → text ≡ front ++ table_text seed rows → length text ≤ BYTES_LIMIT
text_short drill front text seed rows spec few is =
    let split = length-append front (table_text seed rows) in
    let first : length front ≤ 200 = rw spec (spec_short drill) in
    let lines = lines_short seed 1 rows in
    rw is (omega arith)
