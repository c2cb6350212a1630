-- The marks of runs: of two runs as one, of a run cut in two, and of lists one after another.
use Rattle.std.proofs.Common.{◌≡◌, ℕ, zero, suc, ◌+◌, ◌-◌, ◌<◌, ◌≤◌, List, [], ◌∷◌, ◌++◌, length, take}
use Rattle.std.proofs.Common.{get_or, refl, sym, ap, ◌∙◌, arith, append_assoc}
use Rattle.std.proofs.lemmas.List.{append-nil, take_more}
use Rattle.shape_gen.specs.declared.mark.Mark.{Mark}
use Rattle.mark_runs.specs.declared.run.Run.{Run}
use Rattle.mark_runs.specs.Runs.{neighbours, marks_of_run, marks_of_runs}

pub neighbours-append : (n m row label : ℕ)
    → neighbours row (n + m) label ≡ neighbours row n label ++ neighbours (row + n) m label
neighbours-append zero m row label =
    let same : row + zero ≡ row = omega arith in
    let all : zero + m ≡ m = omega arith in
    rw (same, all) refl
neighbours-append (suc n) m row label =
    let same : suc row + n ≡ row + suc n = omega arith in
    let all : suc n + m ≡ suc (n + m) = omega arith in
    ap (λ c. neighbours row c label) all
    ∙ ap (λ l. record { row = row; label = label } ∷ l)
    (neighbours-append n m (suc row) label
    ∙ ap (λ r. neighbours (suc row) n label ++ neighbours r m label) same)

pub length-neighbours : (n row label : ℕ) → length (neighbours row n label) ≡ n
length-neighbours zero row label = refl
length-neighbours (suc n) row label = ap suc (length-neighbours n (suc row) label)

-- cut behind the first n
pub neighbours-cut : (n count row label : ℕ) → n ≤ count
    → neighbours row count label ≡ neighbours row n label ++ neighbours (row + n) (count - n) label
neighbours-cut n count row label within =
    let whole : n + (count - n) ≡ count = omega arith in
    ap (λ m. neighbours row m label) (sym whole) ∙ neighbours-append n (count - n) row label

-- one more row
pub neighbours-more : (n row label : ℕ)
    → neighbours row (n + 1) label ≡ neighbours row n label ++ record { row = row + n; label = label } ∷ []
neighbours-more n row label = neighbours-append n 1 row label

pub marks_of_runs-append : (xs ys : List Run) → marks_of_runs (xs ++ ys) ≡ marks_of_runs xs ++ marks_of_runs ys
marks_of_runs-append [] ys = refl
marks_of_runs-append (x ∷ xs) ys =
    ap (λ l. marks_of_run x ++ l) (marks_of_runs-append xs ys)
    ∙ sym (append_assoc (marks_of_run x) (marks_of_runs xs) (marks_of_runs ys))

-- two runs as one, where the second goes on where the first ends
pub neighbours-joined : (row n m row' label label' count : ℕ) → row + n ≡ row' → label ≡ label' → count ≡ n + m
    → neighbours row count label ≡ neighbours row n label ++ neighbours row' m label'
neighbours-joined row n m row' label label' count goes_on same is =
    ap (λ c. neighbours row c label) is ∙ neighbours-append n m row label
    ∙ ap (λ r. neighbours row n label ++ neighbours r m label) goes_on
    ∙ ap (λ l. neighbours row n label ++ neighbours row' m l) same

-- one more run
pub marks_of_runs-more : (marks : List Mark) (xs : List Run) (i : ℕ) (x d : Run) → i < length xs
    → x ≡ get_or xs i d → marks ≡ marks_of_runs (take i xs) ++ marks_of_run x → marks ≡ marks_of_runs (take (i + 1) xs)
marks_of_runs-more marks xs i x d within at is =
    is ∙ ap (λ l. marks_of_runs (take i xs) ++ l) (sym (append-nil (marks_of_run x)))
    ∙ sym (marks_of_runs-append (take i xs) (x ∷ []))
    ∙ ap (λ y. marks_of_runs (take i xs ++ y ∷ [])) at
    ∙ ap marks_of_runs (sym (take_more xs i d within))

-- lists whose runs that meet are one
pub marks_of_runs-meet : (front back xs ys : List Run) (last first run : Run)
    → xs ≡ front ++ last ∷ [] → ys ≡ first ∷ back → marks_of_run run ≡ marks_of_run last ++ marks_of_run first
    → marks_of_runs (front ++ run ∷ back) ≡ marks_of_runs xs ++ marks_of_runs ys
marks_of_runs-meet front back xs ys last first run left right is =
    marks_of_runs-append front (run ∷ back)
    ∙ ap (λ l. marks_of_runs front ++ (l ++ marks_of_runs back)) is
    ∙ ap (λ l. marks_of_runs front ++ l) (append_assoc (marks_of_run last) (marks_of_run first) (marks_of_runs back))
    ∙ sym (append_assoc (marks_of_runs front) (marks_of_run last) (marks_of_run first ++ marks_of_runs back))
    ∙ ap (λ l. (marks_of_runs front ++ l) ++ (marks_of_run first ++ marks_of_runs back))
    (sym (append-nil (marks_of_run last)))
    ∙ ap (λ l. l ++ (marks_of_run first ++ marks_of_runs back)) (sym (marks_of_runs-append front (last ∷ [])))
    ∙ ap (λ l. marks_of_runs l ++ (marks_of_run first ++ marks_of_runs back)) (sym left)
    ∙ ap (λ l. marks_of_runs xs ++ marks_of_runs l) (sym right)
