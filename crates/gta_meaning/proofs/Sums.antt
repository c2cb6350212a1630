-- Exact sums of lists of whole numbers.
use Rattle.std.proofs.Common.{◌≡◌, ℕ, ◌+◌, ◌<◌, ℤ, ◌+ℤ◌, List, [], ◌∷◌, ◌++◌, map, take, length, get_or, ap, ◌∙◌, arith}
use Rattle.std.proofs.lemmas.Int.{ints}
use Rattle.std.proofs.lemmas.List.{map-append, map_more}
use Rattle.gta_checked.specs.PlainRows.{PlainRows}
use Rattle.gta_checked.specs.declared.resolved.Term.{Term}
use Rattle.gta_checked.specs.Plain.{PlainChecked}
use Rattle.shape_gen.specs.declared.mark.Mark.{Mark}
use Rattle.gta_meaning.specs.Values.{sum_of, term_value, form_value, value, total}

pub sum_of-append : (xs ys : List ℤ) → sum_of (xs ++ ys) ≡ sum_of xs +ℤ sum_of ys
sum_of-append [] ys = omega (arith, ints)
sum_of-append (x ∷ xs) ys = let rest = sum_of-append xs ys in omega (arith, ints)

pub sum_of-push : (xs : List ℤ) (y : ℤ) → sum_of (xs ++ y ∷ []) ≡ sum_of xs +ℤ y
sum_of-push xs y = let append = sum_of-append xs (y ∷ []) in omega (arith, ints)

-- one more item, as at a step of a loop
pub sum_of-more : {A : Type 0} (f : A → ℤ) (xs : List A) (i : ℕ) (d : A) → i < length xs
    → sum_of (map f (take (i + 1) xs)) ≡ sum_of (map f (take i xs)) +ℤ f (get_or xs i d)
sum_of-more f xs i d below =
    ap sum_of (map_more f xs i d below) ∙ sum_of-push (map f (take i xs)) (f (get_or xs i d))

-- one more term of a linear form
pub form_value-more : (rows : PlainRows) (row : ℕ) (form : List Term) (i : ℕ) (d : Term) (so_far term : ℤ)
    → i < length form → so_far ≡ form_value rows row (take i form) → term ≡ term_value rows row (get_or form i d)
    → so_far +ℤ term ≡ form_value rows row (take (i + 1) form)
form_value-more rows row form i d so_far term below is_so_far is_term =
    let more = sum_of-more (term_value rows row) form i d below in cc

-- one more mark of a candidate
pub total-more : (checked : PlainChecked) (rows : PlainRows) (measure : ℕ)
    (marks : List Mark) (i : ℕ) (d : Mark) (so_far term : ℤ) → i < length marks
    → so_far ≡ total checked rows measure (take i marks)
    → term ≡ value checked rows measure (get_or marks i d).row (get_or marks i d).label
    → so_far +ℤ term ≡ total checked rows measure (take (i + 1) marks)
total-more checked rows measure marks i d so_far term below is_so_far is_term =
    let more = sum_of-more (λ (mark : Mark). value checked rows measure mark.row mark.label) marks i d below in cc

-- the total over marks one after the other
pub total-append : (checked : PlainChecked) (rows : PlainRows) (measure : ℕ) (front back : List Mark)
    → total checked rows measure (front ++ back) ≡ total checked rows measure front +ℤ total checked rows measure back
total-append checked rows measure front back =
    let value_of_mark = λ (mark : Mark). value checked rows measure mark.row mark.label in
    ap sum_of (map-append value_of_mark front back) ∙ sum_of-append (map value_of_mark front) (map value_of_mark back)
