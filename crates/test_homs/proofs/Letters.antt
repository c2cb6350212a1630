-- The letters and accepted elements of a test at their places.
use Rattle.std.proofs.Common.{◌≡◌, ℕ, zero, suc, ◌+◌, ◌*◌, ◌<◌, false, List, [], ◌∷◌, All, length, get_or}
use Rattle.std.proofs.Common.{ap, ◌∙◌, arith}
use Rattle.std.specs.List.{flat_map, range_with_len}
use Rattle.std.proofs.lemmas.List.Elements.{All-append, All-head, All-map, All-tail}
use Rattle.std.proofs.lemmas.List.FromFn.{get_or-range_with_len, length-range_with_len}
use Rattle.std.proofs.lemmas.List.FromFn.{length-map-range_with_len, get_or-map-range_with_len}
use Rattle.gta_checked.specs.PlainRows.{PlainRows}
use Rattle.monoid_product.specs.Component.{component_size}
use Rattle.test_homs.specs.Hom.{Hom}
use Rattle.test_homs.specs.Prepared.{row_letters, letters_of, accepted_by}
use Rattle.test_homs.proofs.Pieces.{length-pieces, get_or-pieces}

get_or-below : (n : ℕ) (xs : List ℕ) → 0 < n → All (λ x. x < n) xs → (k : ℕ) → get_or xs k 0 < n
get_or-below n [] some all k = some
get_or-below n (x ∷ xs) some all zero = All-head (λ y. y < n) x xs all
get_or-below n (x ∷ xs) some all (suc k) = get_or-below n xs some (All-tail (λ y. y < n) x xs all) k

module _ (hom : Hom) (rows : PlainRows) (labels : ℕ) where
  length-row_letters : (row : ℕ) → length (row_letters hom rows labels row) ≡ labels
  length-row_letters row = length-map-range_with_len (hom.letter rows row) 0 labels

  pub length-letters_of : length (letters_of hom rows labels) ≡ rows.count * labels
  length-letters_of =
      length-pieces (row_letters hom rows labels) labels length-row_letters (range_with_len 0 rows.count)
      ∙ ap (λ n. n * labels) (length-range_with_len 0 rows.count)

  pub letter-at : (row label : ℕ) → row < rows.count → label < labels
      → get_or (letters_of hom rows labels) (row * labels + label) 0 ≡ hom.letter rows row label
  letter-at row label row_in label_in =
      get_or-pieces (row_letters hom rows labels) labels length-row_letters (range_with_len 0 rows.count) row label 0
      (simp length-range_with_len row_in) label_in
      ∙ ap (λ r. get_or (row_letters hom rows labels r) label 0)
      (get_or-range_with_len 0 rows.count row 0 row_in ∙ omega arith)
      ∙ get_or-map-range_with_len (hom.letter rows row) 0 labels label label 0 label_in (omega arith)

  abbrev IsLetter : ℕ → Type 0
  IsLetter letter = letter < component_size hom.component

  -- where letters are elements, an element stands at every place
  module _ (letters : (row label : ℕ) → IsLetter (hom.letter rows row label)) where
    rows-elements : (rs : List ℕ) → All IsLetter (flat_map (row_letters hom rows labels) rs)
    rows-elements [] = λ k d below. absurd (omega arith)
    rows-elements (r ∷ rs) =
        All-append IsLetter (row_letters hom rows labels r) (flat_map (row_letters hom rows labels) rs)
        (All-map IsLetter (hom.letter rows r) (range_with_len 0 labels) (λ k label below. letters r _))
        (rows-elements rs)

    pub letter-below : 0 < component_size hom.component → (place : ℕ)
        → IsLetter (get_or (letters_of hom rows labels) place 0)
    letter-below some place =
        get_or-below (component_size hom.component) (letters_of hom rows labels) some
        (rows-elements (range_with_len 0 rows.count)) place

pub accept-at : (hom : Hom) (element : ℕ) → element < component_size hom.component
    → get_or (accepted_by hom) element false ≡ hom.accepts element
accept-at hom element element_in =
    get_or-map-range_with_len hom.accepts 0 (component_size hom.component) element element false element_in
    (omega arith)
