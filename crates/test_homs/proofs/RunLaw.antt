-- A run is decided by the products of its automaton's transition monoid.
use Rattle.std.proofs.Common.{◌≡◌, ℕ, zero, suc, ◌<◌, ◌==◌, Bool, true, false, List, [], ◌∷◌, length, All, Option, cond}
use Rattle.std.proofs.Common.{Some, None, refl, ap, ◌∙◌, arith}
use Rattle.std.specs.List.{find, fold, list_any}
use Rattle.monoid_kit.specs.Monoid.{IsMonoid}
use Rattle.monoid_kit.specs.Product.{product_by}
use Rattle.monoid_kit.specs.Table.{table_mul}
use Rattle.monoid_kit.proofs.Products.{product_by-is_element}
use Rattle.shape_gen.specs.declared.mark.Mark.{Mark}
use Rattle.auto_monoid.specs.Auto.{PlainAuto, IsAuto, IsWord, state_after_word}
use Rattle.auto_monoid.specs.MonoidOf.{product_table, letter_element, word_element, state_after_element}
use Rattle.auto_monoid.specs.Numbering.{IsNumbering, all_functions, are_too_many}
use Rattle.auto_monoid.proofs.All.{few-IsNumbering}
use Rattle.auto_monoid.proofs.Products.{some, letter_in, product_table-IsMonoid, state_of_word}
use Rattle.gta_checked.specs.PlainRows.{PlainRows}
use Rattle.gta_checked.specs.Plain.{PlainPick}
use Rattle.gta_checked.specs.Within.{IsPickWithin}
use Rattle.gta_meaning.specs.Runs.{moved_by, state_after_mark, state_reached}
use Rattle.gta_meaning.specs.Values.{holds}
use Rattle.gta_meaning.proofs.FirstPick.{element_if}
use Rattle.test_homs.specs.Hom.{IsHomOf}
use Rattle.test_homs.specs.Run.{element_of, run_of}

-- a letter that is picked stands before those of later marks
abbrev with_letter : Option PlainPick → List ℕ → List ℕ
with_letter None word = word
with_letter (Some pick) word = pick.element ∷ word

-- the letter of a pick is one of so many
abbrev IsLetter : ℕ → Option PlainPick → Type 0
IsLetter letters None = Unit {0}
IsLetter letters (Some pick) = pick.element < letters

-- the element of the letter that is picked
pub element_of-Some : (automaton : PlainAuto) (letter : ℕ) (found : Option PlainPick) → Some letter ≡ element_if found
    → letter_element automaton (all_functions automaton) letter ≡ element_of automaton found
element_of-Some automaton letter None is = cc
element_of-Some automaton letter (Some pick) is =
    let same : letter ≡ pick.element = cc in
    ap (letter_element automaton (all_functions automaton)) same

found-IsLetter : (columns names letters : ℕ) (p : PlainPick → Bool) (picks : List PlainPick)
    → All (IsPickWithin columns names letters) picks → IsLetter letters (find p picks)
found-IsLetter columns names letters p [] all = tt
found-IsLetter columns names letters p (pick ∷ picks) all =
    by_test (p pick) (all 0 pick (omega arith)).0
    (found-IsLetter columns names letters p picks (λ k d below. all (suc k) d (omega arith)))
  where
    by_test : (b : Bool) → pick.element < letters → IsLetter letters (find p picks)
        → IsLetter letters (cond b (Some pick) (find p picks))
    by_test true here later = here
    by_test false here later = later

module _ (rows : PlainRows) (columns names : ℕ) (a : PlainAuto) (picks : List PlainPick)
    (auto : IsAuto a) (few : are_too_many a ≡ false) (within : All (IsPickWithin columns names a.letters) picks) where
  abbrev functions : List (List ℕ)
  functions = all_functions a

  numbering : IsNumbering a functions
  numbering = few-IsNumbering a few

  -- what a row with a label picks
  abbrev found : ℕ → ℕ → Option PlainPick
  found row label = find (λ pick. holds rows row label pick.cond) picks

  found_letter : (row label : ℕ) → IsLetter a.letters (found row label)
  found_letter row label =
      found-IsLetter columns names a.letters (λ pick. holds rows row label pick.cond) picks within

  -- the letters that marks pick
  abbrev word_of : List Mark → List ℕ
  word_of [] = []
  word_of (mark ∷ marks) = with_letter (found mark.row mark.label) (word_of marks)

  with_letter-IsWord : (pick : Option PlainPick) (word : List ℕ) → IsLetter a.letters pick → IsWord a word
      → IsWord a (with_letter pick word)
  with_letter-IsWord None word is_letter is_word k d below = is_word k d below
  with_letter-IsWord (Some pick) word is_letter is_word zero d below = is_letter
  with_letter-IsWord (Some pick) word is_letter is_word (suc k) d below = is_word k d (omega arith)

  word_of-IsWord : (marks : List Mark) → IsWord a (word_of marks)
  word_of-IsWord [] = λ k d below. absurd (omega arith)
  word_of-IsWord (mark ∷ marks) =
      with_letter-IsWord (found mark.row mark.label) (word_of marks) (found_letter mark.row mark.label)
      (word_of-IsWord marks)

  -- the state that letters reach is that of the marks
  with_letter-state : (pick : Option PlainPick) (state : ℕ) (word : List ℕ)
      → state_after_word a state (with_letter pick word) ≡ state_after_word a (moved_by a state pick) word
  with_letter-state None state word = refl
  with_letter-state (Some pick) state word = refl

  word_of-state : (marks : List Mark) (state : ℕ)
      → state_after_word a state (word_of marks) ≡ fold (state_after_mark rows a picks) state marks
  word_of-state [] state = refl
  word_of-state (mark ∷ marks) state =
      with_letter-state (found mark.row mark.label) state (word_of marks)
      ∙ word_of-state marks (moved_by a state (found mark.row mark.label))

  abbrev mul : ℕ → ℕ → ℕ
  mul = table_mul (product_table functions)

  monoid : IsMonoid (length functions) 0 mul
  monoid = product_table-IsMonoid a auto functions numbering

  element_in : (pick : Option PlainPick) → IsLetter a.letters pick → element_of a pick < length functions
  element_in None is_letter = some a auto functions numbering
  element_in (Some pick) is_letter = letter_in a auto functions numbering pick.element is_letter

  abbrev element : Mark → ℕ
  element mark = element_of a (found mark.row mark.label)

  -- where no pick holds the product stays as it is
  with_letter-product : (pick : Option PlainPick) (word : List ℕ) → word_element a functions word < length functions
      → mul (element_of a pick) (word_element a functions word) ≡ word_element a functions (with_letter pick word)
  with_letter-product None word word_in = monoid.left_identity (word_element a functions word) word_in
  with_letter-product (Some pick) word word_in = refl

  product_in : (marks : List Mark) → product_by 0 mul element marks < length functions
  product_in marks =
      product_by-is_element monoid element marks
      (λ mark is_in. element_in (found mark.row mark.label) (found_letter mark.row mark.label))

  -- the product of what marks pick is that of their letters
  word_of-product : (marks : List Mark) → product_by 0 mul element marks ≡ word_element a functions (word_of marks)
  word_of-product [] = refl
  word_of-product (mark ∷ marks) =
      let rest = word_of-product marks in
      ap (mul (element mark)) rest
      ∙ with_letter-product (found mark.row mark.label) (word_of marks)
      (let below = product_in marks in omega arith)

  state_after_product : (marks : List Mark)
      → state_after_element a functions (product_by 0 mul element marks) ≡ state_reached rows a picks marks
  state_after_product marks =
      ap (state_after_element a functions) (word_of-product marks)
      ∙ state_of_word a auto functions numbering (word_of marks) (word_of-IsWord marks)
      ∙ word_of-state marks a.start

  pub run_of-IsHomOf : (labels : ℕ) (accept : List ℕ)
      → IsHomOf rows labels (λ marks. list_any (λ state. state == state_reached rows a picks marks) accept)
      (run_of a picks accept)
  run_of-IsHomOf labels accept = record {
    monoid = monoid;
    letters = λ row label. element_in (found row label) (found_letter row label);
    decides = λ marks in_range.
        ap (λ reached. list_any (λ state. state == reached) accept) (state_after_product marks);
  }
