-- Lemmas on the table of products, over the numbering of an automaton's functions.
use Rattle.std.proofs.Common.{◌≡◌, ℕ, zero, suc, ◌+◌, ◌*◌, ◌<◌, ◌≤◌, Bool, true, false, ◌||◌, List, [], ◌∷◌}
use Rattle.std.proofs.Common.{◌++◌, length, get_or, take, map, inl, inr, refl, sym, ap, subst, ◌∙◌, All, None}
use Rattle.std.proofs.Common.{Ok, Err, append_assoc, arith}
use Rattle.std.specs.List.{flat_map, IsDistinct, list_any}
use Rattle.std.proofs.lemmas.Bool.{cases_lt, false≢true}
use Rattle.std.proofs.lemmas.Cmp.{nat_list_eq_equiv}
use Rattle.std.proofs.lemmas.List.{length-map, length-append, length-take-le, append-nil, get_or-map}
use Rattle.std.proofs.lemmas.List.Concat.{get_or-flat_map}
use Rattle.std.proofs.lemmas.List.Elements.{All-append, All-map}
use Rattle.std.proofs.lemmas.List.FromFn.{get_or-map-range_with_len}
use Rattle.std.proofs.lemmas.Map.Keys.{apart_from_distinct}
use Rattle.std.proofs.lemmas.Map.Made.{length-le_from_is_member}
use Rattle.std.proofs.lemmas.List.Folds.{list_any_at}
use Rattle.std.proofs.lemmas.List.Sums.{passes_at_first}
use Rattle.std.proofs.Math.Nat.{suc-mul}
use Rattle.monoid_kit.specs.declared.checks.TableFault.{TableFault}
use Rattle.monoid_kit.specs.declared.checks.TableFault.TheVariants.{UnitFails, NotAssociative, Memory}
use Rattle.outcome_kit.specs.Outcome.{Carries, unless}
use Rattle.monoid_kit.specs.FirstBad.{first_bad, fault_in, lawful_outcome}
use Rattle.monoid_kit.specs.Monoid.{IsMonoid}
use Rattle.monoid_kit.specs.Table.{PlainTable, IsTable, table_mul}
use Rattle.auto_monoid.specs.Auto.{PlainAuto, IsAuto, IsWord, state_after_word}
use Rattle.auto_monoid.specs.Functions.{IsFunction, identity, function_of, composition, same, number_of}
use Rattle.auto_monoid.specs.Functions.{IsReached, AreFew}
use Rattle.auto_monoid.specs.MonoidOf.{products, product_table, function_at, letter_element, word_element}
use Rattle.auto_monoid.specs.MonoidOf.{state_after_element}
use Rattle.auto_monoid.specs.Numbering.{IsNumbering}
use Rattle.auto_monoid.proofs.Places.{IsThere, same-is, number_of-at, number_of-within, IsThere-at}
use Rattle.auto_monoid.proofs.Words.{function_of-nil, function_of-fold, composition-words}
use Rattle.auto_monoid.proofs.Found.{discovered-IsReached, discovered-IsDistinct, discovered-IsFunction}
use Rattle.auto_monoid.proofs.Found.{discovered-some, discovered-first, fold-IsThere}

-- where no law is broken, only memory can be wanting
pub no_fault : (t : PlainTable) (fault : TableFault) → first_bad t ≡ None → Carries (lawful_outcome t) (fault_in fault)
    → fault ≡ Memory
no_fault t Memory none ends = refl
no_fault t (UnitFails element left) none ends =
    absurd
    (let h : Ok t ≡ Err (UnitFails element left) = subst
    (λ first. unless first (Ok t) ≡ Err (UnitFails element left)) none ends in cc)
no_fault t (NotAssociative x y z) none ends =
    absurd
    (let h : Ok t ≡ Err (NotAssociative x y z) = subst (λ first. unless first (Ok t) ≡ Err (NotAssociative x y z))
    none ends in cc)

-- the rows of the table
module _ (fs : List (List ℕ)) where
  rows-length : (gs : List (List ℕ)) → length (flat_map (products fs) gs) ≡ length gs * length fs
  rows-length [] = (let none : 0 ≡ 0 * length fs = omega arith in none)
  rows-length (g ∷ gs) =
      length-append (products fs g) (flat_map (products fs) gs)
      ∙ ap (λ n. n + length (flat_map (products fs) gs)) (length-map fs (λ h. number_of fs (composition g h)))
      ∙ ap (λ n. length fs + n) (rows-length gs)
      ∙ (let more = suc-mul (length gs) (length fs) in omega arith)

  table_mul-is : (e f : ℕ) → e < length fs → f < length fs
      → table_mul (product_table fs) e f ≡ number_of fs (composition (function_at fs e) (function_at fs f))
  table_mul-is e f e_in f_in =
      let g = function_at fs e in
      let row : f < length (products fs g) =
      subst (λ n. f < n) (sym (length-map fs (λ h. number_of fs (composition g h)))) f_in in
      let before : e * length fs ≡ length (flat_map (products fs) (take e fs)) =
      sym (rows-length (take e fs) ∙ ap (λ n. n * length fs) (length-take-le e fs (omega arith))) in
      ap (λ n. get_or (flat_map (products fs) fs) (n + f) 0) before
      ∙ get_or-flat_map (products fs) fs e f [] 0 e_in row
      ∙ get_or-map (λ h. number_of fs (composition g h)) fs f [] 0 f_in

module _ (a : PlainAuto) (auto : IsAuto a) (fs : List (List ℕ)) (numbering : IsNumbering a fs) where
  pub all_reached : All (IsReached a) fs
  all_reached = subst (All (IsReached a)) (sym numbering.in_order) (discovered-IsReached a (length fs))

  pub all_different : IsDistinct same fs
  all_different = subst (IsDistinct same) (sym numbering.in_order) (discovered-IsDistinct a (length fs))

  pub all_functions : All (IsFunction a.states) fs
  all_functions = subst (All (IsFunction a.states)) (sym numbering.in_order) (discovered-IsFunction a auto (length fs))

  pub some : 0 < length fs
  some = subst (λ gs. 0 < length gs) (sym numbering.in_order) (discovered-some a (length fs))

  first : function_at fs 0 ≡ identity a
  first = subst (λ gs. get_or gs 0 [] ≡ identity a) (sym numbering.in_order) (discovered-first a (length fs))

  pub word_there : (word : List ℕ) → IsWord a word → IsThere fs (function_of a word)
  word_there word is_word =
      subst (IsThere fs) (sym (function_of-fold a word))
      (fold-IsThere a fs numbering.closed word (identity a) is_word (IsThere-at fs (identity a) 0 some first))

  -- products, by words of the factors' functions
  pub composition-of_words : (f g v w : List ℕ) → IsWord a v → IsWord a w → function_of a v ≡ f → function_of a w ≡ g
      → composition f g ≡ function_of a (v ++ w)
  composition-of_words f g v w v_is w_is f_of g_of =
      ap (λ h. composition h g) (sym f_of) ∙ ap (composition (function_of a v)) (sym g_of)
      ∙ composition-words a auto v w v_is

  append-is_word : (v w : List ℕ) → IsWord a v → IsWord a w → IsWord a (v ++ w)
  append-is_word v w v_is w_is = All-append (λ letter. letter < a.letters) v w v_is w_is

  pub composition_there : (f g : List ℕ) → IsReached a f → IsReached a g → IsThere fs (composition f g)
  composition_there f g f_is g_is =
      subst (IsThere fs) (sym (composition-of_words f g f_is.0 g_is.0 f_is.1 g_is.1 f_is.2 g_is.2))
      (word_there (f_is.0 ++ g_is.0) (append-is_word f_is.0 g_is.0 f_is.1 g_is.1))

  -- an element of which a word's function is that of the element
  abbrev pub Means : ℕ → List ℕ → Type 0
  Means e word = (e < length fs) × IsWord a word × (function_of a word ≡ function_at fs e)

  reached_at : (e : ℕ) → e < length fs → IsReached a (function_at fs e)
  reached_at e e_in = all_reached e [] e_in

  product_there : (e f : ℕ) → e < length fs → f < length fs
      → IsThere fs (composition (function_at fs e) (function_at fs f))
  product_there e f e_in f_in =
      composition_there (function_at fs e) (function_at fs f) (reached_at e e_in) (reached_at f f_in)

  pub product_at : (e f : ℕ) → e < length fs → f < length fs
      → function_at fs (table_mul (product_table fs) e f) ≡ composition (function_at fs e) (function_at fs f)
  product_at e f e_in f_in =
      ap (function_at fs) (table_mul-is fs e f e_in f_in)
      ∙ number_of-at fs (composition (function_at fs e) (function_at fs f)) (product_there e f e_in f_in)

  pub product_in : (e f : ℕ) → e < length fs → f < length fs → table_mul (product_table fs) e f < length fs
  product_in e f e_in f_in =
      subst (λ n. n < length fs) (sym (table_mul-is fs e f e_in f_in)) (product_there e f e_in f_in)

  -- an element is the place of its function
  place_at : (e : ℕ) → e < length fs → number_of fs (function_at fs e) ≡ e
  place_at e e_in =
      let within = number_of-within fs (function_at fs e) e refl in
      elim (cases_lt (number_of fs (function_at fs e)) e) [
        | inl before ↦
            absurd (unlike (function_at fs (number_of fs (function_at fs e))) (function_at fs e)
            (number_of-at fs (function_at fs e)
            (let below : number_of fs (function_at fs e) < length fs = omega arith in below))
            (apart_from_distinct same fs (number_of fs (function_at fs e)) e [] all_different before e_in))
        | inr not_before ↦ omega arith
      ]
    where
      unlike : (f g : List ℕ) → f ≡ g → same f g ≡ false → ⊥
      unlike f g equal apart =
          (let itself = nat_list_eq_equiv.refl f in
          let other : same f f ≡ false = ap (same f) equal ∙ apart in
          let clash : true ≡ false = sym itself ∙ other in
          cc)

  pub one_place : (e f : ℕ) → e < length fs → f < length fs → function_at fs e ≡ function_at fs f → e ≡ f
  one_place e f e_in f_in equal =
      sym (place_at e e_in) ∙ ap (number_of fs) equal ∙ place_at f f_in

  product_word : (e f : ℕ) (v w : List ℕ) → Means e v → Means f w → Means (table_mul (product_table fs) e f) (v ++ w)
  product_word e f v w e_is f_is = (
    product_in e f e_is.0 f_is.0,
    append-is_word v w e_is.1 f_is.1,
    sym (product_at e f e_is.0 f_is.0
        ∙ composition-of_words (function_at fs e) (function_at fs f) v w e_is.1 f_is.1 e_is.2 f_is.2),
  )

  means_at : (e : ℕ) (e_in : e < length fs) → Means e (reached_at e e_in).0
  means_at e e_in = (e_in, (reached_at e e_in).1, (reached_at e e_in).2)

  means_unit : Means 0 []
  means_unit = (some, (λ k d below. absurd (omega arith)), function_of-nil a ∙ sym first)

  -- elements that are the same word's are the same
  one_word : (e f : ℕ) (v w : List ℕ) → Means e v → Means f w → v ≡ w → e ≡ f
  one_word e f v w e_is f_is equal =
      one_place e f e_is.0 f_is.0 (sym e_is.2 ∙ ap (function_of a) equal ∙ f_is.2)

  left_identity : (e : ℕ) → e < length fs → table_mul (product_table fs) 0 e ≡ e
  left_identity e e_in =
      let w = (reached_at e e_in).0 in
      one_word (table_mul (product_table fs) 0 e) e ([] ++ w) w
      (product_word 0 e [] w means_unit (means_at e e_in)) (means_at e e_in) refl

  right_identity : (e : ℕ) → e < length fs → table_mul (product_table fs) e 0 ≡ e
  right_identity e e_in =
      let w = (reached_at e e_in).0 in
      one_word (table_mul (product_table fs) e 0) e (w ++ []) w
      (product_word e 0 w [] (means_at e e_in) means_unit) (means_at e e_in) (append-nil w)

  associative : (x y z : ℕ) → x < length fs → y < length fs → z < length fs
      → table_mul (product_table fs) (table_mul (product_table fs) x y) z
      ≡ table_mul (product_table fs) x (table_mul (product_table fs) y z)
  associative x y z x_in y_in z_in =
      let t = product_table fs in
      let u = (reached_at x x_in).0 in
      let v = (reached_at y y_in).0 in
      let w = (reached_at z z_in).0 in
      one_word (table_mul t (table_mul t x y) z) (table_mul t x (table_mul t y z)) ((u ++ v) ++ w) (u ++ (v ++ w))
      (product_word (table_mul t x y) z (u ++ v) w
      (product_word x y u v (means_at x x_in) (means_at y y_in)) (means_at z z_in))
      (product_word x (table_mul t y z) u (v ++ w)
      (means_at x x_in) (product_word y z v w (means_at y y_in) (means_at z z_in)))
      (append_assoc u v w)

  pub product_table-IsMonoid : IsMonoid (length fs) 0 (table_mul (product_table fs))
  product_table-IsMonoid = record {
    unit_is_element = some;
    product_is_element = product_in;
    left_identity = left_identity;
    right_identity = right_identity;
    associative = associative;
  }

  row_in : (g : List ℕ) → IsReached a g → All (λ cell. cell < length fs) (products fs g)
  row_in g g_is =
      All-map (λ cell. cell < length fs) (λ h. number_of fs (composition g h)) fs
      (λ k d below. composition_there g (get_or fs k d) g_is (all_reached k d below))

  cells_in : (gs : List (List ℕ)) → All (IsReached a) gs → All (λ cell. cell < length fs) (flat_map (products fs) gs)
  cells_in [] all = λ k d below. absurd (omega arith)
  cells_in (g ∷ gs) all =
      All-append (λ cell. cell < length fs) (products fs g) (flat_map (products fs) gs)
      (row_in g (all 0 [] (omega arith)))
      (cells_in gs (λ k d below. all (suc k) d (omega arith)))

  pub product_table-IsTable : length fs ≤ 64 → IsTable (product_table fs)
  product_table-IsTable few = record {
    some = some;
    few = few;
    whole = rows-length fs fs;
    unit_is_element = some;
    cells_are_elements = cells_in fs all_reached;
  }

  -- the element of a word
  pub letter_in : (letter : ℕ) → letter < a.letters → letter_element a fs letter < length fs
  letter_in letter letter_is = word_there (letter ∷ []) (one_letter letter letter_is)
    where
      one_letter : (l : ℕ) → l < a.letters → IsWord a (l ∷ [])
      one_letter l l_is zero d below = l_is
      one_letter l l_is (suc k) d below = absurd (omega arith)

  means_letter : (letter : ℕ) → IsWord a (letter ∷ []) → Means (letter_element a fs letter) (letter ∷ [])
  means_letter letter is_word =
      let there = word_there (letter ∷ []) is_word in
      (there, is_word, sym (number_of-at fs (function_of a (letter ∷ [])) there))

  means_word : (word : List ℕ) → IsWord a word → Means (word_element a fs word) word
  means_word [] is_word = means_unit
  means_word (letter ∷ word) is_word =
      product_word (letter_element a fs letter) (word_element a fs word) (letter ∷ []) word
      (means_letter letter (front letter word is_word)) (means_word word (λ k d below. is_word (suc k) d (omega arith)))
    where
      front : (l : ℕ) (w : List ℕ) → IsWord a (l ∷ w) → IsWord a (l ∷ [])
      front l w is zero d below = is 0 d (omega arith)
      front l w is (suc k) d below = absurd (omega arith)

  pub word_at_element : (word : List ℕ) → IsWord a word → function_at fs (word_element a fs word) ≡ function_of a word
  word_at_element word is_word = sym (means_word word is_word).2

  pub state_of_word : (word : List ℕ) → IsWord a word
      → state_after_element a fs (word_element a fs word) ≡ state_after_word a a.start word
  state_of_word word is_word =
      ap (λ f. get_or f a.start 0) (word_at_element word is_word)
      ∙ get_or-map-range_with_len (λ s. state_after_word a s word) 0 a.states a.start a.start 0
      auto.start_is_state (omega arith)

  -- different functions of words are at most as many
  there_any : (q : List ℕ) → IsThere fs q → list_any (same q) fs ≡ true
  there_any q there = list_any_at (same q) fs (number_of fs q) [] there (passes_at_first (same q) fs [] there)

  among : (ws : List (List ℕ)) → All (IsWord a) ws → (q : List ℕ)
      → list_any (same q) (map (function_of a) ws) ≡ true → list_any (same q) fs ≡ true
  among [] all q member = absurd (false≢true member)
  among (w ∷ ws) all q member =
      by_test (same q (function_of a w)) refl member (among ws (λ k d below. all (suc k) d (omega arith)) q)
    where
      by_test : (t : Bool) → same q (function_of a w) ≡ t
          → (t || list_any (same q) (map (function_of a) ws)) ≡ true
          → (list_any (same q) (map (function_of a) ws) ≡ true → list_any (same q) fs ≡ true)
          → list_any (same q) fs ≡ true
      by_test true is found later =
          there_any q
          (subst (IsThere fs) (sym (same-is q (function_of a w) is)) (word_there w (all 0 [] (omega arith))))
      by_test false is found later = later found

  pub words_few : length fs ≤ 64 → AreFew a
  words_few few many =
      (let ws = many.0 in
      let within = length-le_from_is_member nat_list_eq_equiv (map (function_of a) ws) fs many.2 (among ws many.1) in
      let whole = length-map ws (function_of a) in
      let more = many.3 in
      omega arith)
