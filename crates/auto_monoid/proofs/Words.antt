-- Lemmas on the functions of words.
use Rattle.std.proofs.Common.{◌≡◌, ℕ, zero, suc, ◌+◌, ◌*◌, ◌<◌, List, [], ◌∷◌, ◌++◌, get_or, map, refl, sym}
use Rattle.std.proofs.Common.{ap, subst, ◌∙◌, All, add-one, arith}
use Rattle.std.specs.List.{fold, range_with_len}
use Rattle.std.proofs.lemmas.Simd.{map-map}
use Rattle.std.proofs.lemmas.List.{map-id, length-map}
use Rattle.std.proofs.lemmas.List.Elements.{All-map}
use Rattle.std.proofs.lemmas.List.FromFn.{get_or-range_with_len, length-range_with_len, get_or-map-range_with_len}
use Rattle.std.proofs.lemmas.List.Sums.{fold-append}
use Rattle.std.proofs.lemmas.Nat.{mul-add-lt}
use Rattle.std.proofs.Math.Nat.{mul_comm}
use Rattle.auto_monoid.specs.Auto.{PlainAuto, IsAuto, IsWord, move, state_after_word}
use Rattle.auto_monoid.specs.Functions.{IsFunction, identity, function_of, composition, followed_by}

pub range-more : (a n : ℕ) → range_with_len a (suc n) ≡ range_with_len a n ++ (a + n) ∷ []
range-more a zero = ap (λ x. x ∷ []) (let same : a ≡ a + 0 = omega arith in same)
range-more a (suc n) =
    let same : a + 1 + n ≡ a + suc n = omega arith in
    ap (λ xs. a ∷ xs) (range-more (a + 1) n ∙ ap (λ x. range_with_len (a + 1) n ++ x ∷ []) same)

pub range-push : (n : ℕ) → range_with_len 0 (n + 1) ≡ range_with_len 0 n ++ n ∷ []
range-push n =
    let same : 0 + n ≡ n = omega arith in
    ap (range_with_len 0) (add-one n) ∙ range-more 0 n ∙ ap (λ x. range_with_len 0 n ++ x ∷ []) same

-- the function of one word, also where a letter isn't one of the automaton
module _ (a : PlainAuto) where
  -- f, and then the letters of a word
  abbrev pub followed_by_word : List ℕ → List ℕ → List ℕ
  followed_by_word f word = map (λ state. state_after_word a state word) f

  pub followed_by_word-fold : (word f : List ℕ) → followed_by_word f word ≡ fold (followed_by a) f word
  followed_by_word-fold [] f = map-id f
  followed_by_word-fold (letter ∷ word) f =
      sym (map-map (λ state. state_after_word a state word) (move a letter) f)
      ∙ followed_by_word-fold word (followed_by a f letter)

  pub function_of-fold : (word : List ℕ) → function_of a word ≡ fold (followed_by a) (identity a) word
  function_of-fold word = followed_by_word-fold word (identity a)

  pub function_of-nil : function_of a [] ≡ identity a
  function_of-nil = function_of-fold []

  pub function_of-append : (v w : List ℕ) → followed_by_word (function_of a v) w ≡ function_of a (v ++ w)
  function_of-append v w =
      followed_by_word-fold w (function_of a v)
      ∙ ap (λ f. fold (followed_by a) f w) (function_of-fold v)
      ∙ sym (fold-append (followed_by a) (identity a) v w)
      ∙ sym (function_of-fold (v ++ w))

  pub function_of-push : (word : List ℕ) (letter : ℕ)
      → followed_by a (function_of a word) letter ≡ function_of a (word ++ letter ∷ [])
  function_of-push word letter = function_of-append word (letter ∷ [])

  -- a function, and then that of a word
  pub composition-function_of : (f word : List ℕ) → All (λ state. state < a.states) f
      → composition f (function_of a word) ≡ followed_by_word f word
  composition-function_of [] word below = refl
  composition-function_of (state ∷ f) word below =
      let here : state < a.states = below 0 0 (omega arith) in
      let first =
      get_or-map-range_with_len (λ s. state_after_word a s word) 0 a.states state state 0 here (omega arith) in
      rw (first, composition-function_of f word (λ k d more. below (suc k) d (omega arith))) refl

module _ (a : PlainAuto) (auto : IsAuto a) where
  pub move-is_state : (letter state : ℕ) → letter < a.letters → state < a.states → move a letter state < a.states
  move-is_state letter state letter_in state_in =
      auto.moves_are_states (letter * a.states + state) 0
      (let below = mul-add-lt letter a.states state a.letters letter_in state_in in
      let whole = auto.whole in
      let turned = mul_comm a.states a.letters in
      omega arith)

  pub identity-IsFunction : IsFunction a.states (identity a)
  identity-IsFunction = record {
    whole = length-range_with_len 0 a.states;
    below = λ k d below.
        (let inside : k < a.states = subst (λ n. k < n) (length-range_with_len 0 a.states) below in
        let is = get_or-range_with_len 0 a.states k d inside in
        omega arith);
  }

  pub followed_by-IsFunction : (f : List ℕ) (letter : ℕ) → letter < a.letters → IsFunction a.states f
      → IsFunction a.states (followed_by a f letter)
  followed_by-IsFunction f letter letter_in function = record {
    whole = length-map f (move a letter) ∙ function.whole;
    below =
        All-map (λ state. state < a.states) (move a letter) f
        (λ k d below. move-is_state letter (get_or f k d) letter_in (function.below k d below));
  }

  fold-IsFunction : (word f : List ℕ) → IsWord a word → IsFunction a.states f
      → IsFunction a.states (fold (followed_by a) f word)
  fold-IsFunction [] f is_word function = function
  fold-IsFunction (letter ∷ word) f is_word function =
      fold-IsFunction word (followed_by a f letter) (λ k d below. is_word (suc k) d (omega arith))
      (followed_by-IsFunction f letter (is_word 0 0 (omega arith)) function)

  pub function_of-IsFunction : (word : List ℕ) → IsWord a word → IsFunction a.states (function_of a word)
  function_of-IsFunction word is_word =
      subst (IsFunction a.states) (sym (function_of-fold a word))
      (fold-IsFunction word (identity a) is_word identity-IsFunction)

  -- the function of one word and then that of another
  pub composition-words : (v w : List ℕ) → IsWord a v
      → composition (function_of a v) (function_of a w) ≡ function_of a (v ++ w)
  composition-words v w is_word =
      composition-function_of a (function_of a v) w (function_of-IsFunction v is_word).below
      ∙ function_of-append a v w
