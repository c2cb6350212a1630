-- The first answer of a list of lines, as a loop over them finds it.
use Rattle.std.proofs.Common.{◌≡◌, ℕ, suc, ◌+◌, ◌<◌, length, take, drop, get_or, drop-cons, add-one, List, [], ◌∷◌}
use Rattle.std.proofs.Common.{◌++◌, map, refl, sym, ap, ◌∙◌}
use Rattle.std.proofs.lemmas.List.{map_push, take_more}
use Rattle.std.specs.Prelude.{Option, Some, None}
use Rattle.spec_rules.specs.SpecRules.{first_answer}

pub drop_at : {A : Type 0} (xs : List A) (i : ℕ) (x : A) → i < length xs → x ≡ get_or xs i x
    → drop i xs ≡ x ∷ drop (i + 1) xs
drop_at xs i x below is = rw (add-one, drop-cons xs i x) (ap (λ y. y ∷ drop (suc i) xs) (sym is))

pub take_at : {A : Type 0} (xs : List A) (i : ℕ) (x : A) → i < length xs → x ≡ get_or xs i x
    → take (i + 1) xs ≡ take i xs ++ x ∷ []
take_at xs i x below is = take_more xs i x below ∙ ap (λ y. take i xs ++ y ∷ []) (sym is)

-- no line before this place got an answer
pub record NoneBefore {A B C : Type 0} (ask : List B → B → Option C) (f : A → B) (all : List A) (i : ℕ) : Type 0 where
  pub so_far : first_answer ask [] (map f all) ≡ first_answer ask (map f (take i all)) (map f (drop i all))

module _ {A B C : Type 0} {ask : List B → B → Option C} {f : A → B} {all : List A} where
  pub none_at_start : NoneBefore ask f all 0
  none_at_start = record { so_far = refl }

  pub answered_at : {i : ℕ} → NoneBefore ask f all i → (x : A) (answer : C) → i < length all → x ≡ get_or all i x
      → ask (map f (take i all)) (f x) ≡ Some answer → first_answer ask [] (map f all) ≡ Some answer
  answered_at {i = i} none x answer below is asked =
      let here : first_answer ask (map f (take i all)) (map f (drop i all)) ≡ Some answer =
      rw (drop_at all i x below is, asked) refl in
      none.so_far ∙ here

  pub passed_at : {i : ℕ} → NoneBefore ask f all i → (x : A) → i < length all → x ≡ get_or all i x
      → ask (map f (take i all)) (f x) ≡ None → NoneBefore ask f all (i + 1)
  passed_at {i = i} none x below is asked = record {
    so_far =
        let here : first_answer ask (map f (take i all)) (map f (drop i all))
        ≡ first_answer ask (map f (take i all) ++ f x ∷ []) (map f (drop (i + 1) all)) =
        rw (drop_at all i x below is, asked) refl in
        let front : map f (take i all) ++ f x ∷ [] ≡ map f (take (i + 1) all) =
        rw (take_at all i x below is) (sym (map_push f (take i all) x)) in
        none.so_far ∙ here ∙ ap (λ before. first_answer ask before (map f (drop (i + 1) all))) front;
  }

  pub unanswered : {i : ℕ} → NoneBefore ask f all i → drop i all ≡ [] → first_answer ask [] (map f all) ≡ None
  unanswered {i = i} none ended = none.so_far ∙ rw ended refl
