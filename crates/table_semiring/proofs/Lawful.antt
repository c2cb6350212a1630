-- Tables break no law exactly where they give a semiring.
use Rattle.std.proofs.Common.{◌≡◌, ℕ, zero, suc, ◌+◌, ◌*◌, ◌<◌, ltb, not, Bool, true, false, cond, List}
use Rattle.std.proofs.Common.{Some, None, refl, sym, subst, ap, ◌∙◌, arith}
use Rattle.std.specs.Prelude.{option_map}
use Rattle.std.specs.List.{find, range_with_len}
use Rattle.std.proofs.lemmas.Bool.{not-false, not_from_true, eqb-true, eq-eqb}
use Rattle.std.proofs.lemmas.Nat.{mul-add-lt}
use Rattle.monoid_kit.specs.Items.{IsIn, pairs}
use Rattle.monoid_kit.proofs.Finds as finds
use Rattle.semiring_kit.specs.Semiring.{IsSemiring}
use Rattle.table_semiring.specs.declared.checks.Break.{Break}
use Rattle.table_semiring.specs.declared.laws.TheConstants.{LAWS}
use Rattle.table_semiring.specs.FirstBreak.{sides, law_holds, arity, choices, places, is_broken, first_break}
use Rattle.table_semiring.specs.Table.{PlainRaw, IsRaw, semiring_of, sum_in, product_in}
use Rattle.table_semiring.proofs.Finds.{find-flat_map_range_nowhere, find-flat_map_range_none}

-- one law, looked for by its first element and then by the further ones
module _ (t : PlainRaw) (law : ℕ) where
  place : ℕ × (ℕ × ℕ) → Break
  place p = record { law = law; a = p.0; b = p.1.0; c = p.1.1 }

  breaks : ℕ × (ℕ × ℕ) → Bool
  breaks p = not (law_holds t law p.0 p.1.0 p.1.1)

  further : List (ℕ × ℕ)
  further = pairs (range_with_len 0 (choices t law 1)) (range_with_len 0 (choices t law 2))

  tuples : List (ℕ × (ℕ × ℕ))
  tuples = pairs (range_with_len 0 (choices t law 0)) further

  find-places : find (is_broken t) (places t law) ≡ option_map place (find breaks tuples)
  unfolding place breaks further tuples
  find-places = finds.find-map (is_broken t) place tuples

  pub find-places_at : (a b c : ℕ) → a < choices t law 0
      → ((k : ℕ) → k < a → find (λ p. not (law_holds t law k p.0 p.1))
      (pairs (range_with_len 0 (choices t law 1)) (range_with_len 0 (choices t law 2))) ≡ None)
      → find (λ p. not (law_holds t law a p.0 p.1))
      (pairs (range_with_len 0 (choices t law 1)) (range_with_len 0 (choices t law 2))) ≡ Some (b, c)
      → find (is_broken t) (places t law) ≡ Some (record { law = law; a = a; b = b; c = c })
  unfolding place breaks further tuples
  find-places_at a b c below before here =
      find-places
      ∙ ap (option_map place) (finds.find-range_pairs_at breaks (choices t law 0) further a (b, c) below before here)

  pub find-places_nowhere : ((k : ℕ) → k < choices t law 0 → find (λ p. not (law_holds t law k p.0 p.1))
      (pairs (range_with_len 0 (choices t law 1)) (range_with_len 0 (choices t law 2))) ≡ None)
      → find (is_broken t) (places t law) ≡ None
  unfolding place breaks further tuples
  find-places_nowhere fails =
      find-places ∙ ap (option_map place) (finds.find-range_pairs_nowhere breaks (choices t law 0) further fails)

  IsIn-choices : (n x : ℕ) → x < n → IsIn x (range_with_len 0 n)
  IsIn-choices n x below = finds.IsIn-range_of 0 n x (omega arith) (omega arith)

  find-places_none : find (is_broken t) (places t law) ≡ None → (a b c : ℕ)
      → a < choices t law 0 → b < choices t law 1 → c < choices t law 2 → not (law_holds t law a b c) ≡ false
  unfolding place breaks further tuples
  find-places_none none a b c a_in b_in c_in =
      finds.find-is_none (λ c. not (law_holds t law a b c)) (range_with_len 0 (choices t law 2))
      (finds.find-pairs_none (λ p. not (law_holds t law a p.0 p.1)) (range_with_len 0 (choices t law 2))
      (range_with_len 0 (choices t law 1))
      (finds.find-pairs_none breaks further (range_with_len 0 (choices t law 0))
      (finds.option_map-is_none place (find breaks tuples) (sym find-places ∙ none))
      a (IsIn-choices (choices t law 0) a a_in))
      b (IsIn-choices (choices t law 1) b b_in))
      c (IsIn-choices (choices t law 2) c c_in)

module _ (t : PlainRaw) (table : IsRaw t) where
  pub sum_in-is_element : (a b : ℕ) → a < t.size → b < t.size → sum_in t a b < t.size
  sum_in-is_element a b a_in b_in =
      table.sums_are_elements (a * t.size + b) 0
      (subst (λ n. a * t.size + b < n) (sym table.plus_is_whole) (mul-add-lt a t.size b t.size a_in b_in))

  pub product_in-is_element : (a b : ℕ) → a < t.size → b < t.size → product_in t a b < t.size
  product_in-is_element a b a_in b_in =
      table.products_are_elements (a * t.size + b) 0
      (subst (λ n. a * t.size + b < n) (sym table.mult_is_whole) (mul-add-lt a t.size b t.size a_in b_in))

  -- where no law breaks, both sides of each law are equal
  equal : first_break t ≡ None → (law a b c : ℕ) → law < LAWS
      → a < choices t law 0 → b < choices t law 1 → c < choices t law 2
      → (sides t law a b c).0 ≡ (sides t law a b c).1
  equal none law a b c law_in a_in b_in c_in =
      eqb-true _ _ (not-false _
      (find-places_none t law (find-flat_map_range_none (is_broken t) (places t) LAWS none law law_in)
      a b c a_in b_in c_in))

  pub first_break-IsSemiring : first_break t ≡ None → IsSemiring (semiring_of t)
  first_break-IsSemiring none = record {
    addition = record {
      monoid = record {
        unit_is_element = table.zero_is_element;
        product_is_element = sum_in-is_element;
        left_identity = λ a a_in.
            equal none 1 t.zero a 0 (omega arith) table.zero_is_element a_in (omega arith)
            ∙ equal none 0 a 0 0 (omega arith) a_in (omega arith) (omega arith);
        right_identity = λ a a_in. equal none 0 a 0 0 (omega arith) a_in (omega arith) (omega arith);
        associative = λ a b c a_in b_in c_in. equal none 2 a b c (omega arith) a_in b_in c_in;
      };
      commutative = λ a b a_in b_in. equal none 1 a b 0 (omega arith) a_in b_in (omega arith);
    };
    multiplication = record {
      unit_is_element = table.one_is_element;
      product_is_element = product_in-is_element;
      left_identity = λ a a_in. equal none 3 a 0 0 (omega arith) a_in (omega arith) (omega arith);
      right_identity = λ a a_in. equal none 4 a 0 0 (omega arith) a_in (omega arith) (omega arith);
      associative = λ a b c a_in b_in c_in. equal none 5 a b c (omega arith) a_in b_in c_in;
    };
    distributes_left = λ a b c a_in b_in c_in. equal none 6 a b c (omega arith) a_in b_in c_in;
    distributes_right = λ a b c a_in b_in c_in. equal none 7 a b c (omega arith) a_in b_in c_in;
    absorbs_left = λ a a_in. equal none 8 a 0 0 (omega arith) a_in (omega arith) (omega arith);
    absorbs_right = λ a a_in. equal none 9 a 0 0 (omega arith) a_in (omega arith) (omega arith);
    zero_reach = refl;
    one_reach = refl;
    add_reach = λ a b a_in b_in. omega arith;
    mul_reach = λ a b a_in b_in. omega arith;
  }

  choices-element : (law place n : ℕ) → n < choices t law place → n < t.size
  choices-element law place n below = by_test (ltb place (arity law)) below
    where
      by_test : (test : Bool) → n < cond test t.size 1 → n < t.size
      by_test true less = less
      by_test false less = (let some = table.some in omega arith)

  module _ (semiring : IsSemiring (semiring_of t)) where
    sides-equal : (law a b c : ℕ) → law < LAWS → a < t.size → b < t.size → c < t.size
        → (sides t law a b c).0 ≡ (sides t law a b c).1
    sides-equal zero a b c law_in a_in b_in c_in = semiring.addition.monoid.right_identity a a_in
    sides-equal (suc zero) a b c law_in a_in b_in c_in = semiring.addition.commutative a b a_in b_in
    sides-equal (suc (suc zero)) a b c law_in a_in b_in c_in = semiring.addition.monoid.associative a b c a_in b_in c_in
    sides-equal (suc (suc (suc zero))) a b c law_in a_in b_in c_in = semiring.multiplication.left_identity a a_in
    sides-equal (suc (suc (suc (suc zero)))) a b c law_in a_in b_in c_in = semiring.multiplication.right_identity a a_in
    sides-equal (suc (suc (suc (suc (suc zero))))) a b c law_in a_in b_in c_in =
        semiring.multiplication.associative a b c a_in b_in c_in
    sides-equal (suc (suc (suc (suc (suc (suc zero)))))) a b c law_in a_in b_in c_in =
        semiring.distributes_left a b c a_in b_in c_in
    sides-equal (suc (suc (suc (suc (suc (suc (suc zero))))))) a b c law_in a_in b_in c_in =
        semiring.distributes_right a b c a_in b_in c_in
    sides-equal (suc (suc (suc (suc (suc (suc (suc (suc zero)))))))) a b c law_in a_in b_in c_in =
        semiring.absorbs_left a a_in
    sides-equal (suc (suc (suc (suc (suc (suc (suc (suc (suc zero))))))))) a b c law_in a_in b_in c_in =
        semiring.absorbs_right a a_in
    sides-equal (suc (suc (suc (suc (suc (suc (suc (suc (suc (suc law)))))))))) a b c law_in a_in b_in c_in =
        absurd (omega arith)

    pub IsSemiring-first_break : first_break t ≡ None
    IsSemiring-first_break =
        find-flat_map_range_nowhere (is_broken t) (places t) LAWS
        (λ law law_in. find-places_nowhere t law
        (λ a a_in. finds.find-range_pairs_nowhere (λ p. not (law_holds t law a p.0 p.1)) (choices t law 1)
        (range_with_len 0 (choices t law 2))
        (λ b b_in. finds.find-range_nowhere (λ c. not (law_holds t law a b c)) (choices t law 2)
        (λ c c_in. not_from_true _ (eq-eqb _ _ (sides-equal law a b c law_in
        (choices-element law 0 a a_in) (choices-element law 1 b b_in) (choices-element law 2 c c_in)))))))
