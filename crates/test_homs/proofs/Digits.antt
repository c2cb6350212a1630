-- The digits of prepared tests, read from their vectors, and what the test of a number comes to by its digit.
use Rattle.std.proofs.Common.{◌≡◌, ℕ, zero, suc, ◌<◌, ◌==◌, Bool, true, false, List, [], ◌∷◌, map, length}
use Rattle.std.proofs.Common.{get_or, slice_index_or, ⊎_elim, refl, ap, ◌∙◌, arith}
use Rattle.std.proofs.Math.ListN.{get_or-eq_default}
use Rattle.std.proofs.lemmas.Bool.{cases_lt}
use Rattle.std.proofs.lemmas.List.FromFn.{get_or-map-range_with_len, length-map-range_with_len}
use Rattle.monoid_product.specs.Component.{PlainComponent}
use Rattle.monoid_product.specs.Product.{digits}
use Rattle.test_homs.specs.declared.prepared.Prepared.{Prepared}
use Rattle.test_homs.specs.Joined.{components, outcome_of, outcomes_of}
use Rattle.test_homs.specs.Prepared.{PlainPrepared, plain_prepared}

abbrev pub plains : List Prepared → List PlainPrepared
plains tests = map plain_prepared tests

length-components : (tests : List Prepared) → length (components (plains tests)) ≡ length tests
length-components [] = refl
length-components (t ∷ ts) = ap suc (length-components ts)

length-digits : (parts : List PlainComponent) (key : ℕ) → length (digits parts key) ≡ length parts
length-digits [] key = refl
length-digits (c ∷ cs) key = ap suc (length-digits cs _)

pub length-key_digits : (tests : List Prepared) (key : ℕ)
    → length (digits (components (plains tests)) key) ≡ length tests
length-key_digits tests key = length-digits (components (plains tests)) key ∙ length-components tests

-- whether a test accepts its digit
abbrev pub accepts_at : List Prepared → List ℕ → ℕ → Prepared → Bool
accepts_at tests ds k d = slice_index_or (get_or tests k d).accept.items (get_or ds k 0) false

-- no test before has the number
abbrev pub NoneBefore : List Prepared → ℕ → ℕ → Type 0
NoneBefore tests number k = (j : ℕ) (e : Prepared) → j < k → ((get_or tests j e).number == number) ≡ false

outcome_of-first : (tests : List Prepared) (ds : List ℕ) (number k : ℕ) (d : Prepared) → length ds ≡ length tests
    → k < length tests → NoneBefore tests number k → ((get_or tests k d).number == number) ≡ true
    → outcome_of (plains tests) ds number ≡ accepts_at tests ds k d
outcome_of-first [] ds number k d same below before here = absurd (omega arith)
outcome_of-first (t ∷ ts) [] number k d same below before here = absurd (omega (arith, same))
outcome_of-first (t ∷ ts) (e ∷ ds) number zero d same below before here = rw here refl
outcome_of-first (t ∷ ts) (e ∷ ds) number (suc k) d same below before here =
    rw (before 0 t (omega arith))
    (outcome_of-first ts ds number k d (omega (arith, same)) (omega arith)
    (λ j f less. before (suc j) f (omega arith)) here)

outcome_of-nowhere : (tests : List Prepared) (ds : List ℕ) (number : ℕ) → NoneBefore tests number (length tests)
    → outcome_of (plains tests) ds number ≡ false
outcome_of-nowhere [] ds number none = refl
outcome_of-nowhere (t ∷ ts) [] number none = refl
outcome_of-nowhere (t ∷ ts) (e ∷ ds) number none =
    rw (none 0 t (omega arith)) (outcome_of-nowhere ts ds number (λ j f less. none (suc j) f (omega arith)))

-- the first test that has the number says what is at its place
pub outcomes_of-first : (tests : List Prepared) (ds : List ℕ) (number k : ℕ) (d : Prepared)
    → length ds ≡ length tests → number < length (plains tests) → k < length tests → NoneBefore tests number k
    → ((get_or tests k d).number == number) ≡ true
    → get_or (outcomes_of (plains tests) ds) number false ≡ accepts_at tests ds k d
outcomes_of-first tests ds number k d same number_in below before here =
    get_or-map-range_with_len (outcome_of (plains tests) ds) 0 (length (plains tests)) number number false number_in
    (omega arith)
    ∙ outcome_of-first tests ds number k d same below before here

pub outcomes_of-nowhere : (tests : List Prepared) (ds : List ℕ) (number : ℕ) → NoneBefore tests number (length tests)
    → get_or (outcomes_of (plains tests) ds) number false ≡ false
outcomes_of-nowhere tests ds number none =
    let count = length (plains tests) in
    let f = outcome_of (plains tests) ds in
    ⊎_elim
    (λ less. get_or-map-range_with_len f 0 count number number false less (omega arith)
    ∙ outcome_of-nowhere tests ds number none)
    (λ more. get_or-eq_default (outcomes_of (plains tests) ds) false
    (omega (arith, more, length-map-range_with_len f 0 count)))
    (cases_lt number count)
