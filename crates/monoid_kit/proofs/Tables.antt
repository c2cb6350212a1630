-- Tables of products: their cells are elements, and a table breaks no law exactly where it is a monoid.
use Rattle.std.proofs.Common.{◌≡◌, ℕ, ◌+◌, ◌*◌, ◌<◌, eqb, not, Bool, true, false, List, [], ◌∷◌, Some, None, get_or}
use Rattle.std.proofs.Common.{inl, inr, refl, sym, subst, ap, ◌∙◌, arith}
use Rattle.std.specs.List.{find}
use Rattle.std.proofs.lemmas.Bool.{not-false, not_from_true, not_from_false, eqb-true, eq-eqb, ne_eqb}
use Rattle.std.proofs.lemmas.Nat.{mul-add-lt}
use Rattle.monoid_kit.specs.declared.checks.TableFault.TheVariants.{UnitFails, NotAssociative}
use Rattle.monoid_kit.specs.FirstBad.{elements, unit_fails, is_not_associative, first_bad, first_unit_failure}
use Rattle.monoid_kit.specs.FirstBad.{first_triple}
use Rattle.monoid_kit.specs.Items.{IsIn, pairs}
use Rattle.monoid_kit.specs.Monoid.{IsMonoid}
use Rattle.monoid_kit.specs.Table.{PlainTable, IsTable, table_mul}
use Rattle.monoid_kit.proofs.Finds as finds

test-is : (x y : ℕ) → not (eqb x y) ≡ false → x ≡ y
test-is x y fails = eqb-true x y (not-false (eqb x y) fails)

is-test : (x y : ℕ) → x ≡ y → not (eqb x y) ≡ false
is-test x y same = not_from_true (eqb x y) (eq-eqb x y same)

changed-test : (x y : ℕ) → (x ≡ y → ⊥) → not (eqb x y) ≡ true
changed-test x y changed = not_from_false (eqb x y) (ne_eqb x y changed)

module _ (t : PlainTable) where
  pub find-unit_fails_left : (x : ℕ) → (table_mul t t.unit x ≡ x → ⊥)
      → find (unit_fails t x) (true ∷ false ∷ []) ≡ Some true
  find-unit_fails_left x changed = rw (changed-test (table_mul t t.unit x) x changed) refl

  pub find-unit_fails_right : (x : ℕ) → table_mul t t.unit x ≡ x → (table_mul t x t.unit ≡ x → ⊥)
      → find (unit_fails t x) (true ∷ false ∷ []) ≡ Some false
  find-unit_fails_right x kept changed =
      rw (is-test (table_mul t t.unit x) x kept, changed-test (table_mul t x t.unit) x changed) refl

  -- both products of three elements, read from the rows of their left factors
  module _ (a b : ℕ) (b_in : b < t.size) (by_a by_b by_ab : List ℕ)
      (a_row : (k : ℕ) → k < t.size → get_or by_a k 0 ≡ table_mul t a k)
      (b_row : (k : ℕ) → k < t.size → get_or by_b k 0 ≡ table_mul t b k)
      (ab_row : (k : ℕ) → k < t.size → get_or by_ab k 0 ≡ table_mul t (get_or by_a b 0) k)
      (b_elements : (k : ℕ) → k < t.size → get_or by_b k 0 < t.size) where
    left_product : (c : ℕ) → c < t.size → get_or by_ab c 0 ≡ table_mul t (table_mul t a b) c
    left_product c c_in = ab_row c c_in ∙ ap (λ ab. table_mul t ab c) (a_row b b_in)

    right_product : (c : ℕ) → c < t.size → get_or by_a (get_or by_b c 0) 0 ≡ table_mul t a (table_mul t b c)
    right_product c c_in = a_row (get_or by_b c 0) (b_elements c c_in) ∙ ap (table_mul t a) (b_row c c_in)

    pub is_not_associative-rows : (c : ℕ) → c < t.size
        → is_not_associative t a b c ≡ not (eqb (get_or by_ab c 0) (get_or by_a (get_or by_b c 0) 0))
    is_not_associative-rows c c_in =
        ap (λ product. not (eqb product (table_mul t a (table_mul t b c)))) (sym (left_product c c_in))
        ∙ ap (λ product. not (eqb (get_or by_ab c 0) product)) (sym (right_product c c_in))

module _ (t : PlainTable) (table : IsTable t) where
  pub table_mul-is_element : (a b : ℕ) → a < t.size → b < t.size → table_mul t a b < t.size
  table_mul-is_element a b a_in b_in =
      table.cells_are_elements (a * t.size + b) 0
      (subst (λ n. a * t.size + b < n) (sym table.whole) (mul-add-lt a t.size b t.size a_in b_in))

  IsIn-elements : (x : ℕ) → x < t.size → IsIn x (elements t)
  IsIn-elements x below = finds.IsIn-range_of 0 t.size x (omega arith) (omega arith)

  unit_kept : first_unit_failure t ≡ None → (x : ℕ) (left : Bool) → IsIn left (true ∷ false ∷ [])
      → x < t.size → unit_fails t x left ≡ false
  unit_kept none x left left_in below =
      finds.find-is_none (unit_fails t x) (true ∷ false ∷ [])
      (finds.find-pairs_none (λ p. unit_fails t p.0 p.1) (true ∷ false ∷ []) (elements t) none x
      (IsIn-elements x below))
      left left_in

  associates : first_triple t ≡ None → (a b c : ℕ) → a < t.size → b < t.size → c < t.size
      → is_not_associative t a b c ≡ false
  associates none a b c a_in b_in c_in =
      finds.find-is_none (is_not_associative t a b) (elements t)
      (finds.find-pairs_none (λ p. is_not_associative t a p.0 p.1) (elements t) (elements t)
      (finds.find-pairs_none (λ p. is_not_associative t p.0 p.1.0 p.1.1) (pairs (elements t) (elements t)) (elements t)
      none a (IsIn-elements a a_in))
      b (IsIn-elements b b_in))
      c (IsIn-elements c c_in)

  -- where neither search finds anything, the table is a monoid
  pub table_mul-IsMonoid : first_unit_failure t ≡ None → first_triple t ≡ None → IsMonoid t.size t.unit (table_mul t)
  table_mul-IsMonoid kept associative = record {
    unit_is_element = table.unit_is_element;
    product_is_element = table_mul-is_element;
    left_identity = λ a a_in. test-is (table_mul t t.unit a) a (unit_kept kept a true (inl refl) a_in);
    right_identity = λ a a_in. test-is (table_mul t a t.unit) a (unit_kept kept a false (inr (inl refl)) a_in);
    associative = λ a b c a_in b_in c_in.
        test-is (table_mul t (table_mul t a b) c) (table_mul t a (table_mul t b c))
        (associates associative a b c a_in b_in c_in);
  }

  pub first_bad-IsMonoid : first_bad t ≡ None → IsMonoid t.size t.unit (table_mul t)
  first_bad-IsMonoid none =
      table_mul-IsMonoid
      (finds.option_map-is_none (λ p. UnitFails p.0 p.1) (first_unit_failure t) (finds.option_or-first_none _ _ none))
      (finds.option_map-is_none (λ p. NotAssociative p.0 p.1.0 p.1.1) (first_triple t)
      (finds.option_or-second_none _ _ none))

  module _ (monoid : IsMonoid t.size t.unit (table_mul t)) where
    keeps_unit : (x : ℕ) (left : Bool) → x < t.size → unit_fails t x left ≡ false
    keeps_unit x true below = is-test (table_mul t t.unit x) x (monoid.left_identity x below)
    keeps_unit x false below = is-test (table_mul t x t.unit) x (monoid.right_identity x below)

    no_unit_failure : first_unit_failure t ≡ None
    no_unit_failure =
        finds.find-range_pairs_nowhere (λ p. unit_fails t p.0 p.1) t.size (true ∷ false ∷ [])
        (λ x below. finds.find-nowhere (unit_fails t x) (true ∷ false ∷ []) (λ left left_in. keeps_unit x left below))

    no_triple : first_triple t ≡ None
    no_triple =
        finds.find-range_pairs_nowhere (λ p. is_not_associative t p.0 p.1.0 p.1.1) t.size
        (pairs (elements t) (elements t))
        (λ a a_in. finds.find-range_pairs_nowhere (λ p. is_not_associative t a p.0 p.1) t.size (elements t)
        (λ b b_in. finds.find-range_nowhere (is_not_associative t a b) t.size
        (λ c c_in. is-test (table_mul t (table_mul t a b) c) (table_mul t a (table_mul t b c))
        (monoid.associative a b c a_in b_in c_in))))

    pub IsMonoid-first_bad : first_bad t ≡ None
    IsMonoid-first_bad = rw (no_unit_failure, no_triple) refl
