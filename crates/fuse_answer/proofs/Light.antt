-- Where no row is heavy, each weight and those of all rows together are within the bound of weights.
use Rattle.std.proofs.Common.{◌≡◌, refl, ap, ◌∙◌, subst, ℕ, zero, suc, ◌+◌, ◌<◌, ◌≤◌, sum_by}
use Rattle.std.proofs.Common.{Bool, true, false, List, arith}
use Rattle.std.specs.Prelude.{Some, None, unsigned_abs}
use Rattle.std.specs.List.{find, range_with_len}
use Rattle.std.proofs.lemmas.List.Sums.{sum-map}
use Rattle.monoid_kit.specs.Items.{IsIn}
use Rattle.gta_text.specs.declared.numbers.TheConstants.{NUMBER_BOUND}
use Rattle.shape_gen.specs.declared.mark.Mark.{Mark}
use Rattle.gta_checked.specs.Plain.{PlainChecked}
use Rattle.gta_checked.specs.PlainRows.{PlainRows}
use Rattle.gta_meaning.specs.InRange.{IsMarkInRange, label_count}
use Rattle.gta_meaning.specs.Heavy.{first_past, is_heavy, row_weight, weight_of_rows}
use Rattle.gta_meaning.proofs.Weights.{sum-more}
use Rattle.fuse_answer.specs.Weighed.{value_at}
use Rattle.fuse_answer.specs.WeightLaws.{value-within}

by_test : {A : Type 0} (b : Bool) → (b ≡ true → A) → (b ≡ false → A) → A
by_test true t f = t refl
by_test false t f = f refl

-- where a search finds nothing, the test holds nowhere
find-none-each : (p : ℕ → Bool) (a n : ℕ) → find p (range_with_len a n) ≡ None → (k : ℕ) → k < n → p (a + k) ≡ false
find-none-each p a zero none k below = absurd (omega arith)
find-none-each p a (suc n) none zero below =
    by_test (p a)
    (λ t. absurd (let found : Some a ≡ None = rw t at none in cc))
    (λ f. ap p (omega arith) ∙ f)
find-none-each p a (suc n) none (suc k) below =
    by_test (p a)
    (λ t. absurd (let found : Some a ≡ None = rw t at none in cc))
    (λ f. let rest : find p (range_with_len (a + 1) n) ≡ None = rw f at none in
    ap p (omega arith) ∙ find-none-each p (a + 1) n rest k (omega arith))

-- reaches of marks that stay within bounds of their rows, which add up within the bound of weights
pub record IsLight (far : Mark → ℕ) (bound : ℕ → ℕ) (rows labels : ℕ) : Type 0 where
  pub mark : (m : Mark) → IsMarkInRange rows labels m → far m ≤ bound m.row
  pub row : (row : ℕ) → row < rows → bound row ≤ NUMBER_BOUND
  pub all : sum_by bound (range_with_len 0 rows) ≤ NUMBER_BOUND

module _ (checked : PlainChecked) (rows : PlainRows) (measures : List ℕ)
    (light : first_past checked rows measures ≡ None) where
  rows-light : (count : ℕ) → count ≤ rows.count → weight_of_rows checked rows measures count ≤ NUMBER_BOUND
  rows-light zero within = omega arith
  rows-light (suc row) within =
      let here = find-none-each (is_heavy checked rows measures) 0 rows.count light row (omega arith) in
      let up : 0 + row + 1 ≡ suc row = omega arith in
      subst (λ n. weight_of_rows checked rows measures n ≤ NUMBER_BOUND) up (grind (arith, here))

  pub row-light : (row : ℕ) → row < rows.count → row_weight checked rows measures row ≤ NUMBER_BOUND
  row-light row below =
      let all = rows-light (row + 1) (omega arith) in
      let last = sum-more (row_weight checked rows measures) row in
      omega (arith, all, last)

  -- what reaches no further than its row weighs is light
  pub weights-light : (far : Mark → ℕ)
      → ((m : Mark) → m.label < label_count checked → far m ≤ row_weight checked rows measures m.row)
      → IsLight far (row_weight checked rows measures) rows.count (label_count checked)
  weights-light far within = record {
    mark = λ m in_range. within m in_range.label;
    row = row-light;
    all =
        let all = rows-light rows.count (omega arith) in
        let same = sum-map (row_weight checked rows measures) (range_with_len 0 rows.count) in
        omega (arith, all, same);
  }

  pub value-light : (measure : ℕ) (m : Mark) → IsIn measure measures → m.row < rows.count
      → m.label < label_count checked → unsigned_abs (value_at checked rows measure m) ≤ NUMBER_BOUND
  value-light measure m measure_in below label_below =
      let each = value-within checked rows measures measure m measure_in label_below in
      let whole = row-light m.row below in
      omega (arith, each, whole)
