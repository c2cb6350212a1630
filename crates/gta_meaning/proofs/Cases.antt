-- The value of a measure, by where its first case stands whose condition holds.
use Rattle.std.proofs.Common.{◌≡◌, ℕ, ◌<◌, ℤ, pos, Bool, true, false, List, map, length, get_or, Option, sym, ap, ◌∙◌}
use Rattle.std.specs.List.{find}
use Rattle.gta_checked.specs.PlainRows.{PlainRows}
use Rattle.gta_checked.specs.declared.resolved.Case.{Case}
use Rattle.gta_checked.specs.declared.resolved.Measure.{Measure}
use Rattle.gta_checked.specs.Plain.{PlainCase, plain_case, plain_measure}
use Rattle.gta_meaning.specs.Values.{holds, form_value, case_value, measure_value}
use Rattle.gta_meaning.proofs.First.{find-map-first, find-map-none}

module _ (rows : PlainRows) (row label : ℕ) (measure : Measure) (items : List Case)
    (same : items ≡ measure.cases.items) where
  abbrev picks : PlainCase → Bool
  picks case = holds rows row label case.cond

  abbrev value_if : Option PlainCase → ℤ
  value_if case = case_value rows row case

  pub measure_value-first : (i : ℕ) (case : Case) → i < length items → case ≡ get_or items i case
      → ((k : ℕ) (d : Case) → k < i → picks (plain_case (get_or items k d)) ≡ false) → picks (plain_case case) ≡ true
      → form_value rows row case.form.items ≡ measure_value rows row label (plain_measure measure)
  measure_value-first i case below is before here =
      let at : picks (plain_case (get_or items i case)) ≡ true = ap (λ x. picks (plain_case x)) (sym is) ∙ here in
      let found = find-map-first plain_case picks items i case below (λ k less. before k case less) at in
      ap (λ (x : Case). form_value rows row x.form.items) is ∙ ap value_if (sym found)
      ∙ ap (λ xs. value_if (find picks (map plain_case xs))) same

  pub measure_value-none :
      ((k : ℕ) (d : Case) → k < length items → picks (plain_case (get_or items k d)) ≡ false)
      → pos 0 ≡ measure_value rows row label (plain_measure measure)
  measure_value-none nowhere =
      ap value_if (sym (find-map-none plain_case picks items nowhere))
      ∙ ap (λ xs. value_if (find picks (map plain_case xs))) same
