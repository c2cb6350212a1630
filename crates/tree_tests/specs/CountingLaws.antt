-- The laws of edits of the plan that counts rows.
use Rattle.std.specs.Prelude.{◌≡◌, ℕ, ◌+◌, ◌-◌}
use Rattle.std.proofs.Common.{refl, ap, arith}
use Rattle.interval_tree.specs.Editable.{IsEditable}
use Rattle.tree_tests.specs.declared.counting.Counting.{Counting}

abbrev pub with_rows : Counting → ℕ → Counting
with_rows p rows = record { rows = rows; calls = p.calls; refused = p.refused }

pub counting_laws : (p : Counting) → IsEditable {Plan = Counting} {Value = ℕ} (λ p. p.rows)
    (λ p lo hi value. value ≡ hi - lo) (λ p rows. 0) (λ p. 0) {Row = Unit {0}} (λ p row new. Unit {0})
    (λ p new. Unit {0}) (λ p row old. Unit {0}) (λ p row new. p) (λ p new. with_rows p (p.rows + 1))
    (λ p. with_rows p (p.rows - 1)) p
counting_laws p = record {
  set_leaves_the_rest = λ row new below may. record {
    row_count = refl;
    still_stands = λ lo hi value within after outside stood. stood;
    same_leaf_bound = λ size. refl;
    same_join_bound = refl;
  };
  push_leaves_the_rest = λ new may. record {
    row_count = refl;
    still_stands = λ lo hi value within after outside stood. stood;
    same_leaf_bound = λ size. refl;
    same_join_bound = refl;
  };
  pop_leaves_the_rest = λ count many. record {
    row_count = omega (arith, many);
    still_stands = λ lo hi value within after outside stood. stood;
    same_leaf_bound = λ size. refl;
    same_join_bound = refl;
  };
  old_row_may_be_set = λ row old new below may has. tt;
  set_back = λ row old new below may has. refl;
  pop_after_push = λ new may. ap (with_rows p) (let e : p.rows + 1 - 1 ≡ p.rows = omega arith in e);
}
