-- What an edit of the plan leaves of a tree, and how many joins it takes.
use Rattle.std.proofs.Common.{◌≡◌, ℕ, zero, suc, ◌+◌, ◌*◌, ◌<◌, ◌≤◌, ◌↔◌, Bool, true, false, arith, ap, sym}
use Rattle.std.proofs.Common.{subst, ◌∙◌, inr, refl}
use Rattle.std.specs.Prelude.{IsTrue, OnOk, Result, Ok, Err, if◌then◌else◌}
use Rattle.std.specs.Result.{is_err}
use Rattle.std.proofs.lemmas.Bool.{false≢true}
use Rattle.std.proofs.lemmas.Nat.{mul-le}
use Rattle.interval_tree.specs.Editable.{LeavesTheRest, IsEditable}
use Rattle.interval_tree.specs.declared.node.Node.{Node}
use Rattle.interval_tree.specs.declared.node.Node.TheVariants.{NoRows, Row, Rows'}
use Rattle.interval_tree.specs.Node.{Holds, height}
use Rattle.interval_tree.specs.Levels.{levels}
use Rattle.interval_tree.specs.Path.{standing_without}
use Rattle.interval_tree.proofs.Nodes.{Holds-map}
use Rattle.interval_tree.proofs.Heights.{height_bound, levels_greatest}

module _ {Plan V : Type 0} {rows : Plan → ℕ} {stands : Plan → ℕ → ℕ → V → Type 0}
    {leaf_bound : Plan → ℕ → ℕ} {join_bound : Plan → ℕ} where
  -- all but the values of the changed row stand
  pub others_stand : (changed : ℕ) (plan after : Plan) (node : Node V)
      → LeavesTheRest rows stands leaf_bound join_bound (rows plan) changed plan after
      → Holds (stands plan) 0 (rows plan) node → Holds (standing_without (stands after) changed) 0 (rows plan) node
  others_stand changed plan after node left holds =
      Holds-map (stands plan) (standing_without (stands after) changed) 0 (rows plan)
      (λ l h v from to stood outside.
      left.still_stands l h v to (omega (arith, left.row_count)) outside stood)
      0 (rows plan) node (omega arith) (omega arith) holds

module _ {V : Type 0} (stands : ℕ → ℕ → V → Type 0) where
  empty_height : (node : Node V) → Holds stands 0 0 node → height node ≡ 0
  empty_height NoRows holds = refl
  empty_height (Row w) holds = refl
  empty_height (Rows' p left mid w q right) (a, b, c, d, e, f, g) = absurd (omega (arith, a, b))

  pub height_within : (rows : ℕ) (node : Node V) → Holds stands 0 rows node → 0 < rows → height node ≤ levels rows
  height_within rows node holds some =
      levels_greatest rows (height node) (omega (arith, height_bound stands 0 rows node holds some))

  -- a level more is within twice the levels of one row more
  pub height_after_push : (rows : ℕ) (node : Node V) → Holds stands 0 rows node
      → height node + 1 ≤ 2 * levels (rows + 1)
  height_after_push zero node holds =
      omega (arith, levels_greatest 1 1 (omega arith), empty_height node holds)
  height_after_push (suc rows) node holds =
      let high : height node ≤ levels (suc rows + 1) =
      levels_greatest (suc rows + 1) (height node)
      (omega (arith, height_bound stands 0 (suc rows) node holds (omega arith))) in
      omega (arith, levels_greatest (suc rows + 1) 1 (omega arith))

module _ {Plan Row V : Type 0} {rows : Plan → ℕ} {stands : Plan → ℕ → ℕ → V → Type 0}
    {leaf_bound : Plan → ℕ → ℕ} {join_bound : Plan → ℕ}
    {may_set : Plan → ℕ → Row → Type 0} {may_push : Plan → Row → Type 0} {has_row : Plan → ℕ → Row → Type 0}
    {after_set : Plan → ℕ → Row → Plan} {after_push : Plan → Row → Plan} {after_pop : Plan → Plan}
    (laws : (plan : Plan) → IsEditable rows stands leaf_bound join_bound may_set may_push has_row
    after_set after_push after_pop plan)
    (plan after : Plan) (row : ℕ) (new : Row) (in_range : row < rows plan) (may : may_set plan row new)
    (set_is : after ≡ after_set plan row new) where
  left_by_set : LeavesTheRest rows stands leaf_bound join_bound (rows plan) row plan after
  left_by_set =
      subst (λ p. LeavesTheRest rows stands leaf_bound join_bound (rows plan) row plan p) (sym set_is)
      ((laws plan).set_leaves_the_rest row new in_range may)

  pub set_rows : rows after ≡ rows plan
  set_rows = left_by_set.row_count

  pub set_stand : (count : ℕ) (node : Node V) → count ≡ rows plan → Holds (stands plan) 0 (rows plan) node
      → Holds (standing_without (stands after) row) 0 count node
  set_stand count node all holds =
      subst (λ n. Holds (standing_without (stands after) row) 0 n node) (sym all)
      (others_stand row plan after node left_by_set holds)

  pub set_cost : (before steps : ℕ) (node : Node V) → Holds (stands plan) 0 (rows plan) node
      → steps ≤ before + leaf_bound after 1 + join_bound after * height node
      → steps ≤ before + leaf_bound plan 1 + join_bound plan * (2 * levels (rows plan))
  set_cost before steps node holds cost =
      let high : height node ≤ levels (rows plan) =
      height_within (stands plan) (rows plan) node holds (omega (arith, in_range)) in
      let joins : join_bound after * height node ≤ join_bound plan * (2 * levels (rows plan)) =
      mul-le (join_bound after) (height node) (join_bound plan) (2 * levels (rows plan))
      (omega (arith, left_by_set.same_join_bound)) (omega arith) in
      omega (arith, left_by_set.same_leaf_bound 1)

  pub set_may_go_back : (old : Row) → has_row plan row old → may_set after row old
  set_may_go_back old has =
      subst (λ p. may_set p row old) (sym set_is) ((laws plan).old_row_may_be_set row old new in_range may has)

  pub set_goes_back : (old : Row) (again : Plan) → has_row plan row old → again ≡ after_set after row old
      → again ≡ plan
  set_goes_back old again has back =
      back ∙ ap (λ p. after_set p row old) set_is ∙ (laws plan).set_back row old new in_range may has

module _ {Plan Row V : Type 0} {rows : Plan → ℕ} {stands : Plan → ℕ → ℕ → V → Type 0}
    {leaf_bound : Plan → ℕ → ℕ} {join_bound : Plan → ℕ}
    {may_set : Plan → ℕ → Row → Type 0} {may_push : Plan → Row → Type 0} {has_row : Plan → ℕ → Row → Type 0}
    {after_set : Plan → ℕ → Row → Plan} {after_push : Plan → Row → Plan} {after_pop : Plan → Plan}
    (laws : (plan : Plan) → IsEditable rows stands leaf_bound join_bound may_set may_push has_row
    after_set after_push after_pop plan) where
  module _ (plan after : Plan) (new : Row) (may : may_push plan new) (push_is : after ≡ after_push plan new) where
    left_by_push : LeavesTheRest rows stands leaf_bound join_bound (rows plan + 1) (rows plan) plan after
    left_by_push =
        subst (λ p. LeavesTheRest rows stands leaf_bound join_bound (rows plan + 1) (rows plan) plan p) (sym push_is)
        ((laws plan).push_leaves_the_rest new may)

    pub push_rows : rows after ≡ rows plan + 1
    push_rows = left_by_push.row_count

    -- what the node holds stands still
    pub push_stand : (count : ℕ) (node : Node V) → count ≡ rows plan → Holds (stands plan) 0 (rows plan) node
        → Holds (stands after) 0 count node
    push_stand count node all holds =
        subst (λ n. Holds (stands after) 0 n node) (sym all)
        (Holds-map (stands plan) (stands after) 0 (rows plan)
        (λ l h v from to stood.
        left_by_push.still_stands l h v to (omega (arith, push_rows)) (inr to) stood)
        0 (rows plan) node (omega arith) (omega arith) holds)

    pub push_cost : (before steps : ℕ) (node : Node V) → Holds (stands plan) 0 (rows plan) node
        → steps ≤ before + leaf_bound after 1 + join_bound after * (height node + 1)
        → steps ≤ before + leaf_bound plan 1 + join_bound plan * (2 * levels (rows plan + 1))
    push_cost before steps node holds cost =
        let high : height node + 1 ≤ 2 * levels (rows plan + 1) =
        height_after_push (stands plan) (rows plan) node holds in
        let joins : join_bound after * (height node + 1) ≤ join_bound plan * (2 * levels (rows plan + 1)) =
        mul-le (join_bound after) (height node + 1) (join_bound plan) (2 * levels (rows plan + 1))
        (omega (arith, left_by_push.same_join_bound)) (omega arith) in
        omega (arith, left_by_push.same_leaf_bound 1)

    pub push_goes_back : (popped : Bool) (again : Plan) → (IsTrue popped ↔ (1 ≤ rows after))
        → again ≡ (if popped then after_pop after else after) → again ≡ plan
    push_goes_back true again some back =
        back ∙ ap after_pop push_is ∙ (laws plan).pop_after_push new may
    push_goes_back false again some back = absurd (false≢true (some.1 (omega (arith, push_rows))))

  module _ (plan after : Plan) (count : ℕ) (many : rows plan ≡ count + 1) (pop_is : after ≡ after_pop plan) where
    left_by_pop : LeavesTheRest rows stands leaf_bound join_bound count count plan after
    left_by_pop =
        subst (λ p. LeavesTheRest rows stands leaf_bound join_bound count count plan p) (sym pop_is)
        ((laws plan).pop_leaves_the_rest count many)

    pub pop_stand : (node : Node V) → Holds (stands plan) 0 count node → Holds (stands after) 0 (rows after) node
    pop_stand node holds =
        subst (λ n. Holds (stands after) 0 n node) (sym left_by_pop.row_count)
        (Holds-map (stands plan) (stands after) 0 count
        (λ l h v from to stood.
        left_by_pop.still_stands l h v (omega (arith, many)) (omega (arith, left_by_pop.row_count)) (inr to) stood)
        0 count node (omega arith) (omega arith) holds)

  pub popped_is : (plan again : Plan) (popped : Bool) → 0 < rows plan → (IsTrue popped ↔ (1 ≤ rows plan))
      → again ≡ (if popped then after_pop plan else plan) → again ≡ after_pop plan
  popped_is plan again true some is back = back
  popped_is plan again false some is back = absurd (false≢true (is.1 (omega arith)))

  pub pop_cost : (plan : Plan) (before steps : ℕ) (node : Node V) → 0 < rows plan
      → Holds (stands plan) 0 (rows plan) node → steps ≤ before + join_bound plan * height node
      → steps ≤ before + join_bound plan * (2 * levels (rows plan))
  pop_cost plan before steps node some holds cost =
      let high : height node ≤ levels (rows plan) = height_within (stands plan) (rows plan) node holds some in
      let joins : join_bound plan * height node ≤ join_bound plan * (2 * levels (rows plan)) =
      mul-le (join_bound plan) (height node) (join_bound plan) (2 * levels (rows plan)) (omega arith) (omega arith) in
      omega arith

-- a push that is no error is answered Ok
pub when_ok : {T E : Type 0} (result : Result T E) (fact : Type 0) → OnOk result fact → false ≡ is_err result → fact
when_ok (Ok x) fact holds is = holds
when_ok (Err e) fact holds is = absurd (false≢true is)
