-- The laws of edits of a plan: what a row that is replaced, added at the end or taken away there leaves as it was.
use Rattle.std.specs.Prelude.{◌≡◌, ℕ, ◌+◌, ◌<◌, ◌≤◌, ◌⊎◌}

-- the row is none of lo..hi
abbrev pub IsOutside : ℕ → ℕ → ℕ → Type 0
IsOutside row lo hi = (row < lo) ⊎ (hi ≤ row)

module _ {Plan Value : Type 0} (rows : Plan → ℕ) (stands : Plan → ℕ → ℕ → Value → Type 0)
    (leaf_bound : Plan → ℕ → ℕ) (join_bound : Plan → ℕ) where
  -- the second plan has so many rows and the bounds of the first, and what stood for an interval of these rows without
  -- the changed one stands for it still
  pub record LeavesTheRest (count changed : ℕ) (plan after : Plan) : Type 0 where
    pub row_count : rows after ≡ count
    pub still_stands : (lo hi : ℕ) (value : Value) → hi ≤ rows plan → hi ≤ rows after → IsOutside changed lo hi
        → stands plan lo hi value → stands after lo hi value
    pub same_leaf_bound : (size : ℕ) → leaf_bound after size ≡ leaf_bound plan size
    pub same_join_bound : join_bound after ≡ join_bound plan

  -- the edits of a plan change their row alone, and each can be taken back
  pub record IsEditable {Row : Type 0} (may_set : Plan → ℕ → Row → Type 0) (may_push : Plan → Row → Type 0)
      (has_row : Plan → ℕ → Row → Type 0) (after_set : Plan → ℕ → Row → Plan) (after_push : Plan → Row → Plan)
      (after_pop : Plan → Plan) (plan : Plan) : Type 0 where
    pub set_leaves_the_rest : (row : ℕ) (new : Row) → row < rows plan → may_set plan row new
        → LeavesTheRest (rows plan) row plan (after_set plan row new)
    pub push_leaves_the_rest : (new : Row) → may_push plan new
        → LeavesTheRest (rows plan + 1) (rows plan) plan (after_push plan new)
    pub pop_leaves_the_rest : (count : ℕ) → rows plan ≡ count + 1
        → LeavesTheRest count count plan (after_pop plan)
    pub old_row_may_be_set : (row : ℕ) (old new : Row) → row < rows plan → may_set plan row new → has_row plan row old
        → may_set (after_set plan row new) row old
    pub set_back : (row : ℕ) (old new : Row) → row < rows plan → may_set plan row new → has_row plan row old
        → after_set (after_set plan row new) row old ≡ plan
    pub pop_after_push : (new : Row) → may_push plan new → after_pop (after_push plan new) ≡ plan
