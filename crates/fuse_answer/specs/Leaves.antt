-- How many rows a leaf has. No answer depends on it. A join takes the square of the number of keys, so that leaves of
-- fewer rows than keys don't pay; small jobs keep the leaf that was asked for.
use Rattle.std.specs.Prelude.{ℕ, ◌*◌, min, max, nat_lt, if◌then◌else◌}
use Rattle.std.specs.Int.{div_ceil}
use Rattle.fuse_answer.specs.declared.leaves.TheConstants.{DENSE_KEYS, SMALL_ROWS, LIST_ROWS}

-- rows of which each of so many workers gets one share
abbrev pub share : ℕ → ℕ → ℕ
share workers rows = div_ceil rows workers

-- where maps are rows of lanes: as many rows as keys where there are enough for the workers, and no more than four
-- times
-- as many
abbrev pub long_lane_leaf : ℕ → ℕ → ℕ → ℕ → ℕ
long_lane_leaf workers leaf rows keys = max leaf (min (4 * keys) (max keys (share workers rows)))

-- where values are lists
abbrev pub long_list_leaf : ℕ → ℕ → ℕ → ℕ → ℕ
long_list_leaf workers leaf rows keys = max leaf (min (share workers rows) (max LIST_ROWS (16 * keys)))

-- the leaf by which so many workers compute, who were asked for one of so many rows, over maps of so many keys
abbrev pub lane_leaf : ℕ → ℕ → ℕ → ℕ → ℕ
lane_leaf workers leaf rows keys =
    if nat_lt SMALL_ROWS rows
    then (if nat_lt keys DENSE_KEYS then leaf else long_lane_leaf workers leaf rows keys)
    else leaf

abbrev pub list_leaf : ℕ → ℕ → ℕ → ℕ → ℕ
list_leaf workers leaf rows keys = if nat_lt SMALL_ROWS rows then long_list_leaf workers leaf rows keys else leaf
