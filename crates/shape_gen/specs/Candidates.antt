-- All generated candidates, as lists of marks, in the order in which they are listed.
use Rattle.std.specs.Prelude.{ℕ, zero, suc, ◌+◌, ◌-◌, List, [], ◌∷◌, ◌++◌, map}
use Rattle.std.specs.List.{range_with_len, flat_map}
use Rattle.shape_gen.specs.declared.mark.Mark.{Mark}
use Rattle.shape_gen.specs.declared.shape.Shape.{Shape}
use Rattle.shape_gen.specs.declared.shape.Shape.TheVariants.{Sublists, Assign, Prefixes, Suffixes, Segments}

-- the mark of a row with a label
abbrev pub mark : ℕ → ℕ → Mark
mark row label = record { row = row; label = label }

-- count rows in order, from first on, without labels
abbrev pub run : ℕ → ℕ → List Mark
run first count = map (λ row. mark row 0) (range_with_len first count)

-- every choice among count rows from first on: those without the first row, then those with it
abbrev pub sublists : ℕ → ℕ → List (List Mark)
sublists first zero = [] ∷ []
sublists first (suc count) =
    sublists (first + 1) count ++ map (λ c. mark first 0 ∷ c) (sublists (first + 1) count)

-- every row with one of the labels: by the first row's label, then by the rest
abbrev pub assignments : ℕ → ℕ → ℕ → List (List Mark)
assignments labels first zero = [] ∷ []
assignments labels first (suc count) =
    flat_map (λ label. map (λ c. mark first label ∷ c) (assignments labels (first + 1) count)) (range_with_len 0 labels)

-- the nonempty runs that begin with the first row, by length
abbrev pub prefixes : ℕ → ℕ → List (List Mark)
prefixes first count = map (λ length. run first length) (range_with_len 1 count)

-- the nonempty runs that end with the last row, by length
abbrev pub suffixes : ℕ → ℕ → List (List Mark)
suffixes first count = map (λ length. run (first + count - length) length) (range_with_len 1 count)

-- the nonempty runs, by first row and then by last row
abbrev pub segments : ℕ → ℕ → List (List Mark)
segments first zero = []
segments first (suc count) = prefixes first (suc count) ++ segments (first + 1) count

-- all candidates of a shape over the first n rows
abbrev pub candidates : Shape → ℕ → ℕ → List (List Mark)
candidates Sublists n labels = sublists 0 n
candidates Assign n labels = assignments labels 0 n
candidates Prefixes n labels = map (λ length. run 0 length) (range_with_len 0 (n + 1))
candidates Suffixes n labels = map (λ length. run (n - length) length) (range_with_len 0 (n + 1))
candidates Segments n labels = [] ∷ segments 0 n
