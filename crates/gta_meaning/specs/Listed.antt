-- Which lists of candidates are too long to be made.
use Rattle.std.specs.Prelude.{ℕ, Bool, ◌||◌, List, length, map, nat_lt}
use Rattle.shape_gen.specs.declared.mark.Mark.{Mark}
use Rattle.shape_gen.specs.Extents.{mark_count}
use Rattle.gta_checked.specs.PlainRows.{PlainRows}
use Rattle.gta_checked.specs.Plain.{PlainChecked}
use Rattle.gta_meaning.specs.declared.candidate.Candidate.{Candidate}
use Rattle.gta_meaning.specs.Kept.{generated}

-- more candidates are generated than the one number, or they have more marks together than the other
abbrev pub is_too_many : PlainChecked → PlainRows → ℕ → ℕ → Bool
is_too_many checked rows most most_marks =
    nat_lt most (length (generated checked rows)) || nat_lt most_marks (mark_count (generated checked rows))

-- the marks of each candidate
abbrev pub marks_of : List Candidate → List (List Mark)
marks_of list = map (λ candidate. candidate.marks.items) list
