-- How many candidates of walks there are, and how many marks they have, by state.
use Rattle.std.specs.Prelude.{◌≡◌, ℕ, ◌+◌, ◌<◌, Bool, true, false, List, length, min, Option, Some, None, slice_index_or}
use Rattle.shape_gen.specs.declared.counting.Extent.{Extent}
use Rattle.shape_gen.specs.declared.counting.TheConstants.{EXTENT_CAP}
use Rattle.shape_gen.specs.declared.mark.Mark.{Mark}
use Rattle.shape_gen.specs.Extents.{mark_count}
use Rattle.walk_gen.specs.declared.walker.TheConstants.{STATE_LIMIT}

-- the extent of no candidate
abbrev pub no_candidate : Extent
no_candidate = record { candidates = 0; marks = 0 }

-- of the empty candidate where there is one
abbrev pub end_extent : Bool → Extent
end_extent true = record { candidates = 1; marks = 0 }
end_extent false = no_candidate

-- this is the extent of these candidates
pub record HasExtent (lists : List (List Mark)) (extent : Extent) : Type 0 where
  pub candidates : extent.candidates ≡ min (length lists) EXTENT_CAP
  pub marks : extent.marks ≡ min (mark_count lists) EXTENT_CAP

-- these are the extents of the candidates of each state
abbrev pub HaveExtents : (ℕ → List (List Mark)) → List Extent → Type 0
HaveExtents lists extents =
    (state : ℕ) → state < STATE_LIMIT → HasExtent (lists state) (slice_index_or extents state no_candidate)

abbrev pub joined : Extent → Extent → Extent
joined a b = record {
  candidates = min (a.candidates + b.candidates) EXTENT_CAP;
  marks = min (a.marks + b.marks) EXTENT_CAP;
}

abbrev pub with_row : Option ℕ → Extent → Extent
with_row None rest = rest
with_row (Some label) rest = record {
  candidates = rest.candidates;
  marks = min (rest.marks + rest.candidates) EXTENT_CAP;
}
