-- Wirings: how the lists of each component come from those of the halves of an interval, and from its first row and the
-- later ones. Components are told by their places. A wiring knows no shape; those of the five shapes stand at the end.
use Rattle.std.specs.Prelude.{ℕ, ◌+◌, ◌<◌, Bool, true, false, List, [], ◌∷◌, ◌++◌, map, if◌then◌else◌}
use Rattle.std.specs.List.{flat_map, range_with_len}
use Rattle.shape_gen.specs.declared.mark.Mark.{Mark}
use Rattle.shape_gen.specs.declared.shape.Shape.{Shape}
use Rattle.shape_gen.specs.declared.shape.Shape.TheVariants.{Sublists, Assign, Prefixes, Suffixes, Segments}
use Rattle.shape_gen.specs.Candidates.{mark}
use Rattle.shape_gen.specs.Parts.{Component, Whole, Pre, Suf, Seg, components}
use Rattle.fuse_core.specs.declared.wiring.Source.{Source}
use Rattle.fuse_core.specs.declared.wiring.Source.TheVariants.{Left, Right, Across}
use Rattle.fuse_core.specs.declared.wiring.Growth.{Growth}
use Rattle.fuse_core.specs.declared.wiring.Growth.TheVariants.{Kept, Alone, Before, Same}
use Rattle.fuse_core.specs.declared.wiring.Wires.{Wires}
use Rattle.fuse_core.specs.declared.wiring.Ending.{Ending}

-- how one component comes about
pub record WiresOn : Type 0 where
  pub has_empty : Bool
  pub sources : List Source
  pub keeps : Bool
  pub growths : List Growth

abbrev pub wires_on : Wires → WiresOn
wires_on w = record {
  has_empty = w.has_empty;
  sources = w.sources.items;
  keeps = w.keeps;
  growths = w.growths.items;
}

-- every list of the first with every list of the second behind it
abbrev pub joints : List (List Mark) → List (List Mark) → List (List Mark)
joints cs ds = flat_map (λ c. map (λ d. c ++ d) ds) cs

-- the lists of a source, from those of the components of both halves
abbrev pub source_lists : (ℕ → List (List Mark)) → (ℕ → List (List Mark)) → Source → List (List Mark)
source_lists left right (Left place) = left place
source_lists left right (Right place) = right place
source_lists left right (Across earlier later) = joints (left earlier) (right later)

-- the lists that a row brings, from those of the later rows and those that it brings to the components before
abbrev pub growth_lists : ℕ → (ℕ → List (List Mark)) → (ℕ → List (List Mark)) → Growth → List (List Mark)
growth_lists row later added (Kept place) = later place
growth_lists row later added (Alone label) = (mark row label ∷ []) ∷ []
growth_lists row later added (Before label place) = map (λ c. mark row label ∷ c) (later place)
growth_lists row later added (Same place) = added place

-- the lists where the test holds, and else none
abbrev pub kept_lists : Bool → List (List Mark) → List (List Mark)
kept_lists keeps lists = if keeps then lists else []

-- how many pairs of maps a join multiplies for one component
abbrev pub crossings : List Source → ℕ
crossings [] = 0
crossings (Left place ∷ sources) = crossings sources
crossings (Right place ∷ sources) = crossings sources
crossings (Across earlier later ∷ sources) = 1 + crossings sources

-- how many maps a row multiplies for one component
abbrev pub shifts : List Growth → ℕ
shifts [] = 0
shifts (Kept place ∷ growths) = shifts growths
shifts (Alone label ∷ growths) = shifts growths
shifts (Before label place ∷ growths) = 1 + shifts growths
shifts (Same place ∷ growths) = shifts growths

-- so for all components
abbrev pub all_crossings : List WiresOn → ℕ
all_crossings [] = 0
all_crossings (w ∷ wires) = crossings w.sources + all_crossings wires

abbrev pub all_shifts : List WiresOn → ℕ
all_shifts [] = 0
all_shifts (w ∷ wires) = shifts w.growths + all_shifts wires

-- a source names components that there are
abbrev pub SourceWithin : ℕ → Source → Type 0
SourceWithin width (Left place) = place < width
SourceWithin width (Right place) = place < width
SourceWithin width (Across earlier later) = (earlier < width) × (later < width)

-- a growth names labels and components that there are, and components before its own
abbrev pub GrowthWithin : ℕ → ℕ → ℕ → Growth → Type 0
GrowthWithin labels width own (Kept place) = place < width
GrowthWithin labels width own (Alone label) = label < labels
GrowthWithin labels width own (Before label place) = (label < labels) × (place < width)
GrowthWithin labels width own (Same place) = place < own

-- the wiring of a shape

-- the place of the suffixes
abbrev pub suffixes_place : Shape → ℕ
suffixes_place Segments = 2
suffixes_place Sublists = 1
suffixes_place Assign = 1
suffixes_place Prefixes = 1
suffixes_place Suffixes = 1

-- whole lists: sublists keep those without the row, and assignments give it each label
abbrev pub whole_growths : Shape → ℕ → List Growth
whole_growths Assign labels = map (λ label. Before label 0) (range_with_len 0 labels)
whole_growths Sublists labels = Kept 0 ∷ Before 0 0 ∷ []
whole_growths Prefixes labels = Before 0 0 ∷ []
whole_growths Suffixes labels = Before 0 0 ∷ []
whole_growths Segments labels = Before 0 0 ∷ []

abbrev pub whole_wires : Shape → ℕ → WiresOn
whole_wires shape labels = record {
  has_empty = true;
  sources = Across 0 0 ∷ [];
  keeps = false;
  growths = whole_growths shape labels;
}

-- prefixes: those of the left half, and its whole with those of the right half
abbrev pub prefix_wires : WiresOn
prefix_wires = record {
  has_empty = false;
  sources = Left 1 ∷ Across 0 1 ∷ [];
  keeps = false;
  growths = Alone 0 ∷ Before 0 1 ∷ [];
}

-- suffixes, at a place: those of the right half, and those of the left half with the whole of the right one
abbrev pub suffix_wires : ℕ → WiresOn
suffix_wires place = record {
  has_empty = false;
  sources = Right place ∷ Across place 0 ∷ [];
  keeps = true;
  growths = Same 0 ∷ [];
}

-- segments: those of either half, and a suffix of the left half with a prefix of the right one
abbrev pub segment_wires : WiresOn
segment_wires = record {
  has_empty = false;
  sources = Left 3 ∷ Right 3 ∷ Across 2 1 ∷ [];
  keeps = true;
  growths = Same 1 ∷ [];
}

abbrev pub wires : Shape → ℕ → Component → WiresOn
wires shape labels Whole = whole_wires shape labels
wires shape labels Pre = prefix_wires
wires shape labels Suf = suffix_wires (suffixes_place shape)
wires shape labels Seg = segment_wires

abbrev pub wiring : Shape → ℕ → List WiresOn
wiring shape labels = map (wires shape labels) (components shape)

-- the end

-- where a shape's candidates are once all rows are joined: whole lists, or else nonempty ones, and the empty one
-- besides
abbrev pub ending : Shape → Ending
ending Sublists = record { place = 0; adds_empty = false }
ending Assign = record { place = 0; adds_empty = false }
ending Prefixes = record { place = 1; adds_empty = true }
ending Suffixes = record { place = 1; adds_empty = true }
ending Segments = record { place = 3; adds_empty = true }

-- the lists, with the empty one before them where it is added
abbrev pub with_empty : Bool → List (List Mark) → List (List Mark)
with_empty adds lists = if adds then [] ∷ lists else lists
