-- Maps by the places of their components.
use Rattle.std.specs.Prelude.{◌≡◌, ℕ, ◌<◌, ◌++◌, List, [], ◌∷◌, length, slice_index_or, if◌then◌else◌}
use Rattle.std.specs.List.{flat_map}
use Rattle.monoid_kit.specs.Items.{IsIn}
use Rattle.shape_gen.specs.declared.mark.Mark.{Mark}
use Rattle.fuse_core.specs.declared.wiring.Growth.{Growth}
use Rattle.fuse_core.specs.declared.wiring.Source.{Source}
use Rattle.fuse_core.specs.declared.wiring.Wires.{Wires}
use Rattle.fuse_core.specs.Wirings.{growth_lists, source_lists, kept_lists, GrowthWithin, SourceWithin}

-- the item stands at the place
pub record StandsAt {X : Type 0} (xs : List X) (place : ℕ) (x : X) : Type 0 where
  pub within : place < length xs
  pub is : x ≡ slice_index_or xs place x

-- each map fits
abbrev pub AllFit : {M : Type 0} → (M → Type 0) → List M → Type 0
AllFit {M} fits maps = (place : ℕ) (map : M) → StandsAt maps place map → fits map

-- each map shows the lists at its place
abbrev pub ShowEach : {M : Type 0} → (List (List Mark) → M → Type 0) → (ℕ → List (List Mark)) → List M → Type 0
ShowEach {M} shows lists maps = (place : ℕ) (map : M) → StandsAt maps place map → shows (lists place) map

-- each map may follow the row with each label
abbrev pub MayFollow : {M : Type 0} → (ℕ → M → Type 0) → ℕ → List M → Type 0
MayFollow {M} follows labels maps = (place : ℕ) (map : M) (label : ℕ) → StandsAt maps place map → label < labels
    → follows label map

-- each map may be joined with each of the others
abbrev pub MayCross : {M : Type 0} → (M → M → Type 0) → List M → List M → Type 0
MayCross {M} crosses left right =
    (i j : ℕ) (a b : M) → StandsAt left i a → StandsAt right j b → crosses a b

-- growths name labels and components that there are
abbrev pub GrowthsWithin : ℕ → ℕ → ℕ → List Growth → Type 0
GrowthsWithin labels width own growths = (growth : Growth) → IsIn growth growths → GrowthWithin labels width own growth

abbrev pub WiresGrow : ℕ → ℕ → List Wires → Type 0
WiresGrow labels width wires =
    (place : ℕ) (w : Wires) → StandsAt wires place w → GrowthsWithin labels width place w.growths.items

-- these are the lists that a row brings
abbrev pub Brings : ℕ → (ℕ → List (List Mark)) → (ℕ → List (List Mark)) → List Wires → Type 0
Brings row later added wires =
    (place : ℕ) (w : Wires) → StandsAt wires place w
    → added place ≡ flat_map (growth_lists row later added) w.growths.items

-- each map shows the lists that are kept, and those that the row brings
abbrev pub ShowGrown : {M : Type 0} → (List (List Mark) → M → Type 0) → (ℕ → List (List Mark))
    → (ℕ → List (List Mark)) → List Wires → List M → Type 0
ShowGrown {M} shows later added wires maps =
    (place : ℕ) (w : Wires) (map : M) → StandsAt wires place w → StandsAt maps place map
    → shows (kept_lists w.keeps (later place) ++ added place) map

-- each map shows the empty list or none
abbrev pub ShowNoRow : {M : Type 0} → (List (List Mark) → M → Type 0) → List Wires → List M → Type 0
ShowNoRow {M} shows wires maps =
    (place : ℕ) (w : Wires) (map : M) → StandsAt wires place w → StandsAt maps place map
    → shows (if w.has_empty then [] ∷ [] else []) map

-- sources name components that there are
abbrev pub SourcesWithin : ℕ → List Source → Type 0
SourcesWithin width sources = (source : Source) → IsIn source sources → SourceWithin width source

abbrev pub WiresJoin : ℕ → List Wires → Type 0
WiresJoin width wires = (place : ℕ) (w : Wires) → StandsAt wires place w → SourcesWithin width w.sources.items

-- each map shows the lists of its sources
abbrev pub ShowJoined : {M : Type 0} → (List (List Mark) → M → Type 0) → (ℕ → List (List Mark))
    → (ℕ → List (List Mark)) → List Wires → List M → Type 0
ShowJoined {M} shows left right wires maps =
    (place : ℕ) (w : Wires) (map : M) → StandsAt wires place w → StandsAt maps place map
    → shows (flat_map (source_lists left right) w.sources.items) map
