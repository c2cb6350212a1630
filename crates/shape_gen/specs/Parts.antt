-- The parts of an interval of rows, of which candidates are put together: enumerations, as the candidates are.
use Rattle.std.specs.Prelude.{ℕ, ◌-◌, List, [], ◌∷◌}
use Rattle.shape_gen.specs.declared.mark.Mark.{Mark}
use Rattle.shape_gen.specs.declared.shape.Shape.{Shape}
use Rattle.shape_gen.specs.declared.shape.Shape.TheVariants.{Sublists, Assign, Prefixes, Suffixes, Segments}
use Rattle.shape_gen.specs.Candidates.{run, sublists, assignments, prefixes, suffixes, segments}

-- what an interval keeps: its whole lists, its nonempty prefixes, suffixes and segments
pub data Component : Type 0 where
  Whole : Component
  Pre : Component
  Suf : Component
  Seg : Component

-- the components of a shape, in their order
abbrev pub components : Shape → List Component
components Sublists = Whole ∷ []
components Assign = Whole ∷ []
components Prefixes = Whole ∷ Pre ∷ []
components Suffixes = Whole ∷ Suf ∷ []
components Segments = Whole ∷ Pre ∷ Suf ∷ Seg ∷ []

-- the whole lists of count rows from first on: the candidates of sublists and assignments, else the one list of all
-- rows
abbrev pub wholes : Shape → ℕ → ℕ → ℕ → List (List Mark)
wholes Sublists labels first count = sublists first count
wholes Assign labels first count = assignments labels first count
wholes Prefixes labels first count = run first count ∷ []
wholes Suffixes labels first count = run first count ∷ []
wholes Segments labels first count = run first count ∷ []

-- the lists of a component over count rows from first on
abbrev pub lists_of : Shape → ℕ → Component → ℕ → ℕ → List (List Mark)
lists_of shape labels Whole first count = wholes shape labels first count
lists_of shape labels Pre first count = prefixes first count
lists_of shape labels Suf first count = suffixes first count
lists_of shape labels Seg first count = segments first count

-- the lists of a component over the rows lo..hi
abbrev pub part : Shape → ℕ → Component → ℕ → ℕ → List (List Mark)
part shape labels component lo hi = lists_of shape labels component lo (hi - lo)
