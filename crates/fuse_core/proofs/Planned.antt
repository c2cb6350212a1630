-- The maps of a plan by the places of their components: what stands, and how far they reach.
use Rattle.std.proofs.Common.{◌≡◌, refl, sym, ap, subst, ℕ, zero, suc, ◌+◌, ◌-◌, ◌*◌, ◌<◌, ◌≤◌, List, [], ◌∷◌, length}
use Rattle.std.proofs.Common.{slice_index_or, arith}
use Rattle.std.specs.List.Sorted.{IsPermutation}
use Rattle.monoid_kit.specs.Monoid.{IsMonoid}
use Rattle.semiring_kit.specs.Semiring.{SemiringOn, IsSemiring, weight_bound}
use Rattle.key_map.specs.Maps.{ReachesAddUp}
use Rattle.shape_gen.specs.declared.mark.Mark.{Mark}
use Rattle.shape_gen.specs.declared.shape.Shape.{Shape}
use Rattle.shape_gen.specs.Parts.{Component, Whole, components, part}
use Rattle.fuse_core.specs.declared.letter.Letter.{Letter}
use Rattle.fuse_core.specs.Letters.{elem_at, key_of, weight_of, row_reach, rows_reach, HasLetters}
use Rattle.fuse_core.specs.Stands.{Shows, Stands, HoldsOfEach}
use Rattle.fuse_core.specs.Places.{StandsAt, AllFit, ShowEach, MayCross, MayFollow}
use Rattle.fuse_core.proofs.Weighs.{weighs}
use Rattle.fuse_core.proofs.Joins.{permuted_shows}
use Rattle.fuse_core.proofs.Picks.{greatest_below-at, shown-reach, neighbours-reach}
use Rattle.fuse_core.proofs.Wired.{lists_at, component_at}

module _ {M : Type 0} (P : Component → M → Type 0) where
  pub each-length : (js : List Component) (maps : List M) → HoldsOfEach P js maps → length maps ≡ length js
  each-length [] [] each = refl
  each-length [] (m ∷ maps) each = elim each [ ]
  each-length (j ∷ js) [] each = elim each [ ]
  each-length (j ∷ js) (m ∷ maps) each = ap suc (each-length js maps each.1)

  pub each-by_place : (js : List Component) (maps : List M) → HoldsOfEach P js maps → (place : ℕ) (m : M)
      → StandsAt maps place m
      → P (slice_index_or js place Whole) m
  each-by_place [] [] each place m at = let inside = at.within in absurd (omega arith)
  each-by_place [] (x ∷ maps) each place m at = elim each [ ]
  each-by_place (j ∷ js) [] each place m at = elim each [ ]
  each-by_place (j ∷ js) (x ∷ maps) each zero m at = subst (P j) (sym at.is) each.0
  each-by_place (j ∷ js) (x ∷ maps) each (suc place) m at =
      let inside = at.within in
      each-by_place js maps each.1 place m (record { within = omega arith; is = at.is })

  pub each-from_places : (js : List Component) (maps : List M) → length maps ≡ length js
      → ((place : ℕ) (m : M) → StandsAt maps place m → P (slice_index_or js place Whole) m) → HoldsOfEach P js maps
  each-from_places [] [] count holds = tt
  each-from_places [] (m ∷ maps) count holds = absurd (omega arith)
  each-from_places (j ∷ js) [] count holds = absurd (omega arith)
  each-from_places (j ∷ js) (m ∷ maps) count holds = (
    holds 0 m (record { within = omega arith; is = refl }),
    each-from_places js maps (omega arith)
        (λ place x at. holds (suc place) x (record { within = let inside = at.within in omega arith; is = at.is })),
  )

module _ {E M : Type 0} {r : SemiringOn E} (laws : IsSemiring r) {size unit : ℕ} {times : ℕ → ℕ → ℕ}
    (monoid : IsMonoid size unit times)
    (fits : M → Type 0) (value_at : M → ℕ → E)
    (shape : Shape) (rows labels : ℕ) (letters : List (Letter E)) (has : HasLetters r size shape rows labels letters)
  where
    abbrev pub shown : List (List Mark) → M → Type 0
    shown lists m = Shows r (key_of unit times labels letters) (weight_of r labels letters) fits value_at lists m

    pub permuted : (cs ds : List (List Mark)) (m : M) → IsPermutation cs ds
        → Shows r (key_of unit times labels letters) (weight_of r labels letters) fits value_at ds m
        → Shows r (key_of unit times labels letters) (weight_of r labels letters) fits value_at cs m
    permuted cs ds m same shows = record {
      fits_kit = shows.fits_kit;
      sums = permuted_shows laws (weighs laws monoid shape rows labels letters has) cs ds (value_at m) same shows.sums;
    }

    module _ (maps : List M) (lo hi : ℕ) where
      pub stands-places : Stands r (key_of unit times labels letters) (weight_of r labels letters) fits value_at shape
          labels lo hi maps
          → ShowEach (λ lists m. Shows r (key_of unit times labels letters) (weight_of r labels letters) fits value_at
          lists m) (lists_at shape labels lo hi) maps
      stands-places stands = each-by_place (λ j m. shown (part shape labels j lo hi) m) (components shape) maps stands

      pub stands-count : Stands r (key_of unit times labels letters) (weight_of r labels letters) fits value_at shape
          labels lo hi maps
          → length maps ≡ length (components shape)
      stands-count stands = each-length (λ j m. shown (part shape labels j lo hi) m) (components shape) maps stands

      pub places-stand : length maps ≡ length (components shape)
          → ShowEach (λ lists m. Shows r (key_of unit times labels letters) (weight_of r labels letters) fits value_at
          lists m) (lists_at shape labels lo hi) maps
          → Stands r (key_of unit times labels letters) (weight_of r labels letters) fits value_at shape labels lo hi
          maps
      places-stand count shows = each-from_places (λ j m. shown (part shape labels j lo hi) m) (components shape) maps
          count shows

      pub places-fit : ShowEach
          (λ lists m. Shows r (key_of unit times labels letters) (weight_of r labels letters) fits value_at lists m)
          (lists_at shape labels lo hi) maps
          → AllFit fits maps
      places-fit shows place m at = (shows place m at).fits_kit

      place-reach : ShowEach
          (λ lists m. Shows r (key_of unit times labels letters) (weight_of r labels letters) fits value_at lists m)
          (lists_at shape labels lo hi) maps
          → (place : ℕ) (m : M) → StandsAt maps place m → (k : ℕ)
          → r.reach (value_at m k) ≤ rows_reach r labels letters lo (hi - lo)
      place-reach shows place m at k =
          shown-reach laws labels letters has.elems (key_of unit times labels letters) shape (component_at shape place)
          lo hi (value_at m) k has.some_label
          (shows place m at).sums

    -- the row and the rows after it reach no further than the bound
    pub places-follow : (maps : List M) (row hi : ℕ) → row < hi → hi ≤ rows
        → ShowEach (λ lists m. Shows r (key_of unit times labels letters) (weight_of r labels letters) fits value_at
        lists m) (lists_at shape labels (row + 1) hi) maps
        → MayFollow (λ label m. (k : ℕ)
        → r.reach (elem_at r.one letters (row * labels + label)) + r.reach (value_at m k) ≤ weight_bound) labels
        maps
    places-follow maps row hi below within shows place m label at label_in k =
        let here : r.reach (elem_at r.one letters (row * labels + label)) ≤ row_reach r labels letters row =
        greatest_below-at (λ l. r.reach (elem_at r.one letters (row * labels + l))) labels label label_in in
        let later : r.reach (value_at m k) ≤ rows_reach r labels letters (row + 1) (hi - (row + 1)) = place-reach maps
        (row + 1) hi shows place m at k in
        let both = neighbours-reach r labels letters row (row + 1) hi rows (omega arith) (omega arith) within in
        let one : (row + 1) - row ≡ suc zero = omega arith in
        let first : rows_reach r labels letters row ((row + 1) - row) ≡ rows_reach r labels letters row (suc zero) = ap
        (rows_reach r labels letters row) one in
        let all = has.within in
        omega (arith, here, later, both, first, all)

    -- two neighbours reach no further than the bound
    pub places-cross : (left right : List M) (lo mid hi : ℕ) → lo ≤ mid → mid ≤ hi → hi ≤ rows
        → ShowEach (λ lists m. Shows r (key_of unit times labels letters) (weight_of r labels letters) fits value_at
        lists m) (lists_at shape labels lo mid) left
        → ShowEach (λ lists m. Shows r (key_of unit times labels letters) (weight_of r labels letters) fits value_at
        lists m) (lists_at shape labels mid hi) right
        → MayCross (λ a b. ReachesAddUp r (value_at a) (value_at b)) left right
    places-cross left right lo mid hi left_ordered right_ordered within left_shows right_shows i j a b a_at b_at x y =
        let earlier = place-reach left lo mid left_shows i a a_at x in
        let later = place-reach right mid hi right_shows j b b_at y in
        let both = neighbours-reach r labels letters lo mid hi rows left_ordered right_ordered within in
        let all = has.within in
        omega (arith, earlier, later, both, all)
