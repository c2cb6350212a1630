-- The wirings of the five shapes are lawful: they say of the parts of an interval how they come about.
use Rattle.std.proofs.Common.{◌≡◌, refl, sym, ap, ◌∙◌, subst, ℕ, zero, suc, ◌+◌, ◌-◌, ◌*◌, ◌<◌, ◌≤◌, inl, inr, List}
use Rattle.std.proofs.Common.{[], ◌∷◌, ◌++◌, length, map, slice_index_or, arith}
use Rattle.std.specs.Prelude.{if◌then◌else◌}
use Rattle.std.proofs.lemmas.List.{append-nil}
use Rattle.std.proofs.lemmas.List.Sorted.{IsPermutation-append_comm, IsPermutation-refl}
use Rattle.std.specs.List.{range_with_len, flat_map}
use Rattle.std.specs.List.Sorted.{IsPermutation}
use Rattle.monoid_kit.specs.Items.{IsIn}
use Rattle.shape_gen.specs.declared.mark.Mark.{Mark}
use Rattle.shape_gen.specs.declared.shape.Shape.{Shape}
use Rattle.shape_gen.specs.declared.shape.Shape.TheVariants.{Sublists, Assign, Prefixes, Suffixes, Segments}
use Rattle.shape_gen.specs.Candidates.{mark, run, sublists, assignments, prefixes, suffixes, segments, candidates}
use Rattle.shape_gen.specs.Parts.{Component, Whole, Pre, Suf, Seg, components, part}
use Rattle.shape_gen.proofs.Parts.{candidates-sublists, candidates-assign, candidates-prefixes, candidates-suffixes}
use Rattle.shape_gen.proofs.Parts.{candidates-segments}
use Rattle.shape_gen.proofs.Parts.{whole-parts, pre-parts, suf-parts, seg-parts, whole-none, pre-none, suf-none}
use Rattle.shape_gen.proofs.Parts.{seg-none}
use Rattle.fuse_core.specs.declared.wiring.Growth.{Growth}
use Rattle.fuse_core.specs.declared.wiring.Growth.TheVariants.{Before}
use Rattle.fuse_core.specs.declared.wiring.Source.{Source}
use Rattle.fuse_core.specs.declared.wiring.Wires.{Wires}
use Rattle.fuse_core.specs.Wirings.{WiresOn, wires_on, source_lists, growth_lists, kept_lists, shifts, all_crossings}
use Rattle.fuse_core.specs.Wirings.{all_shifts, SourceWithin, GrowthWithin, wires, wiring, ending, with_empty}
use Rattle.fuse_core.specs.Places.{StandsAt, ShowEach, ShowGrown, ShowNoRow, ShowJoined, Brings, WiresGrow, WiresJoin}
use Rattle.fuse_core.proofs.Picks.{in-map, in-range}

-- the component at a place, and its lists
abbrev pub component_at : Shape → ℕ → Component
component_at shape place = slice_index_or (components shape) place Whole

abbrev pub lists_at : Shape → ℕ → ℕ → ℕ → ℕ → List (List Mark)
lists_at shape labels lo hi place = part shape labels (component_at shape place) lo hi

-- what a row brings to the component at a place
abbrev pub brings : Shape → ℕ → ℕ → ℕ → ℕ → List (List Mark)
brings Sublists labels row hi place = part Sublists labels Whole row hi
brings Assign labels row hi place = part Assign labels Whole row hi
brings Prefixes labels row hi place = lists_at Prefixes labels row hi place
brings Suffixes labels row hi place = part Suffixes labels Whole row hi
brings Segments labels row hi zero = part Segments labels Whole row hi
brings Segments labels row hi (suc zero) = part Segments labels Pre row hi
brings Segments labels row hi (suc (suc zero)) = part Segments labels Whole row hi
brings Segments labels row hi (suc (suc (suc place))) = part Segments labels Pre row hi

flat_map-map : {A B C : Type 0} (f : B → List C) (g : A → B) (xs : List A)
    → flat_map f (map g xs) ≡ flat_map (λ x. f (g x)) xs
flat_map-map f g [] = refl
flat_map-map f g (x ∷ xs) = ap (λ l. f (g x) ++ l) (flat_map-map f g xs)

same_parts : (xs ys : List (List Mark)) → xs ≡ ys → IsPermutation xs ys
same_parts xs ys same = subst (IsPermutation xs) same (IsPermutation-refl xs)

module _ (row hi : ℕ) (below : row < hi) where
  count : hi - row ≡ suc (hi - (row + 1))
  count = omega arith

  ordered : row ≤ row + 1
  ordered = omega arith

  after : row + 1 ≤ hi
  after = omega arith

  run-more : run row (hi - row) ∷ [] ≡ map (λ c. mark row 0 ∷ c) (run (row + 1) (hi - (row + 1)) ∷ [])
  run-more = ap (λ n. run row n ∷ []) count

  one : (row + 1) - row ≡ suc zero
  one = omega arith

  pre-more : (shape : Shape) (labels : ℕ) → part shape labels Pre row hi
      ≡ ((mark row 0 ∷ []) ∷ []) ++ (map (λ c. mark row 0 ∷ c) (part shape labels Pre (row + 1) hi) ++ [])
  pre-more shape labels =
      pre-parts shape labels row (row + 1) hi ordered after
      ∙ ap (λ n. prefixes row n ++ flat_map (λ c. map (λ d. c ++ d) (part shape labels Pre (row + 1) hi))
      (run row n ∷ [])) one

  suf-more : (shape : Shape) (labels : ℕ)
      → part shape labels Suf row hi ≡ part shape labels Suf (row + 1) hi ++ run row (hi - row) ∷ []
  suf-more shape labels =
      let start : row + 1 - 1 ≡ row = omega arith in
      suf-parts shape labels row (row + 1) hi ordered after
      ∙ ap (λ n. part shape labels Suf (row + 1) hi ++ flat_map
      (λ c. map (λ d. c ++ d) (run (row + 1) (hi - (row + 1)) ∷ [])) (suffixes row n)) one
      ∙ ap (λ a. part shape labels Suf (row + 1) hi ++ (run a 1 ++ run (row + 1) (hi - (row + 1))) ∷ []) start
      ∙ ap (λ l. part shape labels Suf (row + 1) hi ++ l) (sym run-more)

  -- what a row brings, by the wiring

  pub shape-brings : (shape : Shape) (labels place : ℕ) → place < length (components shape)
      → brings shape labels row hi place
      ≡ flat_map (growth_lists row (λ p. lists_at shape labels (row + 1) hi p) (brings shape labels row hi))
      (wires shape labels (component_at shape place)).growths
  shape-brings Sublists labels zero within =
      ap (sublists row) count ∙ ap (λ l. sublists (row + 1) (hi - (row + 1)) ++ l) (sym (append-nil _))
  shape-brings Sublists labels (suc place) within = absurd (omega arith)
  shape-brings Assign labels zero within =
      let f = growth_lists row (λ p. lists_at Assign labels (row + 1) hi p) (brings Assign labels row hi) in
      ap (assignments labels row) count
      ∙ sym (flat_map-map f (λ label. Before label 0) (range_with_len 0 labels))
  shape-brings Assign labels (suc place) within = absurd (omega arith)
  shape-brings Prefixes labels zero within = run-more
  shape-brings Prefixes labels (suc zero) within = pre-more Prefixes labels
  shape-brings Prefixes labels (suc (suc place)) within = absurd (omega arith)
  shape-brings Suffixes labels zero within = run-more
  shape-brings Suffixes labels (suc zero) within = refl
  shape-brings Suffixes labels (suc (suc place)) within = absurd (omega arith)
  shape-brings Segments labels zero within = run-more
  shape-brings Segments labels (suc zero) within = pre-more Segments labels
  shape-brings Segments labels (suc (suc zero)) within = refl
  shape-brings Segments labels (suc (suc (suc zero))) within = sym (append-nil _)
  shape-brings Segments labels (suc (suc (suc (suc place)))) within = absurd (omega arith)

  -- with the row, a component has what it keeps and what the row brings
  pub shape-grown : (shape : Shape) (labels place : ℕ) → place < length (components shape)
      → IsPermutation (lists_at shape labels row hi place)
      (kept_lists (wires shape labels (component_at shape place)).keeps (lists_at shape labels (row + 1) hi place) ++
      brings shape labels row hi place)
  shape-grown Sublists labels zero within = IsPermutation-refl _
  shape-grown Sublists labels (suc place) within = absurd (omega arith)
  shape-grown Assign labels zero within = IsPermutation-refl _
  shape-grown Assign labels (suc place) within = absurd (omega arith)
  shape-grown Prefixes labels zero within = IsPermutation-refl _
  shape-grown Prefixes labels (suc zero) within = IsPermutation-refl _
  shape-grown Prefixes labels (suc (suc place)) within = absurd (omega arith)
  shape-grown Suffixes labels zero within = IsPermutation-refl _
  shape-grown Suffixes labels (suc zero) within = same_parts _ _ (suf-more Suffixes labels)
  shape-grown Suffixes labels (suc (suc place)) within = absurd (omega arith)
  shape-grown Segments labels zero within = IsPermutation-refl _
  shape-grown Segments labels (suc zero) within = IsPermutation-refl _
  shape-grown Segments labels (suc (suc zero)) within = same_parts _ _ (suf-more Segments labels)
  shape-grown Segments labels (suc (suc (suc zero))) within =
      subst (λ l. IsPermutation l (part Segments labels Seg (row + 1) hi ++ part Segments labels Pre row hi))
      (ap (λ n. prefixes row n ++ part Segments labels Seg (row + 1) hi) count ∙ ap (segments row) (sym count))
      (IsPermutation-append_comm (part Segments labels Pre row hi) (part Segments labels Seg (row + 1) hi))
  shape-grown Segments labels (suc (suc (suc (suc place)))) within = absurd (omega arith)

-- without a row, a component has the empty list or none
pub shape-none : (shape : Shape) (labels lo place : ℕ)
    → lists_at shape labels lo lo place ≡
    (if (wires shape labels (component_at shape place)).has_empty then [] ∷ [] else [])
shape-none shape labels lo place =
    elim (component_at shape place) as
    (λ j. part shape labels j lo lo ≡ (if (wires shape labels j).has_empty then [] ∷ [] else [])) [
      | Whole ↦ whole-none shape labels lo
      | Pre ↦ pre-none shape labels lo
      | Suf ↦ suf-none shape labels lo
      | Seg ↦ seg-none shape labels lo
    ]

-- at the end

pub ending-within : (shape : Shape) → (ending shape).place < length (components shape)
ending-within Sublists = omega arith
ending-within Assign = omega arith
ending-within Prefixes = omega arith
ending-within Suffixes = omega arith
ending-within Segments = omega arith

-- the candidates are the lists of the component that the ending names, with the empty one where it is added
pub shape-ends : (shape : Shape) (rows labels : ℕ)
    → candidates shape rows labels ≡ with_empty (ending shape).adds_empty
    (lists_at shape labels 0 rows (ending shape).place)
shape-ends Sublists rows labels = candidates-sublists rows labels
shape-ends Assign rows labels = candidates-assign rows labels
shape-ends Prefixes rows labels = candidates-prefixes rows labels
shape-ends Suffixes rows labels = candidates-suffixes rows labels
shape-ends Segments rows labels = candidates-segments rows labels

-- two halves together

module _ (labels lo mid hi : ℕ) (left : lo ≤ mid) (right : mid ≤ hi) where
  whole-halves : (shape : Shape) → IsPermutation (part shape labels Whole lo hi)
      (flat_map (λ c. map (λ d. c ++ d) (part shape labels Whole mid hi)) (part shape labels Whole lo mid) ++ [])
  whole-halves shape = same_parts _ _ (whole-parts shape labels lo mid hi left right ∙ sym (append-nil _))

  pub shape-halves : (shape : Shape) (place : ℕ) → place < length (components shape)
      → IsPermutation (lists_at shape labels lo hi place)
      (flat_map (source_lists (lists_at shape labels lo mid) (lists_at shape labels mid hi))
      (wires shape labels (component_at shape place)).sources)
  shape-halves Sublists zero within = whole-halves Sublists
  shape-halves Sublists (suc place) within = absurd (omega arith)
  shape-halves Assign zero within = whole-halves Assign
  shape-halves Assign (suc place) within = absurd (omega arith)
  shape-halves Prefixes zero within = whole-halves Prefixes
  shape-halves Prefixes (suc zero) within =
      same_parts _ _ (pre-parts Prefixes labels lo mid hi left right
      ∙ ap (λ l. part Prefixes labels Pre lo mid ++ l) (sym (append-nil _)))
  shape-halves Prefixes (suc (suc place)) within = absurd (omega arith)
  shape-halves Suffixes zero within = whole-halves Suffixes
  shape-halves Suffixes (suc zero) within =
      same_parts _ _ (suf-parts Suffixes labels lo mid hi left right
      ∙ ap (λ l. part Suffixes labels Suf mid hi ++ l) (sym (append-nil _)))
  shape-halves Suffixes (suc (suc place)) within = absurd (omega arith)
  shape-halves Segments zero within = whole-halves Segments
  shape-halves Segments (suc zero) within =
      same_parts _ _ (pre-parts Segments labels lo mid hi left right
      ∙ ap (λ l. part Segments labels Pre lo mid ++ l) (sym (append-nil _)))
  shape-halves Segments (suc (suc zero)) within =
      same_parts _ _ (suf-parts Segments labels lo mid hi left right
      ∙ ap (λ l. part Segments labels Suf mid hi ++ l) (sym (append-nil _)))
  shape-halves Segments (suc (suc (suc zero))) within =
      subst (IsPermutation (part Segments labels Seg lo hi))
      (ap (λ l. part Segments labels Seg lo mid ++ (part Segments labels Seg mid hi ++ l)) (sym (append-nil _)))
      (seg-parts Segments labels lo mid hi left right)
  shape-halves Segments (suc (suc (suc (suc place)))) within = absurd (omega arith)

-- sources, labels and places are within, and how many maps are multiplied

pub shape-grows : (shape : Shape) (labels place : ℕ) → 1 ≤ labels → place < length (components shape)
    → (growth : Growth) → IsIn growth (wires shape labels (component_at shape place)).growths
    → GrowthWithin labels (length (components shape)) place growth
shape-grows Sublists labels zero some within growth (inl same) = subst (GrowthWithin labels 1 0) (sym same)
    (omega arith)
shape-grows Sublists labels zero some within growth (inr (inl same)) = subst (GrowthWithin labels 1 0) (sym same)
    (omega arith, omega arith)
shape-grows Sublists labels zero some within growth (inr (inr none)) = absurd none
shape-grows Sublists labels (suc place) some within growth growth_in = absurd (omega arith)
shape-grows Assign labels zero some within growth growth_in =
    let found = in-map (λ label. Before label 0) growth (range_with_len 0 labels) growth_in in
    let bounds = in-range found.0 0 labels found.1 in
    subst (GrowthWithin labels 1 0) (sym found.2) (omega arith, omega arith)
shape-grows Assign labels (suc place) some within growth growth_in = absurd (omega arith)
shape-grows Prefixes labels zero some within growth (inl same) = subst (GrowthWithin labels 2 0) (sym same)
    (omega arith, omega arith)
shape-grows Prefixes labels zero some within growth (inr none) = absurd none
shape-grows Prefixes labels (suc zero) some within growth (inl same) = subst (GrowthWithin labels 2 1) (sym same)
    (omega arith)
shape-grows Prefixes labels (suc zero) some within growth (inr (inl same)) = subst (GrowthWithin labels 2 1)
    (sym same) (omega arith, omega arith)
shape-grows Prefixes labels (suc zero) some within growth (inr (inr none)) = absurd none
shape-grows Prefixes labels (suc (suc place)) some within growth growth_in = absurd (omega arith)
shape-grows Suffixes labels zero some within growth (inl same) = subst (GrowthWithin labels 2 0) (sym same)
    (omega arith, omega arith)
shape-grows Suffixes labels zero some within growth (inr none) = absurd none
shape-grows Suffixes labels (suc zero) some within growth (inl same) = subst (GrowthWithin labels 2 1) (sym same)
    (omega arith)
shape-grows Suffixes labels (suc zero) some within growth (inr none) = absurd none
shape-grows Suffixes labels (suc (suc place)) some within growth growth_in = absurd (omega arith)
shape-grows Segments labels zero some within growth (inl same) = subst (GrowthWithin labels 4 0) (sym same)
    (omega arith, omega arith)
shape-grows Segments labels zero some within growth (inr none) = absurd none
shape-grows Segments labels (suc zero) some within growth (inl same) = subst (GrowthWithin labels 4 1) (sym same)
    (omega arith)
shape-grows Segments labels (suc zero) some within growth (inr (inl same)) = subst (GrowthWithin labels 4 1)
    (sym same) (omega arith, omega arith)
shape-grows Segments labels (suc zero) some within growth (inr (inr none)) = absurd none
shape-grows Segments labels (suc (suc zero)) some within growth (inl same) = subst (GrowthWithin labels 4 2)
    (sym same) (omega arith)
shape-grows Segments labels (suc (suc zero)) some within growth (inr none) = absurd none
shape-grows Segments labels (suc (suc (suc zero))) some within growth (inl same) = subst (GrowthWithin labels 4 3)
    (sym same) (omega arith)
shape-grows Segments labels (suc (suc (suc zero))) some within growth (inr none) = absurd none
shape-grows Segments labels (suc (suc (suc (suc place)))) some within growth growth_in = absurd (omega arith)

shifts-labels : (low n : ℕ) → shifts (map (λ label. Before label 0) (range_with_len low n)) ≡ n
shifts-labels low zero = refl
shifts-labels low (suc n) = let rest = shifts-labels (low + 1) n in omega arith

pub shape-shifts : (shape : Shape) (labels : ℕ) → all_shifts (wiring shape labels) ≤ 4 * (labels + 1)
shape-shifts Sublists labels = omega arith
shape-shifts Assign labels = let all = shifts-labels 0 labels in omega arith
shape-shifts Prefixes labels = omega arith
shape-shifts Suffixes labels = omega arith
shape-shifts Segments labels = omega arith

pub shape-crossings : (shape : Shape) (labels : ℕ) → all_crossings (wiring shape labels) ≤ 4
shape-crossings Sublists labels = omega arith
shape-crossings Assign labels = omega arith
shape-crossings Prefixes labels = omega arith
shape-crossings Suffixes labels = omega arith
shape-crossings Segments labels = omega arith

pub shape-joins : (shape : Shape) (labels place : ℕ) → place < length (components shape)
    → (source : Source) → IsIn source (wires shape labels (component_at shape place)).sources
    → SourceWithin (length (components shape)) source
shape-joins Sublists labels zero within source (inl same) = subst (SourceWithin 1) (sym same) (omega arith, omega arith)
shape-joins Sublists labels zero within source (inr none) = absurd none
shape-joins Sublists labels (suc place) within source source_in = absurd (omega arith)
shape-joins Assign labels zero within source (inl same) = subst (SourceWithin 1) (sym same) (omega arith, omega arith)
shape-joins Assign labels zero within source (inr none) = absurd none
shape-joins Assign labels (suc place) within source source_in = absurd (omega arith)
shape-joins Prefixes labels zero within source (inl same) = subst (SourceWithin 2) (sym same) (omega arith, omega arith)
shape-joins Prefixes labels zero within source (inr none) = absurd none
shape-joins Prefixes labels (suc zero) within source (inl same) = subst (SourceWithin 2) (sym same) (omega arith)
shape-joins Prefixes labels (suc zero) within source (inr (inl same)) = subst (SourceWithin 2) (sym same)
    (omega arith, omega arith)
shape-joins Prefixes labels (suc zero) within source (inr (inr none)) = absurd none
shape-joins Prefixes labels (suc (suc place)) within source source_in = absurd (omega arith)
shape-joins Suffixes labels zero within source (inl same) = subst (SourceWithin 2) (sym same) (omega arith, omega arith)
shape-joins Suffixes labels zero within source (inr none) = absurd none
shape-joins Suffixes labels (suc zero) within source (inl same) = subst (SourceWithin 2) (sym same) (omega arith)
shape-joins Suffixes labels (suc zero) within source (inr (inl same)) = subst (SourceWithin 2) (sym same)
    (omega arith, omega arith)
shape-joins Suffixes labels (suc zero) within source (inr (inr none)) = absurd none
shape-joins Suffixes labels (suc (suc place)) within source source_in = absurd (omega arith)
shape-joins Segments labels zero within source (inl same) = subst (SourceWithin 4) (sym same) (omega arith, omega arith)
shape-joins Segments labels zero within source (inr none) = absurd none
shape-joins Segments labels (suc zero) within source (inl same) = subst (SourceWithin 4) (sym same) (omega arith)
shape-joins Segments labels (suc zero) within source (inr (inl same)) = subst (SourceWithin 4) (sym same)
    (omega arith, omega arith)
shape-joins Segments labels (suc zero) within source (inr (inr none)) = absurd none
shape-joins Segments labels (suc (suc zero)) within source (inl same) = subst (SourceWithin 4) (sym same) (omega arith)
shape-joins Segments labels (suc (suc zero)) within source (inr (inl same)) = subst (SourceWithin 4) (sym same)
    (omega arith, omega arith)
shape-joins Segments labels (suc (suc zero)) within source (inr (inr none)) = absurd none
shape-joins Segments labels (suc (suc (suc zero))) within source (inl same) = subst (SourceWithin 4) (sym same)
    (omega arith)
shape-joins Segments labels (suc (suc (suc zero))) within source (inr (inl same)) = subst (SourceWithin 4) (sym same)
    (omega arith)
shape-joins Segments labels (suc (suc (suc zero))) within source (inr (inr (inl same))) = subst (SourceWithin 4)
    (sym same) (omega arith, omega arith)
shape-joins Segments labels (suc (suc (suc zero))) within source (inr (inr (inr none))) = absurd none
shape-joins Segments labels (suc (suc (suc (suc place)))) within source source_in = absurd (omega arith)

-- wires that were made for a shape, by their places

made_at : {J : Type 0} (f : J → WiresOn) (js : List J) (default : J) (made : List Wires) (place : ℕ) (w : Wires)
    → map wires_on made ≡ map f js
    → StandsAt made place w → (place < length js) × (wires_on w ≡ f (slice_index_or js place default))
made_at f [] default [] place w is at = let inside = at.within in absurd (omega arith)
made_at f [] default (v ∷ made) place w is at = cc
made_at f (j ∷ js) default [] place w is at = cc
made_at f (j ∷ js) default (v ∷ made) zero w is at =
    let head : wires_on v ≡ f j = cc in
    ((let e : 0 < length (j ∷ js) = omega arith in e), ap wires_on at.is ∙ head)
made_at f (j ∷ js) default (v ∷ made) (suc place) w is at =
    let tail : map wires_on made ≡ map f js = cc in
    let inside = at.within in
    let there = made_at f js default made place w tail (record { within = omega arith; is = at.is }) in
    ((let below = there.0 in omega arith), there.1)

some_at : (made : List Wires) (place : ℕ) → place < length made → (w : Wires) × StandsAt made place w
some_at [] place inside = absurd (omega arith)
some_at (v ∷ made) zero inside = (v, record { within = inside; is = refl })
some_at (v ∷ made) (suc place) inside =
    let there = some_at made place (omega arith) in
    (there.0, record { within = inside; is = there.1.is })

mapped_length : {X Y : Type 0} (f : X → Y) (xs : List X) → length (map f xs) ≡ length xs
mapped_length f [] = refl
mapped_length f (x ∷ xs) = ap suc (mapped_length f xs)

made_length : {J : Type 0} (f : J → WiresOn) (js : List J) (made : List Wires) → map wires_on made ≡ map f js
    → length made ≡ length js
made_length f js made is = sym (mapped_length wires_on made) ∙ ap length is ∙ mapped_length f js

module _ (shape : Shape) (labels : ℕ) (made : List Wires) (is : map wires_on made ≡ wiring shape labels) where
  pub width : length made ≡ length (components shape)
  width = made_length (wires shape labels) (components shape) made is

  pub at_place : (place : ℕ) (w : Wires) → StandsAt made place w
      → (place < length (components shape)) × (wires_on w ≡ wires shape labels (component_at shape place))
  at_place place w at = made_at (wires shape labels) (components shape) Whole made place w is at

  pub made-grows : 1 ≤ labels → (width : ℕ) → width ≡ length (components shape) → WiresGrow labels width made
  made-grows some n same place w at growth growth_in =
      let here = at_place place w at in
      subst (λ n. GrowthWithin labels n place growth) (sym same)
      (shape-grows shape labels place some here.0 growth (subst (λ v. IsIn growth v.growths) here.1 growth_in))

  pub made-joins : (width : ℕ) → width ≡ length (components shape) → WiresJoin width made
  made-joins n same place w at source source_in =
      let here = at_place place w at in
      subst (λ n. SourceWithin n source) (sym same)
      (shape-joins shape labels place here.0 source (subst (λ v. IsIn source v.sources) here.1 source_in))

  pub made-brings : (row hi : ℕ) → row < hi
      → Brings row (lists_at shape labels (row + 1) hi) (brings shape labels row hi) made
  made-brings row hi below place w at =
      let here = at_place place w at in
      shape-brings row hi below shape labels place here.0
      ∙ ap (λ v. flat_map (growth_lists row (lists_at shape labels (row + 1) hi) (brings shape labels row hi))
      v.growths) (sym here.1)

  module _ {M : Type 0} (shows : List (List Mark) → M → Type 0) (maps : List M) (count : length maps ≡ length made)
    where
      wires-at : (place : ℕ) (m : M) → StandsAt maps place m → (w : Wires) × StandsAt made place w
      wires-at place m at =
          let inside = at.within in
          some_at made place (let e : place < length made = omega arith in e)

      pub none-shown : ShowNoRow shows made maps → (lo : ℕ) → ShowEach shows (lists_at shape labels lo lo) maps
      none-shown shown lo place m at =
          let w = wires-at place m at in
          let here = at_place place w.0 w.1 in
          subst (λ l. shows l m)
          (ap (λ v. if v.has_empty then [] ∷ [] else []) here.1 ∙ sym (shape-none shape labels lo place))
          (shown place w.0 m w.1 at)

      module _ (permuted : (cs ds : List (List Mark)) (m : M) → IsPermutation cs ds → shows ds m → shows cs m) where
        pub grown-shown : (row hi : ℕ) → row < hi
            → ShowGrown shows (lists_at shape labels (row + 1) hi) (brings shape labels row hi) made maps
            → ShowEach shows (lists_at shape labels row hi) maps
        grown-shown row hi below shown place m at =
            let w = wires-at place m at in
            let here = at_place place w.0 w.1 in
            permuted _ _ m (shape-grown row hi below shape labels place here.0)
            (subst (λ v. shows (kept_lists v.keeps (lists_at shape labels (row + 1) hi place) ++ brings shape labels
            row hi place) m) here.1
            (shown place w.0 m w.1 at))

        pub joined-shown : (lo mid hi : ℕ) → lo ≤ mid → mid ≤ hi
            → ShowJoined shows (lists_at shape labels lo mid) (lists_at shape labels mid hi) made maps
            → ShowEach shows (lists_at shape labels lo hi) maps
        joined-shown lo mid hi left right shown place m at =
            let w = wires-at place m at in
            let here = at_place place w.0 w.1 in
            permuted _ _ m (shape-halves labels lo mid hi left right shape place here.0)
            (subst (λ v. shows (flat_map (source_lists (lists_at shape labels lo mid) (lists_at shape labels mid hi))
            v.sources) m) here.1
            (shown place w.0 m w.1 at))
