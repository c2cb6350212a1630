-- Each list of a part has at most one mark of each row, so its weight reaches no further than the rows together.
use Rattle.std.proofs.Common.{◌≡◌, refl, sym, ap, ◌∙◌, subst, ℕ, zero, suc, ◌+◌, ◌-◌, ◌*◌, ◌<◌, ◌≤◌, List, [], ◌∷◌}
use Rattle.std.proofs.Common.{◌++◌, map, nat_eq, Bool, true, false, ◌⊎◌, inl, inr, arith}
use Rattle.std.proofs.lemmas.Bool.{cases_eq}
use Rattle.std.specs.List.{range_with_len, flat_map}
use Rattle.monoid_kit.specs.Items.{IsIn, AllElements}
use Rattle.monoid_kit.proofs.Products.{product_by-is_element}
use Rattle.semiring_kit.specs.Semiring.{SemiringOn, IsSemiring, IsGood}
use Rattle.semiring_kit.specs.Total.{masked}
use Rattle.semiring_kit.proofs.Sums.{masked-IsAdditive, total-reach}
use Rattle.shape_gen.specs.declared.mark.Mark.{Mark}
use Rattle.shape_gen.specs.declared.shape.Shape.{Shape}
use Rattle.shape_gen.specs.declared.shape.Shape.TheVariants.{Sublists, Assign, Prefixes, Suffixes, Segments}
use Rattle.shape_gen.specs.Candidates.{mark, run, sublists, assignments, prefixes, suffixes, segments}
use Rattle.shape_gen.specs.Parts.{Component, Whole, Pre, Suf, Seg, lists_of, part}
use Rattle.fuse_core.specs.declared.letter.Letter.{Letter}
use Rattle.fuse_core.specs.Letters.{elem_at, place_of, weight_of, greatest_below, row_reach, rows_reach}
use Rattle.fuse_core.specs.Stands.{ShowsSums}
use Rattle.fuse_core.proofs.Weighs.{elem_at-is_good}

-- c has at most one mark of each of count rows from first on, in order, with labels below labels
abbrev pub Picks : ℕ → ℕ → ℕ → List Mark → Type 0
Picks labels first zero c = c ≡ []
Picks labels first (suc count) c =
    Picks labels (first + 1) count c
    ⊎ ((label : ℕ) × (d : List Mark) × (label < labels) × (c ≡ mark first label ∷ d) × Picks labels (first + 1) count d)

-- items of lists

in-append : {X : Type 0} (x : X) (xs ys : List X) → IsIn x (xs ++ ys) → IsIn x xs ⊎ IsIn x ys
in-append x [] ys x_in = inr x_in
in-append x (y ∷ xs) ys (inl same) = inl (inl same)
in-append x (y ∷ xs) ys (inr later) = elim (in-append x xs ys later)
    [ inl here ↦ inl (inr here) | inr there ↦ inr there ]

pub in-map : {X Y : Type 0} (f : X → Y) (y : Y) (xs : List X) → IsIn y (map f xs) → (x : X) × (IsIn x xs) × (y ≡ f x)
in-map f y [] y_in = elim y_in [ ]
in-map f y (x ∷ xs) (inl same) = (x, inl refl, same)
in-map f y (x ∷ xs) (inr later) = let found = in-map f y xs later in (found.0, inr found.1, found.2)

in-flat_map : {X Y : Type 0} (f : X → List Y) (y : Y) (xs : List X) → IsIn y (flat_map f xs)
    → (x : X) × (IsIn x xs) × (IsIn y (f x))
in-flat_map f y [] y_in = elim y_in [ ]
in-flat_map f y (x ∷ xs) y_in =
    elim (in-append y (f x) (flat_map f xs) y_in) [
      | inl here ↦ (x, inl refl, here)
      | inr later ↦ let found = in-flat_map f y xs later in (found.0, inr found.1, found.2)
    ]

pub in-range : (i low n : ℕ) → IsIn i (range_with_len low n) → (low ≤ i) × (i < low + n)
in-range i low zero i_in = elim i_in [ ]
in-range i low (suc n) (inl same) = (omega arith, omega arith)
in-range i low (suc n) (inr later) = let found = in-range i (low + 1) n later in (omega arith, omega arith)

-- the lists of the parts

none-picks : (labels first count : ℕ) → Picks labels first count []
none-picks labels first zero = refl
none-picks labels first (suc count) = inl (none-picks labels (first + 1) count)

sublists-picks : (labels first count : ℕ) (c : List Mark) → 1 ≤ labels → IsIn c (sublists first count)
    → Picks labels first count c
sublists-picks labels first zero c some (inl same) = same
sublists-picks labels first zero c some (inr later) = elim later [ ]
sublists-picks labels first (suc count) c some c_in =
    let rest = sublists (first + 1) count in
    elim (in-append c rest (map (λ d. mark first 0 ∷ d) rest) c_in) [
      | inl without ↦ inl (sublists-picks labels (first + 1) count c some without)
      | inr with_first ↦
          let found = in-map (λ d. mark first 0 ∷ d) c rest with_first in
          inr (0, found.0, some, found.2, sublists-picks labels (first + 1) count found.0 some found.1)
    ]

assignments-picks : (labels first count : ℕ) (c : List Mark) → IsIn c (assignments labels first count)
    → Picks labels first count c
assignments-picks labels first zero c (inl same) = same
assignments-picks labels first zero c (inr later) = elim later [ ]
assignments-picks labels first (suc count) c c_in =
    let rest = assignments labels (first + 1) count in
    let labelled = in-flat_map (λ label. map (λ d. mark first label ∷ d) rest) c (range_with_len 0 labels) c_in in
    let found = in-map (λ d. mark first labelled.0 ∷ d) c rest labelled.2 in
    let bounds = in-range labelled.0 0 labels labelled.1 in
    inr (
      labelled.0,
      found.0,
      (let below : labelled.0 < labels = omega arith in below),
      found.2,
      assignments-picks labels (first + 1) count found.0 found.1,
    )

front-picks : (labels first count k : ℕ) → 1 ≤ labels → k ≤ count → Picks labels first count (run first k)
front-picks labels first zero k some within =
    let none : k ≡ zero = omega arith in ap (run first) none
front-picks labels first (suc count) zero some within = none-picks labels first (suc count)
front-picks labels first (suc count) (suc k) some within =
    inr (0, run (first + 1) k, some, refl, front-picks labels (first + 1) count k some (omega arith))

run-picks : (labels first count i k : ℕ) → 1 ≤ labels → i + k ≤ count → Picks labels first count (run (first + i) k)
run-picks labels first count zero k some within =
    let start : first ≡ first + zero = omega arith in
    subst (λ a. Picks labels first count (run a k)) start (front-picks labels first count k some (omega arith))
run-picks labels first zero (suc i) k some within = absurd (omega arith)
run-picks labels first (suc count) (suc i) k some within =
    let start : (first + 1) + i ≡ first + suc i = omega arith in
    inl (subst (λ a. Picks labels (first + 1) count (run a k)) start
    (run-picks labels (first + 1) count i k some (omega arith)))

run-is : (labels first count i k start : ℕ) (c : List Mark) → 1 ≤ labels → i + k ≤ count → start ≡ first + i
    → c ≡ run start k
    → Picks labels first count c
run-is labels first count i k start c some within at is =
    subst (Picks labels first count) (ap (λ a. run a k) (sym at) ∙ sym is)
    (run-picks labels first count i k some within)

prefixes-picks : (labels first count : ℕ) (c : List Mark) → 1 ≤ labels → IsIn c (prefixes first count)
    → Picks labels first count c
prefixes-picks labels first count c some c_in =
    let found = in-map (λ length. run first length) c (range_with_len 1 count) c_in in
    let bounds = in-range found.0 1 count found.1 in
    run-is labels first count 0 found.0 first c some (omega arith) (omega arith) found.2

suffixes-picks : (labels first count : ℕ) (c : List Mark) → 1 ≤ labels → IsIn c (suffixes first count)
    → Picks labels first count c
suffixes-picks labels first count c some c_in =
    let found = in-map (λ length. run (first + count - length) length) c (range_with_len 1 count) c_in in
    let bounds = in-range found.0 1 count found.1 in
    run-is labels first count (count - found.0) found.0 (first + count - found.0) c some (omega arith) (omega arith)
    found.2

segments-picks : (labels first count : ℕ) (c : List Mark) → 1 ≤ labels → IsIn c (segments first count)
    → Picks labels first count c
segments-picks labels first zero c some c_in = elim c_in [ ]
segments-picks labels first (suc count) c some c_in =
    elim (in-append c (prefixes first (suc count)) (segments (first + 1) count) c_in) [
      | inl here ↦ prefixes-picks labels first (suc count) c some here
      | inr later ↦ inl (segments-picks labels (first + 1) count c some later)
    ]

whole_run-picks : (labels first count : ℕ) (c : List Mark) → 1 ≤ labels → IsIn c (run first count ∷ [])
    → Picks labels first count c
whole_run-picks labels first count c some (inl same) =
    run-is labels first count 0 count first c some (omega arith) (omega arith) same
whole_run-picks labels first count c some (inr later) = elim later [ ]

pub lists-pick : (shape : Shape) (labels : ℕ) (component : Component) (first count : ℕ) (c : List Mark) → 1 ≤ labels
    → IsIn c (lists_of shape labels component first count) → Picks labels first count c
lists-pick Sublists labels Whole first count c some c_in = sublists-picks labels first count c some c_in
lists-pick Assign labels Whole first count c some c_in = assignments-picks labels first count c c_in
lists-pick Prefixes labels Whole first count c some c_in = whole_run-picks labels first count c some c_in
lists-pick Suffixes labels Whole first count c some c_in = whole_run-picks labels first count c some c_in
lists-pick Segments labels Whole first count c some c_in = whole_run-picks labels first count c some c_in
lists-pick shape labels Pre first count c some c_in = prefixes-picks labels first count c some c_in
lists-pick shape labels Suf first count c some c_in = suffixes-picks labels first count c some c_in
lists-pick shape labels Seg first count c some c_in = segments-picks labels first count c some c_in

-- how far weights reach

pub greatest_below-at : (f : ℕ → ℕ) (n i : ℕ) → i < n → f i ≤ greatest_below f n
greatest_below-at f zero i below = absurd (omega arith)
greatest_below-at f (suc n) i below =
    elim (cases_eq i n) [
      | inl last ↦ let same : f i ≡ f n = ap f last in omega arith
      | inr other ↦ let earlier : f i ≤ greatest_below f n = greatest_below-at f n i (omega arith) in omega arith
    ]

module _ {E : Type 0} {r : SemiringOn E} (laws : IsSemiring r) (labels : ℕ) (letters : List (Letter E))
    (elems : AllElements (IsGood r) (λ letter. letter.elem) letters) where
  sound : (c : List Mark) → r.is_sound (weight_of r labels letters c)
  sound c = product_by-is_element laws.multiplication (λ m. elem_at r.one letters (place_of labels m)) c
      (λ m m_in. (elem_at-is_good laws letters (place_of labels m) elems).sound)

  weight-reach : (first count : ℕ) (c : List Mark) → Picks labels first count c
      → r.reach (weight_of r labels letters c) ≤ rows_reach r labels letters first count
  weight-reach first zero c none =
      let one : r.reach (weight_of r labels letters c) ≡ 0 = ap (λ d. r.reach (weight_of r labels letters d)) none
      ∙ laws.one_reach in
      omega arith
  weight-reach first (suc count) c (inl without) =
      let rest : r.reach (weight_of r labels letters c) ≤ rows_reach r labels letters (first + 1) count =
      weight-reach (first + 1) count c without in
      omega arith
  weight-reach first (suc count) c (inr (label, d, below, is, picks)) =
      let elem = elem_at r.one letters (first * labels + label) in
      let here : r.reach elem ≤ row_reach r labels letters first =
      greatest_below-at (λ label. r.reach (elem_at r.one letters (first * labels + label))) labels label below in
      let rest : r.reach (weight_of r labels letters d) ≤ rows_reach r labels letters (first + 1) count =
      weight-reach (first + 1) count d picks in
      let product : r.reach (r.mul elem (weight_of r labels letters d)) ≤ r.reach elem + r.reach
      (weight_of r labels letters d) =
      laws.mul_reach elem (weight_of r labels letters d)
      (elem_at-is_good laws letters (first * labels + label) elems).sound (sound d) in
      let same : r.reach (weight_of r labels letters c) ≡ r.reach (r.mul elem (weight_of r labels letters d)) =
      ap (λ e. r.reach (weight_of r labels letters e)) is in
      omega arith

  pub masked-reach : (test : Bool) (a : E) (bound : ℕ) → r.reach a ≤ bound → r.reach (masked r test a) ≤ bound
  masked-reach true a bound within = within
  masked-reach false a bound within = let none : r.reach r.zero ≡ 0 = laws.zero_reach in omega arith

  -- what shows the sums of a part reaches no further than its rows
  pub shown-reach : (key : List Mark → ℕ) (shape : Shape) (component : Component) (lo hi : ℕ) (x : ℕ → E) (k : ℕ)
      → 1 ≤ labels
      → ShowsSums r key (weight_of r labels letters) (part shape labels component lo hi) x
      → r.reach (x k) ≤ rows_reach r labels letters lo (hi - lo)
  shown-reach key shape component lo hi x k some shows =
      let lists = part shape labels component lo hi in
      let bound = rows_reach r labels letters lo (hi - lo) in
      subst (λ e. r.reach e ≤ bound) (sym (shows k))
      (total-reach laws (λ c. masked r (nat_eq (key c) k) (weight_of r labels letters c)) lists bound
      (λ c c_in. (masked-IsAdditive laws (nat_eq (key c) k)).keeps_elements (weight_of r labels letters c) (sound c))
      (λ c c_in. masked-reach (nat_eq (key c) k) (weight_of r labels letters c) bound
      (weight-reach lo (hi - lo) c (lists-pick shape labels component lo (hi - lo) c some c_in))))

rows_reach-split : {E : Type 0} (r : SemiringOn E) (labels : ℕ) (letters : List (Letter E)) (first n k : ℕ)
    → rows_reach r labels letters first (n + k) ≡ rows_reach r labels letters first n + rows_reach r labels letters
    (first + n) k
rows_reach-split r labels letters first zero k =
    let count : zero + k ≡ k = omega arith in
    let place : first ≡ first + zero = omega arith in
    let same : rows_reach r labels letters first (zero + k) ≡ rows_reach r labels letters (first + zero) k =
    ap (rows_reach r labels letters first) count ∙ ap (λ a. rows_reach r labels letters a k) place in
    omega arith
rows_reach-split r labels letters first (suc n) k =
    let count : suc n + k ≡ suc (n + k) = omega arith in
    let place : (first + 1) + n ≡ first + suc n = omega arith in
    let rest = rows_reach-split r labels letters (first + 1) n k in
    let whole : rows_reach r labels letters first (suc n + k) ≡ row_reach r labels letters first + rows_reach r
    labels letters (first + 1) (n + k) =
    ap (rows_reach r labels letters first) count in
    let moved : rows_reach r labels letters ((first + 1) + n) k ≡ rows_reach r labels letters (first + suc n) k =
    ap (λ a. rows_reach r labels letters a k) place in
    omega arith

-- two neighbours within the rows reach no further together than all rows
pub neighbours-reach : {E : Type 0} (r : SemiringOn E) (labels : ℕ) (letters : List (Letter E)) (lo mid hi rows : ℕ)
    → lo ≤ mid → mid ≤ hi → hi ≤ rows
    → rows_reach r labels letters lo (mid - lo) + rows_reach r labels letters mid (hi - mid) ≤ rows_reach r labels
    letters 0 rows
neighbours-reach r labels letters lo mid hi rows left right within =
    let before = rows_reach-split r labels letters 0 lo (rows - lo) in
    let split = rows_reach-split r labels letters lo (mid - lo) (rows - mid) in
    let after = rows_reach-split r labels letters mid (hi - mid) (rows - hi) in
    let e1 : rows_reach r labels letters 0 (lo + (rows - lo)) ≡ rows_reach r labels letters 0 rows =
    ap (rows_reach r labels letters 0) (let e : lo + (rows - lo) ≡ rows = omega arith in e) in
    let e2 : rows_reach r labels letters (0 + lo) (rows - lo) ≡ rows_reach r labels letters lo
    ((mid - lo) + (rows - mid)) =
    ap (λ a. rows_reach r labels letters a (rows - lo)) (let e : 0 + lo ≡ lo = omega arith in e)
    ∙ ap (rows_reach r labels letters lo) (let e : rows - lo ≡ (mid - lo) + (rows - mid) = omega arith in e) in
    let e3 : rows_reach r labels letters (lo + (mid - lo)) (rows - mid) ≡ rows_reach r labels letters mid
    ((hi - mid) + (rows - hi)) =
    ap (λ a. rows_reach r labels letters a (rows - mid)) (let e : lo + (mid - lo) ≡ mid = omega arith in e)
    ∙ ap (rows_reach r labels letters mid) (let e : rows - mid ≡ (hi - mid) + (rows - hi) = omega arith in e) in
    omega arith
