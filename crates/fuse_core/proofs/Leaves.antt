-- What the maps of no row and of one row show.
use Rattle.std.proofs.lemmas.List.{append-nil}
use Rattle.std.proofs.Common.{◌≡◌, refl, sym, ap, ◌∙◌, subst, ℕ, zero, suc, ◌+◌, ◌*◌, ◌<◌, ◌≤◌, true, false, List, []}
use Rattle.std.proofs.Common.{◌∷◌, ◌++◌, length, map, slice_index_or, nat_eq, arith, mul-le-mul_right, Result, Ok}
use Rattle.std.proofs.Common.{Err, IfOk}
use Rattle.monoid_kit.specs.Monoid.{IsMonoid}
use Rattle.semiring_kit.specs.Semiring.{SemiringOn, IsSemiring, IsGood, weight_bound}
use Rattle.semiring_kit.specs.Total.{masked, total_at_key}
use Rattle.shape_gen.specs.declared.mark.Mark.{Mark}
use Rattle.shape_gen.specs.declared.shape.Shape.{Shape}
use Rattle.shape_gen.specs.Candidates.{mark}
use Rattle.fuse_core.specs.declared.letter.Letter.{Letter}
use Rattle.fuse_core.specs.Letters.{key_at, elem_at, key_of, weight_of, HasLetters}
use Rattle.fuse_core.specs.Stands.{ShowsSums, Shows}
use Rattle.fuse_core.specs.Wirings.{joints}
use Rattle.key_map.specs.Convolution.{convolution}
use Rattle.key_map.specs.Maps.{alone, ReachesAddUp}
use Rattle.fuse_core.proofs.Weighs.{weighs, key_at-in_range, elem_at-is_good}
use Rattle.fuse_core.proofs.Joins.{sum_shows, product_shows}

pub if_ok-then : {A B : Type 0} (P R : A → Type 0) → ((a : A) → P a → R a) → (result : Result A B) → IfOk result P
    → IfOk result R
if_ok-then P R step (Ok a) p = step a p
if_ok-then P R step (Err e) p = p

-- reading letters

pub place-within : (rows labels row label : ℕ) → row < rows → label < labels → row * labels + label < rows * labels
place-within rows labels row label row_in label_in =
    let next : row + 1 ≤ rows = omega arith in
    let product : (row + 1) * labels ≤ rows * labels = mul-le-mul_right labels next in
    omega (arith, product)

pub key-read : {E : Type 0} (unit : ℕ) (letters : List (Letter E)) (place : ℕ) (x : Letter E) → place < length letters
    → x ≡ slice_index_or letters place x → x.key ≡ key_at unit letters place
key-read unit [] place x within is = absurd (omega arith)
key-read unit (letter ∷ letters) zero x within is = ap (λ l. l.key) is
key-read unit (letter ∷ letters) (suc place) x within is = key-read unit letters place x (omega arith) is

pub elem-read : {E : Type 0} (one : E) (letters : List (Letter E)) (place : ℕ) (x : Letter E) → place < length letters
    → x ≡ slice_index_or letters place x → x.elem ≡ elem_at one letters place
elem-read one [] place x within is = absurd (omega arith)
elem-read one (letter ∷ letters) zero x within is = ap (λ l. l.elem) is
elem-read one (letter ∷ letters) (suc place) x within is = elem-read one letters place x (omega arith) is

module _ {E M : Type 0} {r : SemiringOn E} (laws : IsSemiring r) {size unit : ℕ} {times : ℕ → ℕ → ℕ}
    (monoid : IsMonoid size unit times)
    (fits : M → Type 0) (value_at : M → ℕ → E)
    (shape : Shape) (rows labels : ℕ) (letters : List (Letter E)) (has : HasLetters r size shape rows labels letters)
  where
    shows : List (List Mark) → M → Type 0
    shows lists map = Shows r (key_of unit times labels letters) (weight_of r labels letters) fits value_at lists map

    zero_right : (a : E) → r.is_sound a → r.add a r.zero ≡ a
    zero_right a a_sound = laws.addition.monoid.right_identity a a_sound

    masked_sound : (k m : ℕ) (a : E) → r.is_sound a → r.is_sound (masked r (nat_eq k m) a)
    masked_sound k m a a_sound = elim (nat_eq k m) as (λ t. r.is_sound (masked r t a))
        [ true ↦ a_sound | false ↦ laws.addition.monoid.unit_is_element ]

    -- the map of the empty list
    pub empty-value : (key : ℕ) (elem : E) (z : M) → key ≡ unit → elem ≡ r.one → fits z
        → ((k : ℕ) → value_at z k ≡ masked r (nat_eq key k) elem)
        → Shows r (key_of unit times labels letters) (weight_of r labels letters) fits value_at ([] ∷ []) z
    empty-value key elem z key_is elem_is z_fits value = record {
      fits_kit = z_fits;
      sums = λ m. value m ∙ ap (λ k. masked r (nat_eq k m) elem) key_is ∙ ap (masked r (nat_eq unit m)) elem_is
          ∙ sym (zero_right (masked r (nat_eq unit m) r.one)
          (masked_sound unit m r.one laws.multiplication.unit_is_element));
    }

    pub letter-is_good : (row label : ℕ) (x : Letter E) → row < rows → label < labels
        → x ≡ slice_index_or letters (row * labels + label) x → IsGood r x.elem
    letter-is_good row label x row_in label_in is =
        let within : row * labels + label < length letters =
        subst (λ n. row * labels + label < n) (sym has.count) (place-within rows labels row label row_in label_in) in
        subst (IsGood r) (sym (elem-read r.one letters (row * labels + label) x within is))
        (elem_at-is_good laws letters (row * labels + label) has.elems)

    pub letter-key : (row label : ℕ) (x : Letter E) → row < rows → label < labels
        → x ≡ slice_index_or letters (row * labels + label) x → x.key < size
    letter-key row label x row_in label_in is =
        let within : row * labels + label < length letters =
        subst (λ n. row * labels + label < n) (sym has.count) (place-within rows labels row label row_in label_in) in
        subst (λ key. key < size) (sym (key-read unit letters (row * labels + label) x within is))
        (key_at-in_range size unit letters (row * labels + label) monoid.unit_is_element has.keys)

    -- the value of a letter at its key shows the one list with the mark
    pub mark-sums : (row label : ℕ) (x : Letter E) (elem : E) → row < rows → label < labels
        → x ≡ slice_index_or letters (row * labels + label) x → elem ≡ x.elem
        → ShowsSums r (key_of unit times labels letters) (weight_of r labels letters) ((mark row label ∷ []) ∷ [])
        (alone r x.key elem)
    mark-sums row label x elem row_in label_in is same m =
        let within : row * labels + label < length letters =
        subst (λ n. row * labels + label < n) (sym has.count) (place-within rows labels row label row_in label_in) in
        let place = row * labels + label in
        let key_is : x.key ≡ times (key_at unit letters place) unit =
        key-read unit letters place x within is
        ∙ sym (monoid.right_identity (key_at unit letters place)
        (key_at-in_range size unit letters place monoid.unit_is_element has.keys)) in
        let elem_is : elem ≡ r.mul (elem_at r.one letters place) r.one =
        same ∙ elem-read r.one letters place x within is
        ∙ sym (laws.multiplication.right_identity (elem_at r.one letters place)
        (elem_at-is_good laws letters place has.elems).sound) in
        let product_sound : r.is_sound (r.mul (elem_at r.one letters place) r.one) =
        laws.multiplication.product_is_element (elem_at r.one letters place) r.one
        (elem_at-is_good laws letters place has.elems).sound laws.multiplication.unit_is_element in
        ap (λ k. masked r (nat_eq k m) elem) key_is
        ∙ ap (masked r (nat_eq (times (key_at unit letters place) unit) m)) elem_is
        ∙ sym (zero_right (masked r (nat_eq (times (key_at unit letters place) unit) m)
        (r.mul (elem_at r.one letters place) r.one))
        (masked_sound (times (key_at unit letters place) unit) m (r.mul (elem_at r.one letters place) r.one)
        product_sound))

    -- the map of the one list with a mark
    pub marked-value : (row label : ℕ) (x : Letter E) (elem : E) (z : M) → row < rows → label < labels
        → x ≡ slice_index_or letters (row * labels + label) x → elem ≡ x.elem → fits z
        → ((k : ℕ) → value_at z k ≡ masked r (nat_eq x.key k) elem)
        → Shows r (key_of unit times labels letters) (weight_of r labels letters) fits value_at
        ((mark row label ∷ []) ∷ []) z
    marked-value row label x elem z row_in label_in is same z_fits value = record {
      fits_kit = z_fits;
      sums = λ m. value m ∙ mark-sums row label x elem row_in label_in is same m;
    }

    before-sums : (row label : ℕ) (x : Letter E) (later : ℕ → E) → row < rows → label < labels
        → x ≡ slice_index_or letters (row * labels + label) x → (ds : List (List Mark))
        → ShowsSums r (key_of unit times labels letters) (weight_of r labels letters) ds later
        → ShowsSums r (key_of unit times labels letters) (weight_of r labels letters) (map (λ d. mark row label ∷ d) ds)
        (convolution r size times (alone r x.key x.elem) later)
    before-sums row label x later row_in label_in is ds sums m =
        product_shows laws (weighs laws monoid shape rows labels letters has) ((mark row label ∷ []) ∷ []) ds
        (alone r x.key x.elem) later
        (mark-sums row label x x.elem row_in label_in is refl) sums m
        ∙ ap (λ l. total_at_key r (key_of unit times labels letters) (weight_of r labels letters) l m)
        (append-nil (map (λ d. mark row label ∷ d) ds))

    -- the mark before each list of a map
    pub before-value : (row label : ℕ) (x : Letter E) (later z : M) → row < rows → label < labels
        → x ≡ slice_index_or letters (row * labels + label) x → fits z
        → ((k : ℕ) → value_at z k ≡ convolution r size times (alone r x.key x.elem) (value_at later) k)
        → (ds : List (List Mark))
        → Shows r (key_of unit times labels letters) (weight_of r labels letters) fits value_at ds later
        → Shows r (key_of unit times labels letters) (weight_of r labels letters) fits value_at
        (map (λ d. mark row label ∷ d) ds) z
    before-value row label x later z row_in label_in is z_fits value ds shown = record {
      fits_kit = z_fits;
      sums = λ m. value m ∙ before-sums row label x (value_at later) row_in label_in is ds shown.sums m;
    }

    -- what a map shows, with the mark before each list of another
    pub with_before-value : (row label : ℕ) (x : Letter E) (into later z : M) → row < rows → label < labels
        → x ≡ slice_index_or letters (row * labels + label) x → fits z
        → ((k : ℕ) → value_at z k ≡ r.add (value_at into k)
        (convolution r size times (alone r x.key x.elem) (value_at later) k))
        → (cs ds : List (List Mark))
        → Shows r (key_of unit times labels letters) (weight_of r labels letters) fits value_at cs into
        → Shows r (key_of unit times labels letters) (weight_of r labels letters) fits value_at ds later
        → Shows r (key_of unit times labels letters) (weight_of r labels letters) fits value_at
        (cs ++ map (λ d. mark row label ∷ d) ds) z
    with_before-value row label x into later z row_in label_in is z_fits value cs ds xs ys = record {
      fits_kit = z_fits;
      sums = λ m. value m
          ∙ sum_shows laws (weighs laws monoid shape rows labels letters has) cs (map (λ d. mark row label ∷ d) ds)
          (value_at into) (convolution r size times (alone r x.key x.elem) (value_at later)) xs.sums
          (λ n. before-sums row label x (value_at later) row_in label_in is ds ys.sums n) m;
    }

    -- the letter's reach is as far as the plan's letters say
    pub letter-reach : (row label : ℕ) (x : Letter E) (y : ℕ → E) → row < rows → label < labels
        → x ≡ slice_index_or letters (row * labels + label) x
        → ((k : ℕ) → r.reach (elem_at r.one letters (row * labels + label)) + r.reach (y k) ≤ weight_bound)
        → ReachesAddUp r (alone r x.key x.elem) y
    letter-reach row label x y row_in label_in is add_up j k =
        let within : row * labels + label < length letters =
        subst (λ n. row * labels + label < n) (sym has.count) (place-within rows labels row label row_in label_in) in
        let same : r.reach x.elem ≡ r.reach (elem_at r.one letters (row * labels + label)) = ap r.reach
        (elem-read r.one letters (row * labels + label) x within is) in
        let here : r.reach (alone r x.key x.elem j) ≤ r.reach x.elem =
        elim (nat_eq x.key j) as (λ t. r.reach (masked r t x.elem) ≤ r.reach x.elem) [
          | true ↦ omega arith
          | false ↦ let none : r.reach r.zero ≡ 0 = laws.zero_reach in omega arith
        ] in
        let both = add_up k in
        omega (arith, same, here, both)

    -- the same lists
    pub same-value : (cs : List (List Mark)) (x z : M) → fits z → ((k : ℕ) → value_at z k ≡ value_at x k)
        → Shows r (key_of unit times labels letters) (weight_of r labels letters) fits value_at cs x
        → Shows r (key_of unit times labels letters) (weight_of r labels letters) fits value_at cs z
    same-value cs x z z_fits value shown = record { fits_kit = z_fits; sums = λ m. value m ∙ shown.sums m }

    -- each list of one map with each of another behind it
    pub across-value : (cs ds : List (List Mark)) (x y z : M) → fits z
        → ((k : ℕ) → value_at z k ≡ convolution r size times (value_at x) (value_at y) k)
        → Shows r (key_of unit times labels letters) (weight_of r labels letters) fits value_at cs x
        → Shows r (key_of unit times labels letters) (weight_of r labels letters) fits value_at ds y
        → Shows r (key_of unit times labels letters) (weight_of r labels letters) fits value_at (joints cs ds) z
    across-value cs ds x y z z_fits value xs ys = record {
      fits_kit = z_fits;
      sums = λ m. value m ∙ product_shows laws (weighs laws monoid shape rows labels letters has) cs ds (value_at x)
          (value_at y) xs.sums ys.sums m;
    }

    -- sums of what two maps show
    pub both-value : (cs ds : List (List Mark)) (x y z : M)
        → Shows r (key_of unit times labels letters) (weight_of r labels letters) fits value_at cs x
        → Shows r (key_of unit times labels letters) (weight_of r labels letters) fits value_at ds y
        → fits z → ((k : ℕ) → value_at z k ≡ r.add (value_at x k) (value_at y k))
        → Shows r (key_of unit times labels letters) (weight_of r labels letters) fits value_at (cs ++ ds) z
    both-value cs ds x y z xs ys z_fits value = record {
      fits_kit = z_fits;
      sums = λ m. value m ∙ sum_shows laws (weighs laws monoid shape rows labels letters has) cs ds (value_at x)
          (value_at y) xs.sums ys.sums m;
    }
