-- The letters of a job are those of a plan: keys are elements, values are good, and all rows together reach no further
-- than the bound of weights.
use Rattle.std.proofs.Common.{◌≡◌, ℕ, zero, suc, ◌+◌, ◌*◌, ◌<◌, ◌≤◌, List}
use Rattle.std.proofs.Common.{None, length, slice_index_or, sum_by, ap, subst, sym, arith, div-lt_iff_lt-mul, mod-lt, mul-zero}
use Rattle.std.specs.List.{range_with_len}
use Rattle.std.proofs.lemmas.List.FromFn.{get_or-range_with_len, length-map-range_with_len, length-range_with_len}
use Rattle.std.proofs.lemmas.List.Sums.{sum_by-cons}
use Rattle.monoid_kit.specs.Items.{IsIn, AllElements}
use Rattle.monoid_kit.proofs.Items.{AllElements-map, IsIn-get_or, IsIn-place}
use Rattle.semiring_kit.specs.Semiring.{SemiringOn, IsGood}
use Rattle.shape_gen.specs.declared.mark.Mark.{Mark}
use Rattle.shape_gen.specs.Candidates.{mark}
use Rattle.fuse_core.specs.Letters.{elem_at, greatest_below, row_reach, rows_reach}
use Rattle.fuse_core.specs.declared.letter.Letter.{Letter}
use Rattle.gta_checked.specs.Plain.{PlainChecked}
use Rattle.gta_checked.specs.PlainRows.{PlainRows}
use Rattle.gta_meaning.specs.Heavy.{first_heavy, goal_measures, row_weight}
use Rattle.gta_meaning.specs.InRange.{IsMarkInRange, label_count}
use Rattle.fuse_answer.specs.Letters.{AreLawful, letter_at, letters_of, mark_at}
use Rattle.fuse_answer.proofs.Light.{IsLight, weights-light}
use Rattle.fuse_answer.proofs.AtPlaces.{elem-read}

in-range : (n place : ℕ) → IsIn place (range_with_len 0 n) → place < n
in-range n place place_in =
    let at = IsIn-place (range_with_len 0 n) place 0 place_in in
    let long = length-range_with_len 0 n in
    let below : at.0 < n = omega (arith, at.1, long) in
    let read = get_or-range_with_len 0 n at.0 0 below in
    let there = at.2 in
    omega (arith, below, read, there)

pub mark_at-in_range : (rows labels place : ℕ) → place < rows * labels
    → IsMarkInRange rows labels (mark_at labels place)
mark_at-in_range rows zero place below = absurd (let none = mul-zero rows in omega (arith, none))
mark_at-in_range rows (suc more) place below = record {
  row = (div-lt_iff_lt-mul {k = suc more} {x = place} {y = rows} (omega arith)).1 below;
  label = mod-lt place {m = suc more} (omega arith);
}

greatest-within : (f : ℕ → ℕ) (bound n : ℕ) → ((k : ℕ) → k < n → f k ≤ bound) → greatest_below f n ≤ bound
greatest-within f bound zero within = omega arith
greatest-within f bound (suc n) within =
    let before = greatest-within f bound n (λ k below. within k (omega arith)) in
    let here = within n (omega arith) in
    omega (arith, before, here)

module _ {E W : Type 0} (of_mark : Mark → W → E) (weight : Mark → W) (keys : List ℕ) (rows labels : ℕ) where
  pub keys-are_elements : (size : ℕ) → length keys ≡ rows * labels
      → AllElements (λ key. key < size) (λ key. key) keys
      → AllElements (λ key. key < size) (λ letter. letter.key) (letters_of of_mark weight keys rows labels)
  keys-are_elements size count elements =
      AllElements-map (λ key. key < size) (λ letter. letter.key) (letter_at of_mark weight keys labels)
      (range_with_len 0 (rows * labels))
      (λ place place_in.
      let below = in-range (rows * labels) place place_in in
      elements (slice_index_or keys place 0) (IsIn-get_or keys place 0 (omega (arith, below, count))))

module _ {E W : Type 0} (r : SemiringOn E) (of_mark : Mark → W → E) (weight_reach : W → ℕ)
    (sound : (m : Mark) (w : W) → r.is_sound (of_mark m w))
    (reach : (m : Mark) (w : W) → r.reach (of_mark m w) ≤ weight_reach w)
    (weight : Mark → W) (bound : ℕ → ℕ) (keys : List ℕ) (rows labels : ℕ)
    (light : IsLight (λ m. weight_reach (weight m)) bound rows labels) where
  mark-reach : (m : Mark) → IsMarkInRange rows labels m → r.reach (of_mark m (weight m)) ≤ bound m.row
  mark-reach m in_range =
      let far = reach m (weight m) in
      let near = light.mark m in_range in
      omega (arith, far, near)

  pub elems-good : AllElements (IsGood r) (λ letter. letter.elem) (letters_of of_mark weight keys rows labels)
  elems-good =
      AllElements-map (IsGood r) (λ letter. letter.elem) (letter_at of_mark weight keys labels)
      (range_with_len 0 (rows * labels))
      (λ place place_in.
      let m = mark_at labels place in
      let in_range = mark_at-in_range rows labels place (in-range (rows * labels) place place_in) in
      record {
        sound = sound m (weight m);
        within =
            let near = mark-reach m in_range in
            let row = light.row m.row in_range.row in
            omega (arith, near, row);
      })

  rows-reach : (first count : ℕ) → first + count ≤ rows
      → rows_reach r labels (letters_of of_mark weight keys rows labels) first count
      ≤ sum_by bound (range_with_len first count)
  rows-reach first zero within = omega arith
  rows-reach first (suc count) within =
      let letters = letters_of of_mark weight keys rows labels in
      let here : row_reach r labels letters first ≤ bound first =
      greatest-within (λ label. r.reach (elem_at r.one letters (first * labels + label))) (bound first) labels
      (λ label below.
      let in_range : IsMarkInRange rows labels (mark first label) = record { row = omega arith; label = below } in
      let read = ap r.reach (elem-read of_mark weight keys rows labels (mark first label) in_range r.one) in
      let near = mark-reach (mark first label) in_range in
      omega (arith, read, near)) in
      let rest = rows-reach (first + 1) count (omega arith) in
      let all = sum_by-cons bound first (range_with_len (first + 1) count) in
      omega (arith, here, rest, all)

  pub reach-within : rows_reach r labels (letters_of of_mark weight keys rows labels) 0 rows ≤ 4611686018427387903
  reach-within =
      let each = rows-reach 0 rows (omega arith) in
      let all = light.all in
      omega (arith, each, all)

-- the letters of a job are lawful

module _ {E W : Type 0} (r : SemiringOn E) (of_mark : Mark → W → E) (weight_reach : W → ℕ)
    (sound : (m : Mark) (w : W) → r.is_sound (of_mark m w))
    (reach : (m : Mark) (w : W) → r.reach (of_mark m w) ≤ weight_reach w)
    (weight : Mark → W) (checked : PlainChecked) (rows : PlainRows) (keys : List ℕ) where
  pub letters-lawful : first_heavy checked rows ≡ None
      → ((m : Mark) → m.label < label_count checked
      → weight_reach (weight m) ≤ row_weight checked rows (goal_measures checked.goal) m.row)
      → (letters : List (Letter E)) → letters ≡ letters_of of_mark weight keys rows.count (label_count checked)
      → AreLawful r rows.count (label_count checked) letters
  letters-lawful light near letters is =
      let labels = label_count checked in
      let bound = row_weight checked rows (goal_measures checked.goal) in
      let within = weights-light checked rows (goal_measures checked.goal) light (λ m. weight_reach (weight m)) near in
      subst (AreLawful r rows.count labels) (sym is) (record {
        count = length-map-range_with_len (letter_at of_mark weight keys labels) 0 (rows.count * labels);
        elems = elems-good r of_mark weight_reach sound reach weight bound keys rows.count labels within;
        within = reach-within r of_mark weight_reach sound reach weight bound keys rows.count labels within;
      })
