-- What the letters of a job have at the place of a mark.
use Rattle.std.proofs.Common.{◌≡◌, ℕ, zero, suc, ◌+◌, ◌*◌, ◌%◌, ◌<◌, ◌≤◌}
use Rattle.std.proofs.Common.{List, [], ◌∷◌, length, get_or, slice_index_or}
use Rattle.std.proofs.Common.{All, ◌++◌, map, refl, sym, ap, ◌∙◌, subst, arith}
use Rattle.std.proofs.Math.Nat.{mul-le-mul_right}
use Rattle.std.proofs.lemmas.Nat.{div-mul-add, mod-mul-add}
use Rattle.std.proofs.lemmas.List.FromFn.{get_or-map-range_with_len, length-map-range_with_len, map-range_with_len_more}
use Rattle.std.specs.List.{range_with_len}
use Rattle.monoid_kit.specs.Items.{IsIn}
use Rattle.monoid_kit.proofs.Items.{IsIn-place}
use Rattle.shape_gen.specs.declared.mark.Mark.{Mark}
use Rattle.shape_gen.specs.Candidates.{mark}
use Rattle.fuse_core.specs.declared.letter.Letter.{Letter}
use Rattle.fuse_core.specs.Letters.{elem_at, key_at, place_of}
use Rattle.gta_meaning.specs.InRange.{IsMarkInRange}
use Rattle.fuse_answer.specs.Letters.{letter_at, letters_of, mark_at}

-- what holds at each place holds of each item
pub all-in : {X : Type 0} (P : X → Type 0) (xs : List X) → All P xs → (x : X) → IsIn x xs → P x
all-in P xs all x x_in = let place = IsIn-place xs x x x_in in subst P place.2 (all place.0 x place.1)

key_at-get_or : {E : Type 0} (unit : ℕ) (letters : List (Letter E)) (place : ℕ) (d : Letter E)
    → place < length letters → key_at unit letters place ≡ (get_or letters place d).key
key_at-get_or unit [] place d below = absurd (omega arith)
key_at-get_or unit (letter ∷ letters) zero d below = refl
key_at-get_or unit (letter ∷ letters) (suc place) d below = key_at-get_or unit letters place d (omega arith)

elem_at-get_or : {E : Type 0} (one : E) (letters : List (Letter E)) (place : ℕ) (d : Letter E)
    → place < length letters → elem_at one letters place ≡ (get_or letters place d).elem
elem_at-get_or one [] place d below = absurd (omega arith)
elem_at-get_or one (letter ∷ letters) zero d below = refl
elem_at-get_or one (letter ∷ letters) (suc place) d below = elem_at-get_or one letters place d (omega arith)

pub place-below : (rows labels : ℕ) (m : Mark) → IsMarkInRange rows labels m → place_of labels m < rows * labels
place-below rows labels m in_range =
    let next : m.row + 1 ≤ rows = omega (arith, in_range.row) in
    let room : (m.row + 1) * labels ≤ rows * labels = mul-le-mul_right labels next in
    omega (arith, room, in_range.label)

pub mark_at-place : (labels : ℕ) (m : Mark) → m.label < labels → mark_at labels (place_of labels m) ≡ m
mark_at-place labels m below =
    ap (λ row. mark row (place_of labels m % labels)) (div-mul-add m.row labels m.label below)
    ∙ ap (mark m.row) (mod-mul-add m.row labels m.label below)

module _ {E W : Type 0} (of_mark : Mark → W → E) (weight : Mark → W) (keys : List ℕ) (rows labels : ℕ)
    (m : Mark) (in_range : IsMarkInRange rows labels m) where
  at-place : get_or (letters_of of_mark weight keys rows labels) (place_of labels m)
      (letter_at of_mark weight keys labels (place_of labels m))
      ≡ letter_at of_mark weight keys labels (place_of labels m)
  at-place =
      let place = place_of labels m in
      let letter = letter_at of_mark weight keys labels in
      get_or-map-range_with_len letter 0 (rows * labels) place place (letter place)
      (place-below rows labels m in_range) (omega arith)

  within : place_of labels m < length (letters_of of_mark weight keys rows labels)
  within =
      let place = place-below rows labels m in_range in
      let long = length-map-range_with_len (letter_at of_mark weight keys labels) 0 (rows * labels) in
      omega (arith, place, long)

  pub key-read : (unit : ℕ)
      → key_at unit (letters_of of_mark weight keys rows labels) (place_of labels m)
      ≡ slice_index_or keys (place_of labels m) 0
  key-read unit =
      key_at-get_or unit (letters_of of_mark weight keys rows labels) (place_of labels m)
      (letter_at of_mark weight keys labels (place_of labels m)) within
      ∙ ap (λ (letter : Letter E). letter.key) at-place

  pub elem-read : (one : E)
      → elem_at one (letters_of of_mark weight keys rows labels) (place_of labels m) ≡ of_mark m (weight m)
  elem-read one =
      elem_at-get_or one (letters_of of_mark weight keys rows labels) (place_of labels m)
      (letter_at of_mark weight keys labels (place_of labels m)) within
      ∙ ap (λ (letter : Letter E). letter.elem) at-place
      ∙ ap (λ (k : Mark). of_mark k (weight k)) (mark_at-place labels m in_range.label)

-- one letter more

module _ {E W : Type 0} (of_mark : Mark → W → E) (weight : Mark → W) (keys : List ℕ) (labels place : ℕ) where
  pub letter-is : (made : ℕ) (weighs : W) (elem : E) → made ≡ labels
      → elem ≡ of_mark (mark_at made place) weighs → weighs ≡ weight (mark_at made place)
      → record { key = slice_index_or keys place 0; elem = elem } ≡ letter_at of_mark weight keys labels place
  letter-is made weighs elem same is weighed =
      let here : elem ≡ of_mark (mark_at labels place) (weight (mark_at labels place)) =
      is ∙ ap (of_mark (mark_at made place)) weighed
      ∙ ap (λ n. of_mark (mark_at n place) (weight (mark_at n place))) same in
      let with_elem : E → Letter E = λ e. record { key = slice_index_or keys place 0; elem = e } in
      ap with_elem here

  pub letters-more : (letters : List (Letter E)) (letter : Letter E)
      → letters ≡ map (letter_at of_mark weight keys labels) (range_with_len 0 place)
      → letter ≡ letter_at of_mark weight keys labels place
      → letters ++ letter ∷ [] ≡ map (letter_at of_mark weight keys labels) (range_with_len 0 (place + 1))
  letters-more letters letter so_far is =
      let f = letter_at of_mark weight keys labels in
      ap (λ ls. ls ++ letter ∷ []) so_far
      ∙ ap (λ l. map f (range_with_len 0 place) ++ l ∷ []) is
      ∙ sym (map-range_with_len_more f 0 place place (omega arith))
