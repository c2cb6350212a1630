-- The letters of a job's rows and labels.
use Rattle.std.specs.Prelude.{◌≡◌, ℕ, ◌*◌, ◌/◌, ◌%◌, ◌≤◌, List, length, map, slice_index_or}
use Rattle.std.specs.List.{range_with_len}
use Rattle.monoid_kit.specs.Items.{AllElements}
use Rattle.semiring_kit.specs.Semiring.{SemiringOn, IsGood, weight_bound}
use Rattle.shape_gen.specs.declared.mark.Mark.{Mark}
use Rattle.shape_gen.specs.Candidates.{mark}
use Rattle.fuse_core.specs.declared.letter.Letter.{Letter}
use Rattle.fuse_core.specs.Letters.{rows_reach}

-- the mark at a place, where marks stand by row, and then by label
abbrev pub mark_at : ℕ → ℕ → Mark
mark_at labels place = mark (place / labels) (place % labels)

-- the letter at a place: its key, and the element of its mark's weight
abbrev pub letter_at : {E W : Type 0} → (Mark → W → E) → (Mark → W) → List ℕ → ℕ → ℕ → Letter E
letter_at of_mark weight keys labels place = record {
  key = slice_index_or keys place 0;
  elem = of_mark (mark_at labels place) (weight (mark_at labels place));
}

-- the letters of all rows and labels
abbrev pub letters_of : {E W : Type 0} → (Mark → W → E) → (Mark → W) → List ℕ → ℕ → ℕ
    → List (Letter E)
letters_of of_mark weight keys rows labels =
    map (letter_at of_mark weight keys labels) (range_with_len 0 (rows * labels))

-- a letter for each row and label, with good values that all rows together keep good
pub record AreLawful {E : Type 0} (r : SemiringOn E) (rows labels : ℕ) (letters : List (Letter E)) : Type 0 where
  pub count : length letters ≡ rows * labels
  pub elems : AllElements (IsGood r) (λ letter. letter.elem) letters
  pub within : rows_reach r labels letters 0 rows ≤ weight_bound
