-- The accepted candidates are those that pass, and their weights are the products of their marks' elements.
use Rattle.std.proofs.Common.{◌≡◌, ℕ, Bool, cond, List, [], ◌∷◌, slice_index_or, inl, inr, refl, ap, ◌∙◌}
use Rattle.std.specs.List.{filter}
use Rattle.monoid_kit.specs.Items.{IsIn}
use Rattle.monoid_kit.specs.Product.{product_by}
use Rattle.monoid_kit.proofs.Items.{AllElements-filter}
use Rattle.monoid_kit.proofs.Products.{product_by-same}
use Rattle.semiring_kit.specs.Semiring.{SemiringOn}
use Rattle.semiring_kit.specs.Aggregates.{sum_over}
use Rattle.shape_gen.specs.declared.mark.Mark.{Mark}
use Rattle.shape_gen.specs.declared.shape.Shape.{Shape}
use Rattle.shape_gen.specs.Candidates.{candidates}
use Rattle.fuse_core.specs.declared.letter.Letter.{Letter}
use Rattle.fuse_core.specs.Letters.{elem_at, key_at, key_of, place_of, weight_of}
use Rattle.fuse_core.specs.Plans.{accepts, accepted_sum}
use Rattle.gta_checked.specs.PlainRows.{PlainRows}
use Rattle.gta_checked.specs.Plain.{PlainChecked}
use Rattle.gta_meaning.specs.InRange.{IsInRangeOf, IsMarkInRange, label_count}
use Rattle.gta_meaning.specs.Kept.{generated, kept}
use Rattle.gta_meaning.specs.Tests.{passes}
use Rattle.gta_meaning.proofs.Generated.{generated-IsInRangeOf}
use Rattle.fuse_answer.specs.Keys.{DecidePassing}
use Rattle.fuse_answer.specs.Letters.{letters_of}
use Rattle.fuse_answer.proofs.AtPlaces.{all-in, elem-read, key-read}

-- tests that agree on the items of a list keep the same items
filter-agree : {X : Type 0} (p q : X → Bool) (xs : List X) → ((x : X) → IsIn x xs → p x ≡ q x)
    → filter p xs ≡ filter q xs
filter-agree p q [] agree = refl
filter-agree p q (x ∷ xs) agree =
    ap (λ t. cond t (x ∷ filter p xs) (filter p xs)) (agree x (inl refl))
    ∙ ap (λ ys. cond (q x) (x ∷ ys) ys) (filter-agree p q xs (λ y y_in. agree y (inr y_in)))

module _ {E W : Type 0} (r : SemiringOn E) (of_mark : Mark → W → E) (weight : Mark → W)
    (checked : PlainChecked) (rows : PlainRows) (size unit : ℕ) (times : ℕ → ℕ → ℕ)
    (keys : List ℕ) (accept : List Bool) (decide : DecidePassing checked rows size unit times keys accept) where
  abbrev key : List Mark → ℕ
  key c = key_of unit times (label_count checked) (letters_of of_mark weight keys rows.count (label_count checked)) c

  abbrev weigh : List Mark → E
  weigh c = weight_of r (label_count checked) (letters_of of_mark weight keys rows.count (label_count checked)) c

  abbrev product : List Mark → E
  product c = product_by r.one r.mul (λ m. of_mark m (weight m)) c

  accepts-passes : (c : List Mark) → IsInRangeOf checked rows c → accepts accept (key c) ≡ passes checked rows c
  accepts-passes c in_range =
      let labels = label_count checked in
      ap (accepts accept)
      (product_by-same unit times
      (λ m. key_at unit (letters_of of_mark weight keys rows.count labels) (place_of labels m))
      (λ m. slice_index_or keys (place_of labels m) 0) c
      (λ m m_in. key-read of_mark weight keys rows.count labels m
      (all-in (IsMarkInRange rows.count labels) c in_range.each m m_in) unit))
      ∙ decide.decides c in_range

  weight-product : (c : List Mark) → IsInRangeOf checked rows c → weigh c ≡ product c
  weight-product c in_range =
      let labels = label_count checked in
      product_by-same r.one r.mul
      (λ m. elem_at r.one (letters_of of_mark weight keys rows.count labels) (place_of labels m))
      (λ m. of_mark m (weight m)) c
      (λ m m_in. elem-read of_mark weight keys rows.count labels m
      (all-in (IsMarkInRange rows.count labels) c in_range.each m m_in) r.one)

  pub accepted-kept : accepted_sum r key weigh accept (candidates checked.shape rows.count (label_count checked))
      ≡ sum_over r of_mark weight (kept checked rows)
  accepted-kept =
      let all = generated checked rows in
      let in_range : (c : List Mark) → IsIn c all → IsInRangeOf checked rows c =
      all-in (IsInRangeOf checked rows) all (generated-IsInRangeOf checked rows) in
      ap (λ cs. product_by r.zero r.add weigh cs)
      (filter-agree (λ c. accepts accept (key c)) (passes checked rows) all
      (λ c c_in. accepts-passes c (in_range c c_in)))
      ∙ product_by-same r.zero r.add weigh product (kept checked rows)
      (AllElements-filter (λ (c : List Mark). weigh c ≡ product c) (λ c. c) (passes checked rows) all
      (λ c c_in. weight-product c (in_range c c_in)))

  pub accepted-kept_of : (shape : Shape) (labels : ℕ) (letters : List (Letter E)) → shape ≡ checked.shape
      → labels ≡ label_count checked → letters ≡ letters_of of_mark weight keys rows.count (label_count checked)
      → accepted_sum r (key_of unit times labels letters) (weight_of r labels letters) accept
      (candidates shape rows.count labels)
      ≡ sum_over r of_mark weight (kept checked rows)
  accepted-kept_of shape labels letters is_shape is_labels is_letters =
      ap (λ s. accepted_sum r (key_of unit times labels letters) (weight_of r labels letters) accept
      (candidates s rows.count labels)) is_shape
      ∙ ap (λ n. accepted_sum r (key_of unit times n letters) (weight_of r n letters) accept
      (candidates checked.shape rows.count n)) is_labels
      ∙ ap (λ ls. accepted_sum r (key_of unit times (label_count checked) ls) (weight_of r (label_count checked) ls)
      accept (candidates checked.shape rows.count (label_count checked))) is_letters
      ∙ accepted-kept
