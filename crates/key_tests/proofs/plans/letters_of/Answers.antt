use Rattle.std.proofs.Common.{◌≡◌, rules, refl, sym, ap, ◌∙◌, subst, inl, inr, ℕ, zero, suc, ◌+◌, ◌*◌, ◌<◌, ◌≤◌, List}
use Rattle.std.proofs.Common.{[], ◌∷◌, ◌++◌, ℤ, unsigned_abs, w64, to_z, of_z, SFits, arith}
use Rattle.std.proofs.lemmas.Int.{ints, to_z-of_z}
use Rattle.monoid_kit.specs.Items.{AllElements}
use Rattle.monoid_kit.proofs.Items.{AllElements-append}
use Rattle.semiring_kit.specs.Semiring.{SemiringOn, IsSemiring, IsGood}
use Rattle.shape_gen.specs.declared.mark.Mark.{Mark}
use Rattle.fuse_core.specs.declared.letter.Letter.{Letter}
use Rattle.fuse_core.specs.Letters.{elem_at, greatest_below, row_reach, rows_reach}
use Rattle.key_tests.proofs.plans.letters_of.Goals as goal

more : {E X : Type 0} (is_element : E → Type 0) (f : X → E) (old new : List X) (x : X) → new ≡ old ++ x ∷ []
    → AllElements is_element f old → is_element (f x) → AllElements is_element f new
more is_element f old new x is in_old in_x =
    subst (AllElements is_element f) (sym is)
    (AllElements-append is_element f old (x ∷ []) in_old (λ y y_in. elim y_in [
      | inl same ↦ subst (λ z. is_element (f z)) (sym same) in_x
      | inr later ↦ absurd later
    ]))

greatest-within : (f : ℕ → ℕ) (bound n : ℕ) → ((k : ℕ) → f k ≤ bound) → greatest_below f n ≤ bound
greatest-within f bound zero within = omega arith
greatest-within f bound (suc n) within =
    let before = greatest-within f bound n within in
    let here = within n in
    omega arith

module _ {E : Type 0} {r : SemiringOn E} (laws : IsSemiring r) where
  elem-near : (letters : List (Letter E)) (place : ℕ)
      → AllElements (λ elem. r.reach elem ≤ 32768) (λ letter. letter.elem) letters
      → r.reach (elem_at r.one letters place) ≤ 32768
  elem-near [] place near = let none : r.reach r.one ≡ 0 = laws.one_reach in omega arith
  elem-near (letter ∷ letters) zero near = near letter (inl refl)
  elem-near (letter ∷ letters) (suc place) near = elem-near letters place (λ l l_in. near l (inr l_in))

  rows-near : (labels : ℕ) (letters : List (Letter E)) (first count : ℕ)
      → AllElements (λ elem. r.reach elem ≤ 32768) (λ letter. letter.elem) letters
      → rows_reach r labels letters first count ≤ count * 32768
  rows-near labels letters first zero near = omega arith
  rows-near labels letters first (suc count) near =
      let here : row_reach r labels letters first ≤ 32768 =
      greatest-within (λ label. r.reach (elem_at r.one letters (first * labels + label))) 32768 labels
      (λ label. elem-near letters (first * labels + label) near) in
      let rest = rows-near labels letters (first + 1) count near in
      omega arith

module _ {E : Type 0} (r : SemiringOn E) (of_mark : Mark → ℤ → E)
    (sound : (mark : Mark) (weight : ℤ) → r.is_sound (of_mark mark weight))
    (reach : (mark : Mark) (weight : ℤ) → r.reach (of_mark mark weight) ≤ unsigned_abs weight)
    (elem : E) (mark : Mark) (weight : ℤ) (fits : SFits w64 weight)
    (is : elem ≡ of_mark mark (to_z w64 (of_z w64 weight))) (small : unsigned_abs weight ≤ 32768) where
  mark-near : r.reach elem ≤ 32768
  mark-near =
      let same : r.reach elem ≡ r.reach (of_mark mark weight) = ap r.reach
      (is ∙ ap (of_mark mark) (to_z-of_z w64 weight fits)) in
      let far : r.reach (of_mark mark weight) ≤ unsigned_abs weight = reach mark weight in
      omega arith

  mark-good : IsGood r elem
  mark-good = record {
    sound = subst r.is_sound (sym is) (sound mark (to_z w64 (of_z w64 weight)));
    within = let near : r.reach elem ≤ 32768 = mark-near in omega arith;
  }

pub loop-value-preserved : goal.loop-value-preserved
loop-value-preserved g c =
    let r = g.S.Semiring.ring c.args.kit.now in
    let old = c.loop-value.letters.items in
    let new = c.push.new.self.items in
    let is = c.in_ok-push.ensures.items in
    let fits : SFits w64 c.from.result = rw c.from.ensures (search rules) in
    let of_mark = g.S.Semiring.of_mark c.args.kit.now in
    let reach : (mark : Mark) (weight : ℤ) → r.reach (of_mark mark weight) ≤ unsigned_abs weight = λ mark weight.
    let near = g.met.S.Semiring.mark_reach c.args.kit.now mark weight in
    let plain = c.requires.plain weight in
    omega (arith, near, plain) in
    let small : unsigned_abs c.from.result ≤ 32768 = rw c.from.ensures (omega (arith, ints)) in
    record {
      count = let count = c.loop-value.invariant.count in let long = c.in_ok-push.ensures.len in search rules;
      keys = more (λ key. key < c.args.size) (λ letter. letter.key) old new _ is c.loop-value.invariant.keys
          (let least = c.min.ensures in search rules);
      good = more (IsGood r) (λ letter. letter.elem) old new _ is c.loop-value.invariant.good
          (mark-good r (g.S.Semiring.of_mark c.args.kit.now) (g.met.S.Semiring.mark_is_sound c.args.kit.now)
          reach
          c.in_ok-elem.elem _ c.from.result fits c.in_ok-elem.ensures small);
      near = more (λ elem. r.reach elem ≤ 32768) (λ letter. letter.elem) old new _ is c.loop-value.invariant.near
          (mark-near r (g.S.Semiring.of_mark c.args.kit.now) (g.met.S.Semiring.mark_is_sound c.args.kit.now)
          reach
          c.in_ok-elem.elem _ c.from.result fits c.in_ok-elem.ensures small);
    }

pub returns-clause-near : goal.returns-clause-near
returns-clause-near g c = λ labels rows.
    rows-near (g.met.S.Semiring.laws c.args.kit.now) labels c.loop-value.letters.items 0 rows
    c.loop-value.invariant.near
