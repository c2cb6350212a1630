-- Shortlex and the order of entries are rankings, and joined lists keep them.
use Rattle.std.proofs.Common.{◌≡◌, ℕ, ◌+◌, Bool, true, false, ℤ, pos, ◌+ℤ◌, List, [], ◌∷◌, ◌++◌, length, refl, sym}
use Rattle.std.proofs.Common.{ap, ◌∙◌, arith, append_assoc, length-append}
use Rattle.std.proofs.lemmas.List.{append-nil}
use Rattle.std.specs.declared.cmp.Ordering.{Ordering}
use Rattle.std.specs.declared.cmp.Ordering.TheVariants.{Less, Equal, Greater}
use Rattle.std.specs.Ordering.{ordering_then, nat_cmp, int_cmp, flip_args}
use Rattle.std.specs.Cmp.Lexicographic.{slice_cmp}
use Rattle.std.proofs.lemmas.Cmp.{ranked as nat_ranked, int_ranked, tied_itself, on_total, then_total, back_total}
use Rattle.std.proofs.lemmas.Cmp.{lists_total, nat_cmp_total, int_cmp_total}
use Rattle.std.proofs.lemmas.Bool.Decides.{nat_tests}
use Rattle.std.proofs.lemmas.Int.{ints}
use Rattle.shape_gen.specs.declared.mark.Mark.{Mark}
use Rattle.witness_order.specs.Rankings.{IsRanking, KeepsRanking}
use Rattle.witness_order.specs.Shortlex.{mark_order, shortlex_by, shortlex}
use Rattle.witness_order.specs.Before.{better_by, before_by, before, no_marks, together}

-- one comparison after another

then_equal : (o p : Ordering) → ordering_then o p ≡ Equal → (o ≡ Equal) × (p ≡ Equal)
then_equal Less p equal = cc
then_equal Equal p equal = (refl, equal)
then_equal Greater p equal = cc

then_alike : (o p q : Ordering) → (o ≡ Equal → p ≡ q) → ordering_then o p ≡ ordering_then o q
then_alike Less p q alike = refl
then_alike Equal p q alike = alike refl
then_alike Greater p q alike = refl

nat_cmp-same : (a b : ℕ) → nat_cmp a b ≡ Equal → a ≡ b
nat_cmp-same a b equal = nat_ranked a b Equal (sym equal)

int_cmp-same : (a b : ℤ) → int_cmp a b ≡ Equal → a ≡ b
int_cmp-same a b equal = int_ranked a b Equal (sym equal)

-- lists

module _ {X : Type 0} {order : X → X → Ordering} (ranking : IsRanking order) where
  slice_cmp-same : (xs ys : List X) → slice_cmp order xs ys ≡ Equal → xs ≡ ys
  slice_cmp-same [] [] equal = refl
  slice_cmp-same [] (y ∷ ys) equal = cc
  slice_cmp-same (x ∷ xs) [] equal = cc
  slice_cmp-same (x ∷ xs) (y ∷ ys) equal =
      let both = then_equal (order x y) (slice_cmp order xs ys) equal in
      ap (λ z. z ∷ xs) (ranking.same x y both.0) ∙ ap (λ l. y ∷ l) (slice_cmp-same xs ys both.1)

  slice_cmp-left : (xs ys zs : List X) → slice_cmp order (xs ++ ys) (xs ++ zs) ≡ slice_cmp order ys zs
  slice_cmp-left [] ys zs = refl
  slice_cmp-left (x ∷ xs) ys zs = rw (tied_itself ranking.total x) (slice_cmp-left xs ys zs)

  -- a list behind both counts only where their lengths differ
  slice_cmp-right : (xs ys zs : List X) → length xs ≡ length ys
      → slice_cmp order (xs ++ zs) (ys ++ zs) ≡ slice_cmp order xs ys
  slice_cmp-right [] [] zs even = tied_itself (lists_total ranking.total) zs
  slice_cmp-right [] (y ∷ ys) zs even = absurd (omega arith)
  slice_cmp-right (x ∷ xs) [] zs even = absurd (omega arith)
  slice_cmp-right (x ∷ xs) (y ∷ ys) zs even =
      ap (ordering_then (order x y)) (slice_cmp-right xs ys zs (omega arith))

  pub shortlex_by-IsRanking : IsRanking (shortlex_by order)
  shortlex_by-IsRanking = record {
    total = then_total (on_total length nat_cmp_total) (lists_total ranking.total);
    same = λ xs ys equal.
        slice_cmp-same xs ys (then_equal (nat_cmp (length xs) (length ys)) (slice_cmp order xs ys) equal).1;
  }

  nat_cmp-left : (a b c : ℕ) → nat_cmp (a + b) (a + c) ≡ nat_cmp b c
  nat_cmp-left a b c = grind (arith, nat_tests)

  nat_cmp-right : (a b c : ℕ) → nat_cmp (a + c) (b + c) ≡ nat_cmp a b
  nat_cmp-right a b c = grind (arith, nat_tests)

  shortlex_by-left : (xs ys zs : List X) → shortlex_by order (xs ++ ys) (xs ++ zs) ≡ shortlex_by order ys zs
  shortlex_by-left xs ys zs =
      rw (
        length-append xs ys,
        length-append xs zs,
        nat_cmp-left (length xs) (length ys) (length zs),
        slice_cmp-left
            xs ys zs,
      ) refl

  shortlex_by-right : (xs ys zs : List X) → shortlex_by order (xs ++ zs) (ys ++ zs) ≡ shortlex_by order xs ys
  shortlex_by-right xs ys zs =
      rw (length-append xs zs, length-append ys zs, nat_cmp-right (length xs) (length ys) (length zs))
      (then_alike (nat_cmp (length xs) (length ys)) (slice_cmp order (xs ++ zs) (ys ++ zs)) (slice_cmp order xs ys)
      (λ even. slice_cmp-right xs ys zs (nat_cmp-same (length xs) (length ys) even)))

  pub shortlex_by-KeepsRanking : KeepsRanking (shortlex_by order) [] (λ xs ys. xs ++ ys)
  shortlex_by-KeepsRanking = record {
    left_identity = λ xs. refl;
    right_identity = append-nil;
    associative = append_assoc;
    keeps_left = shortlex_by-left;
    keeps_right = shortlex_by-right;
  }

-- marks

pub mark_order-IsRanking : IsRanking mark_order
mark_order-IsRanking = record {
  total = then_total (on_total (λ (x : Mark). x.row) nat_cmp_total) (on_total (λ (x : Mark). x.label) nat_cmp_total);
  same = λ x y equal.
      let both = then_equal (nat_cmp x.row y.row) (nat_cmp x.label y.label) equal in
      same_mark x y (nat_cmp-same x.row y.row both.0) (nat_cmp-same x.label y.label both.1);
}
  where
    mark : ℕ → ℕ → Mark
    mark row label = record { row = row; label = label }

    same_mark : (x y : Mark) → x.row ≡ y.row → x.label ≡ y.label → x ≡ y
    same_mark x y rows labels = ap (λ n. mark n x.label) rows ∙ ap (mark y.row) labels

pub shortlex-IsRanking : IsRanking shortlex
shortlex-IsRanking = shortlex_by-IsRanking mark_order-IsRanking

pub shortlex-KeepsRanking : KeepsRanking shortlex [] (λ xs ys. xs ++ ys)
shortlex-KeepsRanking = shortlex_by-KeepsRanking mark_order-IsRanking

-- totals

pub flip_args-IsRanking : {E : Type 0} {cmp : E → E → Ordering} → IsRanking cmp → IsRanking (flip_args cmp)
flip_args-IsRanking ranking = record {
  total = back_total ranking.total;
  same = λ x y equal. sym (ranking.same y x equal);
}

pub flip_args-KeepsRanking : {E : Type 0} {cmp : E → E → Ordering} {unit : E} {mul : E → E → E}
    → KeepsRanking cmp unit mul → KeepsRanking (flip_args cmp) unit mul
flip_args-KeepsRanking kept = record {
  left_identity = kept.left_identity;
  right_identity = kept.right_identity;
  associative = kept.associative;
  keeps_left = λ x y z. kept.keeps_left x z y;
  keeps_right = λ x y z. kept.keeps_right y x z;
}

pub int_cmp-IsRanking : IsRanking int_cmp
int_cmp-IsRanking = record { total = int_cmp_total; same = int_cmp-same }

int_cmp-left : (a b c : ℤ) → int_cmp (a +ℤ b) (a +ℤ c) ≡ int_cmp b c
int_cmp-left a b c = grind (arith, ints, nat_tests)

int_cmp-right : (a b c : ℤ) → int_cmp (a +ℤ c) (b +ℤ c) ≡ int_cmp a b
int_cmp-right a b c = grind (arith, ints, nat_tests)

pub int_cmp-KeepsRanking : KeepsRanking int_cmp (pos 0) ◌+ℤ◌
int_cmp-KeepsRanking = record {
  left_identity = λ a. omega (arith, ints);
  right_identity = λ a. omega (arith, ints);
  associative = λ a b c. omega (arith, ints);
  keeps_left = int_cmp-left;
  keeps_right = int_cmp-right;
}

module _ {W : Type 0} {order : W → W → Ordering} where
  pub better_by-IsRanking : IsRanking order → (greatest : Bool) → IsRanking (better_by order greatest)
  better_by-IsRanking ranking true = flip_args-IsRanking ranking
  better_by-IsRanking ranking false = ranking

  pub better_by-KeepsRanking : {nothing : W} {plus : W → W → W} → KeepsRanking order nothing plus
      → (greatest : Bool) → KeepsRanking (better_by order greatest) nothing plus
  better_by-KeepsRanking kept true = flip_args-KeepsRanking kept
  better_by-KeepsRanking kept false = kept

-- entries, of any rankings of totals and of marks

module _ {W M : Type 0} (totals : W → W → Ordering) (marks : M → M → Ordering) where
  -- by the total, then by the marks
  abbrev pub in_turn : W × M → W × M → Ordering
  in_turn c d = ordering_then (totals c.0 d.0) (marks c.1 d.1)

  same_pair : (c d : W × M) → c.0 ≡ d.0 → c.1 ≡ d.1 → c ≡ d
  same_pair c d totals_same marks_same =
      let with_marks : W → W × M = λ w. (w, c.1) in
      let with_total : M → W × M = λ m. (d.0, m) in
      ap with_marks totals_same ∙ ap with_total marks_same

  pub in_turn-IsRanking : IsRanking totals → IsRanking marks → IsRanking in_turn
  in_turn-IsRanking first second = record {
    total = then_total (on_total (λ (c : W × M). c.0) first.total) (on_total (λ (c : W × M). c.1) second.total);
    same = λ c d equal.
        let both = then_equal (totals c.0 d.0) (marks c.1 d.1) equal in
        same_pair c d (first.same c.0 d.0 both.0) (second.same c.1 d.1 both.1);
  }

  pub in_turn-KeepsRanking : (none : W) (sum : W → W → W) (empty : M) (join : M → M → M)
      → KeepsRanking totals none sum → KeepsRanking marks empty join
      → KeepsRanking in_turn (none, empty) (λ c d. (sum c.0 d.0, join c.1 d.1))
  in_turn-KeepsRanking none sum empty join first second = record {
    left_identity = λ c. same_pair (sum none c.0, join empty c.1) c (first.left_identity c.0)
        (second.left_identity c.1);
    right_identity = λ c. same_pair (sum c.0 none, join c.1 empty) c (first.right_identity c.0)
        (second.right_identity c.1);
    associative = λ c d e.
        same_pair (sum (sum c.0 d.0) e.0, join (join c.1 d.1) e.1) (sum c.0 (sum d.0 e.0), join c.1 (join d.1 e.1))
        (first.associative c.0 d.0 e.0) (second.associative c.1 d.1 e.1);
    keeps_left = λ c d e.
        ap (λ o. ordering_then o (marks (join c.1 d.1) (join c.1 e.1))) (first.keeps_left c.0 d.0 e.0)
        ∙ ap (ordering_then (totals d.0 e.0)) (second.keeps_left c.1 d.1 e.1);
    keeps_right = λ c d e.
        ap (λ o. ordering_then o (marks (join c.1 e.1) (join d.1 e.1))) (first.keeps_right c.0 d.0 e.0)
        ∙ ap (ordering_then (totals c.0 d.0)) (second.keeps_right c.1 d.1 e.1);
  }

module _ {W : Type 0} {totals : W → W → Ordering} where
  pub before_by-IsRanking : IsRanking totals → IsRanking (before_by totals)
  before_by-IsRanking ranking = in_turn-IsRanking totals shortlex ranking shortlex-IsRanking

  pub before_by-KeepsRanking : {nothing : W} {plus : W → W → W} → KeepsRanking totals nothing plus
      → KeepsRanking (before_by totals) (no_marks nothing) (together plus)
  before_by-KeepsRanking {nothing} {plus} kept =
      in_turn-KeepsRanking totals shortlex nothing plus [] (λ xs ys. xs ++ ys) kept shortlex-KeepsRanking

pub before-IsRanking : (greatest : Bool) → IsRanking (before greatest)
before-IsRanking greatest = before_by-IsRanking (better_by-IsRanking int_cmp-IsRanking greatest)

pub before-KeepsRanking : (greatest : Bool) → KeepsRanking (before greatest) (no_marks (pos 0)) (together ◌+ℤ◌)
before-KeepsRanking greatest = before_by-KeepsRanking (better_by-KeepsRanking int_cmp-KeepsRanking greatest)
