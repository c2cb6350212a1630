-- The laws of chosen weights, over any choice that addition leaves as it is. The greater weight is one.
use Rattle.std.specs.Prelude.{◌≡◌, ℕ, ◌+◌, ◌≤◌, max, cond, true, false, Option, Some, None}
use Rattle.std.specs.Ordering.{is_gt}
use Rattle.std.proofs.Common.{arith, refl, sym, ap, ◌∙◌}
use Rattle.std.proofs.lemmas.Cmp.{upto}
use Rattle.witness_order.proofs.Placed.{by_test, not_after_back, same_from_both, after_later}
use Rattle.semiring_kit.specs.Semiring.{IsSemiring}
use Rattle.semiring_kit.specs.Chosen.{chosen, together, reach_of, chosen_plus, greater_by, IsChoice}
use Rattle.semiring_kit.specs.Weight.{WeightsOn, IsWeight}

module _ {W : Type 0} {nought : W} {plus choose : W → W → W} {reach : W → ℕ}
    (choice : IsChoice nought plus choose reach) where
  chosen-commutative : (a b : Option W) → chosen choose a b ≡ chosen choose b a
  chosen-commutative None None = refl
  chosen-commutative None (Some y) = refl
  chosen-commutative (Some x) None = refl
  chosen-commutative (Some x) (Some y) = ap Some (choice.choose_commutative x y)

  chosen-associative : (a b c : Option W) → chosen choose (chosen choose a b) c ≡ chosen choose a (chosen choose b c)
  chosen-associative None b c = refl
  chosen-associative (Some x) None c = refl
  chosen-associative (Some x) (Some y) None = refl
  chosen-associative (Some x) (Some y) (Some z) = ap Some (choice.choose_associative x y z)

  chosen-right_identity : (a : Option W) → chosen choose a None ≡ a
  chosen-right_identity None = refl
  chosen-right_identity (Some x) = refl

  together-commutative : (a b : Option W) → together plus a b ≡ together plus b a
  together-commutative None None = refl
  together-commutative None (Some y) = refl
  together-commutative (Some x) None = refl
  together-commutative (Some x) (Some y) = ap Some (choice.plus_commutative x y)

  together-associative : (a b c : Option W) → together plus (together plus a b) c ≡ together plus a (together plus b c)
  together-associative None b c = refl
  together-associative (Some x) None c = refl
  together-associative (Some x) (Some y) None = refl
  together-associative (Some x) (Some y) (Some z) = ap Some (choice.plus_associative x y z)

  together-left_identity : (a : Option W) → together plus (Some nought) a ≡ a
  together-left_identity None = refl
  together-left_identity (Some x) = ap Some (choice.plus_identity x)

  together-distributes_left : (a b c : Option W)
      → together plus a (chosen choose b c) ≡ chosen choose (together plus a b) (together plus a c)
  together-distributes_left None b c = refl
  together-distributes_left (Some x) None c = refl
  together-distributes_left (Some x) (Some y) None = refl
  together-distributes_left (Some x) (Some y) (Some z) = ap Some (choice.distributes x y z)

  together-distributes_right : (a b c : Option W)
      → together plus (chosen choose a b) c ≡ chosen choose (together plus a c) (together plus b c)
  together-distributes_right a b c =
      together-commutative (chosen choose a b) c
      ∙ together-distributes_left c a b
      ∙ ap (λ d. chosen choose d (together plus c b)) (together-commutative c a)
      ∙ ap (chosen choose (together plus a c)) (together-commutative c b)

  chosen-reach : (a b : Option W) → reach_of reach (chosen choose a b) ≤ max (reach_of reach a) (reach_of reach b)
  chosen-reach None b = omega arith
  chosen-reach (Some x) None = omega arith
  chosen-reach (Some x) (Some y) = choice.choose_reach x y

  together-reach : (a b : Option W) → reach_of reach (together plus a b) ≤ reach_of reach a + reach_of reach b
  together-reach None b = omega arith
  together-reach (Some x) None = omega arith
  together-reach (Some x) (Some y) = choice.plus_reach x y

  pub chosen_plus-IsSemiring : IsSemiring (chosen_plus nought plus choose reach)
  chosen_plus-IsSemiring = record {
    addition = record {
      monoid = record {
        unit_is_element = tt;
        product_is_element = λ a b a_in b_in. tt;
        left_identity = λ a a_in. refl;
        right_identity = λ a a_in. chosen-right_identity a;
        associative = λ a b c a_in b_in c_in. chosen-associative a b c;
      };
      commutative = λ a b a_in b_in. chosen-commutative a b;
    };
    multiplication = record {
      unit_is_element = tt;
      product_is_element = λ a b a_in b_in. tt;
      left_identity = λ a a_in. together-left_identity a;
      right_identity = λ a a_in. together-commutative a (Some nought) ∙ together-left_identity a;
      associative = λ a b c a_in b_in c_in. together-associative a b c;
    };
    distributes_left = λ a b c a_in b_in c_in. together-distributes_left a b c;
    distributes_right = λ a b c a_in b_in c_in. together-distributes_right a b c;
    absorbs_left = λ a a_in. refl;
    absorbs_right = λ a a_in. together-commutative a None;
    zero_reach = refl;
    one_reach = choice.nought_reach;
    add_reach = λ a b a_in b_in. chosen-reach a b;
    mul_reach = λ a b a_in b_in. together-reach a b;
  }

-- the greater of two weights

module _ {W : Type 0} (w : WeightsOn W) (laws : IsWeight w) where
  abbrev greater : W → W → W
  greater = greater_by w.order

  pub greater-left : (a b : W) → is_gt (w.order a b) ≡ true → greater a b ≡ a
  greater-left a b after = ap (λ t. cond t a b) after

  pub greater-right : (a b : W) → is_gt (w.order a b) ≡ false → greater a b ≡ b
  greater-right a b not_after = ap (λ t. cond t a b) not_after

  greater-commutative : (a b : W) → greater a b ≡ greater b a
  greater-commutative a b =
      by_test (is_gt (w.order a b))
      (λ after.
      greater-left a b after
      ∙ sym (greater-right b a (not_after_back w.order laws.ranking a b after)))
      (λ not_after.
      greater-right a b not_after
      ∙ by_test (is_gt (w.order b a))
      (λ after. sym (greater-left b a after))
      (λ level. same_from_both w.order laws.ranking b a level not_after ∙ sym (greater-right b a level)))

  greater-associative : (a b c : W) → greater (greater a b) c ≡ greater a (greater b c)
  greater-associative a b c =
      by_test (is_gt (w.order a b))
      (λ a_after_b.
      ap (λ d. greater d c) (greater-left a b a_after_b)
      ∙ by_test (is_gt (w.order b c))
      (λ b_after_c.
      greater-left a c (after_chain a b c a_after_b b_after_c)
      ∙ sym (greater-left a b a_after_b)
      ∙ sym (ap (greater a) (greater-left b c b_after_c)))
      (λ c_up. sym (ap (greater a) (greater-right b c c_up))))
      (λ b_up.
      ap (λ d. greater d c) (greater-right a b b_up)
      ∙ by_test (is_gt (w.order b c))
      (λ b_after_c.
      greater-left b c b_after_c
      ∙ sym (greater-right a b b_up)
      ∙ sym (ap (greater a) (greater-left b c b_after_c)))
      (λ c_up.
      greater-right b c c_up
      ∙ sym (greater-right a c (upto laws.ranking.total a b c b_up c_up))
      ∙ sym (ap (greater a) (greater-right b c c_up))))
    where
      after_chain : (x y z : W) → is_gt (w.order x y) ≡ true → is_gt (w.order y z) ≡ true → is_gt (w.order x z) ≡ true
      after_chain x y z x_after y_after =
          after_later w.order laws.ranking y x z (not_after_back w.order laws.ranking x y x_after) y_after

  plus-greater : (a b c : W) → w.plus a (greater b c) ≡ greater (w.plus a b) (w.plus a c)
  plus-greater a b c =
      by_test (is_gt (w.order b c))
      (λ after.
      ap (w.plus a) (greater-left b c after)
      ∙ sym (greater-left (w.plus a b) (w.plus a c) (ap is_gt (laws.kept.keeps_left a b c) ∙ after)))
      (λ not_after.
      ap (w.plus a) (greater-right b c not_after)
      ∙ sym (greater-right (w.plus a b) (w.plus a c) (ap is_gt (laws.kept.keeps_left a b c) ∙ not_after)))

  greater-reach : (a b : W) → w.reach (greater a b) ≤ max (w.reach a) (w.reach b)
  greater-reach a b =
      by_test (is_gt (w.order a b))
      (λ after. let is = ap w.reach (greater-left a b after) in omega (arith, is))
      (λ not_after. let is = ap w.reach (greater-right a b not_after) in omega (arith, is))

  pub greater_by-IsChoice : IsChoice w.nothing w.plus (greater_by w.order) w.reach
  greater_by-IsChoice = record {
    choose_associative = greater-associative;
    choose_commutative = greater-commutative;
    plus_associative = laws.kept.associative;
    plus_commutative = laws.commutative;
    plus_identity = laws.kept.left_identity;
    distributes = plus-greater;
    nought_reach = laws.nothing_reach;
    choose_reach = greater-reach;
    plus_reach = laws.plus_reach;
  }
