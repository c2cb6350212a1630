-- Elements of few marks with weights below 2^31 are good, in any semiring.
use Rattle.std.proofs.Common.{◌≡◌, ℕ, ◌+◌, ◌*◌, ◌≤◌, max, sym, subst, arith}
use Rattle.semiring_kit.specs.Semiring.{SemiringOn, IsSemiring, IsGood}

-- sound, and within the reach of so many weights
pub record IsSmall {E : Type 0} (ring : SemiringOn E) (n : ℕ) (e : E) : Type 0 where
  pub sound : ring.is_sound e
  pub within : ring.reach e ≤ n * 2147483648

module _ {E : Type 0} (ring : SemiringOn E) (laws : IsSemiring ring) where
  pub small_is_good : (n : ℕ) (e : E) → n ≤ 9 → IsSmall ring n e → IsGood ring e
  small_is_good n e few small = record {
    sound = small.sound;
    within = let within : ring.reach e ≤ n * 2147483648 = small.within in omega (arith, within, few);
  }

  pub small_zero : (e : E) → e ≡ ring.zero → IsSmall ring 0 e
  small_zero e is =
      subst (IsSmall ring 0) (sym is)
      (record {
        sound = laws.addition.monoid.unit_is_element;
        within = let reach : ring.reach ring.zero ≡ 0 = laws.zero_reach in omega (arith, reach);
      })

  pub small_one : (e : E) → e ≡ ring.one → IsSmall ring 0 e
  small_one e is =
      subst (IsSmall ring 0) (sym is)
      (record {
        sound = laws.multiplication.unit_is_element;
        within = let reach : ring.reach ring.one ≡ 0 = laws.one_reach in omega (arith, reach);
      })

  pub small_mark : (bound : ℕ) (made e : E) → ring.is_sound made → ring.reach made ≤ bound → e ≡ made
      → bound ≤ 2147483648 → IsSmall ring 1 e
  small_mark bound made e sound reach is light =
      subst (IsSmall ring 1) (sym is) (record { sound = sound; within = omega (arith, reach, light) })

  pub small_sum : (n : ℕ) (a b e : E) → IsSmall ring n a → IsSmall ring n b → e ≡ ring.add a b → IsSmall ring n e
  small_sum n a b e a_small b_small is =
      subst (IsSmall ring n) (sym is)
      (record {
        sound = laws.addition.monoid.product_is_element a b a_small.sound b_small.sound;
        within =
            let reach : ring.reach (ring.add a b) ≤ max (ring.reach a) (ring.reach b) =
            laws.add_reach a b a_small.sound b_small.sound in
            let left = a_small.within in
            let right = b_small.within in
            omega (arith, reach, left, right);
      })

  pub small_product : (n : ℕ) (a b e : E) → IsSmall ring n a → IsSmall ring 1 b → e ≡ ring.mul a b
      → IsSmall ring (n + 1) e
  small_product n a b e a_small b_small is =
      subst (IsSmall ring (n + 1)) (sym is)
      (record {
        sound = laws.multiplication.product_is_element a b a_small.sound b_small.sound;
        within =
            let reach : ring.reach (ring.mul a b) ≤ ring.reach a + ring.reach b =
            laws.mul_reach a b a_small.sound b_small.sound in
            let left = a_small.within in
            let right = b_small.within in
            omega (arith, reach, left, right);
      })

  -- what is small at a number is small at a greater one
  pub small_more : (n m : ℕ) (e : E) → n ≤ m → IsSmall ring n e → IsSmall ring m e
  small_more n m e more small = record {
    sound = small.sound;
    within = let within = small.within in omega (arith, within, more);
  }

  -- a choice of nothing or of one mark
  pub small_choice : (bound : ℕ) (made left taken e : E) → left ≡ ring.one → ring.is_sound made
      → ring.reach made ≤ bound → taken ≡ made → bound ≤ 2147483648 → e ≡ ring.add left taken → IsSmall ring 1 e
  small_choice bound made left taken e left_is sound reach taken_is light is =
      small_sum 1 left taken e (small_more 0 1 left (omega arith) (small_one left left_is))
      (small_mark bound made taken sound reach taken_is light) is
