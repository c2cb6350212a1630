use Rattle.std.proofs.Common.{to_z, of_z, w64, ◌≡◌, ℕ, ◌≤◌, List, [], ◌∷◌, ◌++◌, Bool, true, false, nat_eq, cond}
use Rattle.std.proofs.Common.{Option, Some, None, ℤ, sym, ap, subst, ◌∙◌, arith}
use Rattle.std.specs.Prelude.{unsigned_abs}
use Rattle.std.proofs.lemmas.Int.{ints}
use Rattle.semiring_kit.specs.MaxPlus.{max_plus}
use Rattle.key_map.specs.declared.slot.Slot.{Slot}
use Rattle.key_map.specs.Slots.{FitsSlots, value_in}
use Rattle.key_tests.proofs.maps.map_of.Goals as goal

abbrev two : ℤ → ℤ → List (Slot (Option ℤ))
two x y = record { key = 1; elem = Some x } ∷ record { key = 2; elem = Some y } ∷ []

module _ (x y : ℤ) (x_small : unsigned_abs x ≤ 2147483648) (y_small : unsigned_abs y ≤ 2147483648) where
  two-fit : FitsSlots max_plus 0 3 (two x y)
  two-fit = (
    omega arith,
    omega arith,
    (
      record { sound = tt; within = omega arith },
      (omega arith, omega arith, (record { sound = tt; within = omega arith }, tt)),
    ),
  )

  choice : (s t : Bool) → max_plus.reach (cond s (Some x) (cond t (Some y) None)) ≤ 2147483648
  choice true t = x_small
  choice false true = y_small
  choice false false = omega arith

  two-small : (k : ℕ) → max_plus.reach (value_in max_plus.zero (two x y) k) ≤ 2147483648
  two-small k = choice (nat_eq 1 k) (nat_eq 2 k)

pub returns : goal.returns
returns c =
    let x = to_z w64 (of_z w64 c.from.result) in
    let y = to_z w64 (of_z w64 c.from-2.result) in
    let x_small : unsigned_abs x ≤ 2147483648 = rw c.from.ensures (omega (arith, ints)) in
    let y_small : unsigned_abs y ≤ 2147483648 = rw c.from-2.ensures (omega (arith, ints)) in
    let first : Slot (Option ℤ) = record { key = 1; elem = Some x } in
    let second : Slot (Option ℤ) = record { key = 2; elem = Some y } in
    let items : c.push-2.new.self.items ≡ two x y =
    c.in_ok-push-2.ensures.items
    ∙ ap (λ slots. slots ++ second ∷ [])
    (c.in_ok-push.ensures.items ∙ ap (λ slots. slots ++ first ∷ []) c.in_ok-slots.ensures.items) in
    record {
      fits = subst (FitsSlots max_plus 0 3) (sym items) (two-fit x y x_small y_small);
      small = subst (λ slots. (k : ℕ) → max_plus.reach (value_in max_plus.zero slots k) ≤ 2147483648) (sym items)
          (two-small x y x_small y_small);
    }
