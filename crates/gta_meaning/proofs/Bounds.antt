-- Bounds of absolute values: of a cell, of a product, and of a sum.
use Rattle.std.proofs.Common.{◌≡◌, ℕ, ◌+◌, ◌*◌, ◌<◌, ◌≤◌, ℤ, pos, ◌+ℤ◌, ◌*ℤ◌, nat_abs, true, List, length, get_or}
use Rattle.std.proofs.Common.{IsTrue, subst, sym, arith}
use Rattle.std.proofs.lemmas.Int.{ints, unsigned_abs-mul}
use Rattle.std.proofs.lemmas.Bool.Decides.{nat_tests}
use Rattle.std.proofs.lemmas.List.Sums.{AllPass-from_list_all}
use Rattle.std.proofs.lemmas.List.Elements.{All-get_or}
use Rattle.std.proofs.Math.Nat.{mul-le-mul}
use Rattle.std.specs.List.{list_all}
use Rattle.gta_text.specs.declared.numbers.TheConstants.{NUMBER_BOUND}
use Rattle.gta_checked.specs.Cells.{is_cell}

is_cell-bounded : (x : ℤ) → is_cell x ≡ true → nat_abs x ≤ NUMBER_BOUND
is_cell-bounded x h = grind (arith, nat_tests)

pub cells-bounded : (xs : List ℤ) (k : ℕ) → IsTrue (list_all is_cell xs) → k < length xs
    → nat_abs (get_or xs k (pos 0)) ≤ NUMBER_BOUND
cells-bounded xs k all below =
    is_cell-bounded (get_or xs k (pos 0))
    (All-get_or (λ x. is_cell x ≡ true) xs k (pos 0) below (AllPass-from_list_all is_cell xs all))

pub nat_abs-product-le : (a b : ℤ) (m n : ℕ) → nat_abs a ≤ m → nat_abs b ≤ n → nat_abs (a *ℤ b) ≤ m * n
nat_abs-product-le a b m n a_below b_below =
    subst (λ (x : ℕ). x ≤ m * n) (sym (unsigned_abs-mul a b)) (mul-le-mul a_below b_below)

pub nat_abs-sum-le : (a b : ℤ) → nat_abs (a +ℤ b) ≤ nat_abs a + nat_abs b
nat_abs-sum-le a b = omega (arith, ints)
