-- Reading digits with a cap gives the number that they write, cut at the cap.
use Rattle.std.proofs.Common.{◌≡◌, ℕ, ◌+◌, ◌-◌, ◌*◌, min, List, [], ◌∷◌, sym, arith, true, IsTrue}
use Rattle.std.proofs.lemmas.Bool.Decides.{nat_tests}
use Rattle.std.specs.Prelude.{fold}
use Rattle.std.specs.List.{list_all}
use Rattle.std.specs.Char.{digit_value}
use Rattle.std.specs.Str.Parse.{digits_value, digits_value_after}
use Rattle.gta_text.specs.Numbers.{is_digit}
use Rattle.gta_text.specs.Capped.{capped_step}

digit_is : (b : ℕ) → is_digit b ≡ true → digit_value b ≡ b - 48
digit_is b digit = grind (arith, nat_tests)

first_digit : (b : ℕ) (bs : List ℕ) → IsTrue (list_all is_digit (b ∷ bs)) → is_digit b ≡ true
first_digit b bs digits = grind (arith, nat_tests)

other_digits : (b : ℕ) (bs : List ℕ) → IsTrue (list_all is_digit (b ∷ bs)) → IsTrue (list_all is_digit bs)
other_digits b bs digits = grind (arith, nat_tests)

capped_same : (c m n d e : ℕ) → m ≡ min n c → d ≡ e → min (m * 10 + d) c ≡ min (n * 10 + e) c
capped_same c m n d e is same = omega arith

fold_capped_from : (c : ℕ) (bs : List ℕ) (m n : ℕ) → IsTrue (list_all is_digit bs) → m ≡ min n c
    → fold (capped_step c) m bs ≡ min (digits_value_after 10 n bs) c
fold_capped_from c [] m n digits is = is
fold_capped_from c (b ∷ bs) m n digits is =
    fold_capped_from c bs _ _ (other_digits b bs digits)
    (capped_same c m n (b - 48) (digit_value b) is (sym (digit_is b (first_digit b bs digits))))

pub fold_capped : (c : ℕ) (bs : List ℕ) → IsTrue (list_all is_digit bs)
    → fold (capped_step c) 0 bs ≡ min (digits_value 10 bs) c
fold_capped c bs digits = fold_capped_from c bs 0 0 digits (omega arith)
