-- The verdict of what each test comes to, by one test after the other.
use Rattle.std.proofs.Common.{◌≡◌, ℕ, zero, suc, ◌<◌, Bool, true, false, ◌&&◌, ◌||◌, List, [], ◌∷◌, length}
use Rattle.std.proofs.Common.{get_or, refl, ap, ◌∙◌, arith}
use Rattle.std.proofs.Math.Bool.{and-false}
use Rattle.std.specs.List.{list_all}
use Rattle.gta_meaning.specs.Tests.{unnamed_hold}

pub all-hold : (outcomes : List Bool) → ((k : ℕ) → k < length outcomes → get_or outcomes k false ≡ true)
    → list_all (λ holds. holds) outcomes ≡ true
all-hold [] each = refl
all-hold (o ∷ os) each =
    ap (λ b. b && list_all (λ holds. holds) os) (each 0 (omega arith))
    ∙ all-hold os (λ k below. each (suc k) (omega arith))

-- a test has a name or holds
abbrev pub is_met : List Bool → List Bool → ℕ → Bool
is_met named outcomes k = get_or named k false || get_or outcomes k false

pub unnamed-hold : (named outcomes : List Bool) → length outcomes ≡ length named
    → ((k : ℕ) → k < length named → is_met named outcomes k ≡ true) → unnamed_hold named outcomes ≡ true
unnamed-hold [] [] same each = refl
unnamed-hold [] (o ∷ os) same each = refl
unnamed-hold (n ∷ ns) [] same each = refl
unnamed-hold (n ∷ ns) (o ∷ os) same each =
    ap (λ b. b && unnamed_hold ns os) (each 0 (omega arith))
    ∙ unnamed-hold ns os (omega (arith, same)) (λ k below. each (suc k) (omega arith))

pub unnamed-fails : (named outcomes : List Bool) (k : ℕ) → length outcomes ≡ length named → k < length named
    → is_met named outcomes k ≡ false → unnamed_hold named outcomes ≡ false
unnamed-fails [] os k same below fails = absurd (omega arith)
unnamed-fails (n ∷ ns) [] k same below fails = absurd (omega (arith, same))
unnamed-fails (n ∷ ns) (o ∷ os) zero same below fails = ap (λ b. b && unnamed_hold ns os) fails
unnamed-fails (n ∷ ns) (o ∷ os) (suc k) same below fails =
    ap (λ b. (n || o) && b) (unnamed-fails ns os k (omega (arith, same)) (omega arith) fails) ∙ and-false (n || o)
