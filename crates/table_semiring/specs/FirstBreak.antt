-- The first law of a semiring that tables break. The laws have numbers, and a law has one, two or three elements.
use Rattle.std.specs.Prelude.{◌≡◌, ℕ, ◌==◌, not, nat_lt, Bool, if◌then◌else◌, List, map, Option, Some}
use Rattle.std.specs.List.{find, flat_map, range_with_len}
use Rattle.monoid_kit.specs.Items.{pairs}
use Rattle.table_semiring.specs.declared.checks.Break.{Break}
use Rattle.table_semiring.specs.declared.checks.SemiringFault.{SemiringFault}
use Rattle.table_semiring.specs.declared.checks.SemiringFault.TheVariants.{Broken, Memory}
use Rattle.table_semiring.specs.declared.laws.TheConstants.{LAWS}
use Rattle.table_semiring.specs.Table.{PlainRaw, sum_in, product_in}

-- both sides of the law with this number, from 0
abbrev pub sides : PlainRaw → ℕ → ℕ → ℕ → ℕ → ℕ × ℕ
sides t law a b c =
    -- plus zero: a + 0 = a
    if law == 0 then (sum_in t a t.zero, a)
    -- plus swaps: a + b = b + a
    else (if law == 1 then (sum_in t a b, sum_in t b a)
    -- plus groups: (a + b) + c = a + (b + c)
    else (if law == 2 then (sum_in t (sum_in t a b) c, sum_in t a (sum_in t b c))
    -- mult one left: 1 a = a
    else (if law == 3 then (product_in t t.one a, a)
    -- mult one right: a 1 = a
    else (if law == 4 then (product_in t a t.one, a)
    -- mult groups: (a b) c = a (b c)
    else (if law == 5 then (product_in t (product_in t a b) c, product_in t a (product_in t b c))
    -- left spread: a (b + c) = a b + a c
    else (if law == 6 then (product_in t a (sum_in t b c), sum_in t (product_in t a b) (product_in t a c))
    -- right spread: (a + b) c = a c + b c
    else (if law == 7 then (product_in t (sum_in t a b) c, sum_in t (product_in t a c) (product_in t b c))
    -- zero left: 0 a = 0
    else (if law == 8 then (product_in t t.zero a, t.zero)
    -- zero right: a 0 = 0
    else (product_in t a t.zero, t.zero)))))))))

abbrev pub law_holds : PlainRaw → ℕ → ℕ → ℕ → ℕ → Bool
law_holds t law a b c = (sides t law a b c).0 == (sides t law a b c).1

-- how many elements the law has
abbrev pub arity : ℕ → ℕ
arity law =
    if law == 1 then 2
    else (if law == 2 then 3
    else (if law == 5 then 3
    else (if law == 6 then 3
    else (if law == 7 then 3
    else 1))))

-- how many there are for a place of the law: each element, or only 0 where the law has no such place
abbrev pub choices : PlainRaw → ℕ → ℕ → ℕ
choices t law place = if nat_lt place (arity law) then t.size else 1

-- the places where the law may break, their elements in lexicographic order
abbrev pub places : PlainRaw → ℕ → List Break
places t law =
    map (λ p. record { law = law; a = p.0; b = p.1.0; c = p.1.1 })
    (pairs (range_with_len 0 (choices t law 0))
    (pairs (range_with_len 0 (choices t law 1)) (range_with_len 0 (choices t law 2))))

abbrev pub is_broken : PlainRaw → Break → Bool
is_broken t at = not (law_holds t at.law at.a at.b at.c)

-- the first place, by the law and then by its elements, where the law breaks
abbrev pub first_break : PlainRaw → Option Break
first_break t = find (is_broken t) (flat_map (places t) (range_with_len 0 LAWS))

-- an end that carries the first break; want of memory is free
abbrev pub IsEndOf : Option Break → SemiringFault → Type 0
IsEndOf first Memory = Unit {0}
IsEndOf first (Broken law a b c) = first ≡ Some (record { law = law; a = a; b = b; c = c })
