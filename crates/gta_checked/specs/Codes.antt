-- How the logic stores an expression over tests: as a list in which operands stand before what joins them.
use Rattle.std.proofs.Common.{◌≡◌, ℕ, zero, suc, List, [], ◌∷◌, ◌++◌, refl, sym, ap, ◌∙◌, append_assoc}
use Rattle.std.specs.Coded.{Coded, code_by, coded_ℕ, coded_list}
use Rattle.std.proofs.lemmas.List.{append-nil}
use Rattle.gta_spec.specs.Keep.{KeepTree, Test, Not, Both, Either}

abbrev listed : KeepTree ℕ → List ℕ
listed (Test test) = suc (suc (suc test)) ∷ []
listed (Not x) = listed x ++ 0 ∷ []
listed (Both x y) = listed x ++ (listed y ++ 1 ∷ [])
listed (Either x y) = listed x ++ (listed y ++ 2 ∷ [])

-- takes operands from a stack, and puts what joins them there
abbrev stacked : ℕ → List (KeepTree ℕ) → List (KeepTree ℕ)
stacked (suc (suc (suc test))) xs = Test test ∷ xs
stacked zero [] = []
stacked zero (x ∷ xs) = Not x ∷ xs
stacked (suc zero) [] = []
stacked (suc zero) (y ∷ []) = []
stacked (suc zero) (y ∷ x ∷ xs) = Both x y ∷ xs
stacked (suc (suc zero)) [] = []
stacked (suc (suc zero)) (y ∷ []) = []
stacked (suc (suc zero)) (y ∷ x ∷ xs) = Either x y ∷ xs

abbrev read : List ℕ → List (KeepTree ℕ) → List (KeepTree ℕ)
read [] xs = xs
read (n ∷ ns) xs = read ns (stacked n xs)

abbrev first : List (KeepTree ℕ) → KeepTree ℕ
first [] = Test 0
first (x ∷ xs) = x

read-listed : (x : KeepTree ℕ) (ns : List ℕ) (xs : List (KeepTree ℕ)) → read (listed x ++ ns) xs ≡ read ns (x ∷ xs)
read-listed (Test test) ns xs = refl
read-listed (Not x) ns xs = ap (λ l. read l xs) (append_assoc (listed x) (0 ∷ []) ns) ∙ read-listed x (0 ∷ ns) xs
read-listed (Both x y) ns xs =
    ap (λ l. read l xs) (append_assoc (listed x) (listed y ++ 1 ∷ []) ns)
    ∙ read-listed x ((listed y ++ 1 ∷ []) ++ ns) xs
    ∙ ap (λ l. read l (x ∷ xs)) (append_assoc (listed y) (1 ∷ []) ns)
    ∙ read-listed y (1 ∷ ns) (x ∷ xs)
read-listed (Either x y) ns xs =
    ap (λ l. read l xs) (append_assoc (listed x) (listed y ++ 2 ∷ []) ns)
    ∙ read-listed x ((listed y ++ 2 ∷ []) ++ ns) xs
    ∙ ap (λ l. read l (x ∷ xs)) (append_assoc (listed y) (2 ∷ []) ns)
    ∙ read-listed y (2 ∷ ns) (x ∷ xs)

pub first-listed : (x : KeepTree ℕ) → first (read (listed x) []) ≡ x
first-listed x =
    ap (λ l. first (read l [])) (sym (append-nil (listed x))) ∙ ap first (read-listed x [] [])

abbrev pub coded_keep : Coded (KeepTree ℕ)
coded_keep = code_by (List ℕ) (coded_list coded_ℕ) listed (λ l. first (read l [])) first-listed
