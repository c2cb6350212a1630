-- The lists of n + k rows from those of the first n and of the last k. Only segments come in another order.
use Rattle.std.proofs.Common.{◌≡◌, sym, ap, ◌∙◌, subst, ℕ, zero, suc, ◌+◌, ◌-◌, ◌≤◌, List, [], ◌∷◌, ◌++◌, map, arith}
use Rattle.std.proofs.Common.{append_assoc}
use Rattle.std.proofs.lemmas.List.{append-nil, map-append}
use Rattle.std.proofs.lemmas.List.Sorted.{IsPermutation-append_comm, IsPermutation-append_right, IsPermutation-refl}
use Rattle.std.proofs.lemmas.List.Sorted.{IsPermutation-trans}
use Rattle.std.specs.List.{range_with_len, flat_map}
use Rattle.std.specs.List.Sorted.{IsPermutation}
use Rattle.shape_gen.specs.declared.mark.Mark.{Mark}
use Rattle.shape_gen.specs.Candidates.{mark, run, sublists, assignments, prefixes, suffixes, segments}
use Rattle.shape_gen.proofs.Lists.{concats, map-map, map-same, flat_map-flat_map, flat_map-same, range-append}
use Rattle.shape_gen.proofs.Lists.{range-shift, map-range, concats-append, concats-cons, concats-single}
use Rattle.shape_gen.proofs.Lists.{concats-empty, concats-one}

pub run-split : (first n k : ℕ) → run first (n + k) ≡ run first n ++ run (first + n) k
run-split first n k =
    ap (map (λ row. mark row 0)) (range-append first n k)
    ∙ map-append (λ row. mark row 0) (range_with_len first n) (range_with_len (first + n) k)

pub sublists-split : (first n k : ℕ) → sublists first (n + k) ≡ concats (sublists first n) (sublists (first + n) k)
sublists-split first zero k =
    let count : zero + k ≡ k = omega arith in
    let place : first ≡ first + zero = omega arith in
    ap (sublists first) count ∙ ap (λ a. sublists a k) place ∙ sym (concats-empty (sublists (first + zero) k))
sublists-split first (suc n) k =
    let count : suc n + k ≡ suc (n + k) = omega arith in
    let place : (first + 1) + n ≡ first + suc n = omega arith in
    let left = sublists (first + 1) n in
    let right = sublists (first + suc n) k in
    let rest : sublists (first + 1) (n + k) ≡ concats left right =
    sublists-split (first + 1) n k ∙ ap (λ a. concats left (sublists a k)) place in
    ap (sublists first) count
    ∙ ap (λ l. l ++ map (λ c. mark first 0 ∷ c) l) rest
    ∙ ap (λ l. concats left right ++ l) (sym (concats-cons (mark first 0) left right))
    ∙ sym (concats-append left (map (λ c. mark first 0 ∷ c) left) right)

pub assignments-split : (labels first n k : ℕ)
    → assignments labels first (n + k) ≡ concats (assignments labels first n) (assignments labels (first + n) k)
assignments-split labels first zero k =
    let count : zero + k ≡ k = omega arith in
    let place : first ≡ first + zero = omega arith in
    ap (assignments labels first) count ∙ ap (λ a. assignments labels a k) place
    ∙ sym (concats-empty (assignments labels (first + zero) k))
assignments-split labels first (suc n) k =
    let count : suc n + k ≡ suc (n + k) = omega arith in
    let place : (first + 1) + n ≡ first + suc n = omega arith in
    let left = assignments labels (first + 1) n in
    let right = assignments labels (first + suc n) k in
    let rest : assignments labels (first + 1) (n + k) ≡ concats left right =
    assignments-split labels (first + 1) n k ∙ ap (λ a. concats left (assignments labels a k)) place in
    ap (assignments labels first) count
    ∙ ap (λ l. flat_map (λ label. map (λ c. mark first label ∷ c) l) (range_with_len 0 labels)) rest
    ∙ flat_map-same (λ label. map (λ c. mark first label ∷ c) (concats left right))
    (λ label. concats (map (λ c. mark first label ∷ c) left) right) (range_with_len 0 labels)
    (λ label. sym (concats-cons (mark first label) left right))
    ∙ sym (flat_map-flat_map (λ c. map (λ d. c ++ d) right) (λ label. map (λ c. mark first label ∷ c) left)
    (range_with_len 0 labels))

pub prefixes-split : (first n k : ℕ)
    → prefixes first (n + k) ≡ prefixes first n ++ concats (run first n ∷ []) (prefixes (first + n) k)
prefixes-split first n k =
    let place : 1 + n ≡ n + 1 = omega arith in
    let longer = range_with_len 1 k in
    ap (map (run first)) (range-append 1 n k)
    ∙ map-append (run first) (range_with_len 1 n) (range_with_len (1 + n) k)
    ∙ ap (λ l. prefixes first n ++ l) (
    ap (λ a. map (run first) (range_with_len a k)) place
    ∙ ap (map (run first)) (range-shift n 1 k)
    ∙ map-map (run first) (λ i. n + i) longer
    ∙ map-same (λ i. run first (n + i)) (λ i. run first n ++ run (first + n) i) longer (run-split first n)
    ∙ sym (map-map (λ d. run first n ++ d) (run (first + n)) longer)
    ∙ sym (concats-single (run first n) (prefixes (first + n) k)))

-- a suffix that is longer than the last k rows
longer_suffix : (first n k i : ℕ) → i ≤ n
    → run (first + (n + k) - (k + i)) (k + i) ≡ run (first + n - i) i ++ run (first + n) k
longer_suffix first n k i within =
    let start : first + (n + k) - (k + i) ≡ first + n - i = omega arith in
    let count : k + i ≡ i + k = omega arith in
    let place : (first + n - i) + i ≡ first + n = omega arith in
    ap (λ a. run a (k + i)) start ∙ ap (run (first + n - i)) count ∙ run-split (first + n - i) i k
    ∙ ap (λ a. run (first + n - i) i ++ run a k) place

pub suffixes-split : (first n k : ℕ)
    → suffixes first (n + k) ≡ suffixes (first + n) k ++ concats (suffixes first n) (run (first + n) k ∷ [])
suffixes-split first n k =
    let suffix : ℕ → List Mark = λ length. run (first + (n + k) - length) length in
    let count : n + k ≡ k + n = omega arith in
    let place : 1 + k ≡ k + 1 = omega arith in
    let end : first + (n + k) ≡ (first + n) + k = omega arith in
    let longer = range_with_len 1 n in
    ap (λ m. map suffix (range_with_len 1 m)) count
    ∙ ap (map suffix) (range-append 1 k n)
    ∙ map-append suffix (range_with_len 1 k) (range_with_len (1 + k) n)
    ∙ ap (λ m. map (λ length. run (m - length) length) (range_with_len 1 k) ++ map suffix (range_with_len (1 + k) n))
    end
    ∙ ap (λ l. suffixes (first + n) k ++ l) (
    ap (λ a. map suffix (range_with_len a n)) place
    ∙ ap (map suffix) (range-shift k 1 n)
    ∙ map-map suffix (λ i. k + i) longer
    ∙ map-range (λ i. suffix (k + i)) (λ i. run (first + n - i) i ++ run (first + n) k) 1 n
    (λ i from below. longer_suffix first n k i (omega arith))
    ∙ sym (map-map (λ c. c ++ run (first + n) k) (λ length. run (first + n - length) length) longer)
    ∙ sym (concats-one (suffixes first n) (run (first + n) k)))

-- the suffixes with one row before them: one more, the longest
suffixes-more : (first n : ℕ) → suffixes first (suc n) ≡ suffixes (first + 1) n ++ run first (suc n) ∷ []
suffixes-more first n =
    let count : suc n ≡ 1 + n = omega arith in
    let start : first + 1 - 1 ≡ first = omega arith in
    ap (suffixes first) count
    ∙ suffixes-split first 1 n
    ∙ ap (λ a. suffixes (first + 1) n ++ (run a 1 ++ run (first + 1) n) ∷ []) start
    ∙ ap (λ c. suffixes (first + 1) n ++ c ∷ []) (sym (run-split first 1 n) ∙ ap (run first) (sym count))

regroup : {X : Type 0} (a b c d e : List X) → IsPermutation ((a ++ b) ++ (c ++ (d ++ e))) ((a ++ c) ++ (d ++ (e ++ b)))
regroup a b c d e =
    let left : (a ++ b) ++ (c ++ (d ++ e)) ≡ a ++ (b ++ (c ++ (d ++ e))) = append_assoc a b (c ++ (d ++ e)) in
    let right : a ++ ((c ++ (d ++ e)) ++ b) ≡ (a ++ c) ++ (d ++ (e ++ b)) = simp append_assoc in
    subst (λ l. IsPermutation l ((a ++ c) ++ (d ++ (e ++ b)))) (sym left)
    (subst (λ l. IsPermutation (a ++ (b ++ (c ++ (d ++ e)))) l) right
    (IsPermutation-append_right a (b ++ (c ++ (d ++ e))) ((c ++ (d ++ e)) ++ b)
    (IsPermutation-append_comm b (c ++ (d ++ e)))))

pub segments-split : (first n k : ℕ)
    → IsPermutation (segments first (n + k))
    (segments first n ++ (segments (first + n) k ++ concats (suffixes first n) (prefixes (first + n) k)))
segments-split first zero k =
    let count : zero + k ≡ k = omega arith in
    let place : first ≡ first + zero = omega arith in
    let same : segments first (zero + k) ≡ segments (first + zero) k ++ [] =
    ap (segments first) count ∙ ap (λ a. segments a k) place ∙ sym (append-nil (segments (first + zero) k)) in
    subst (λ l. IsPermutation (segments first (zero + k)) l) same (IsPermutation-refl (segments first (zero + k)))
segments-split first (suc n) k =
    let count : suc n + k ≡ suc (n + k) = omega arith in
    let place : (first + 1) + n ≡ first + suc n = omega arith in
    let later = prefixes (first + suc n) k in
    let joint = concats (run first (suc n) ∷ []) later in
    let inner = concats (suffixes (first + 1) n) later in
    let begins : prefixes first (suc (n + k)) ≡ prefixes first (suc n) ++ joint =
    ap (prefixes first) (sym count) ∙ prefixes-split first (suc n) k in
    let rest : IsPermutation (segments (first + 1) (n + k))
    (segments (first + 1) n ++ (segments (first + suc n) k ++ inner)) =
    subst (λ a. IsPermutation (segments (first + 1) (n + k))
    (segments (first + 1) n ++ (segments a k ++ concats (suffixes (first + 1) n) (prefixes a k))))
    place (segments-split (first + 1) n k) in
    let crossing : concats (suffixes first (suc n)) later ≡ inner ++ joint =
    ap (λ l. concats l later) (suffixes-more first n)
    ∙ concats-append (suffixes (first + 1) n) (run first (suc n) ∷ []) later in
    let whole : segments first (suc n + k) ≡ (prefixes first (suc n) ++ joint) ++ segments (first + 1) (n + k) =
    ap (segments first) count ∙ ap (λ l. l ++ segments (first + 1) (n + k)) begins in
    let ends : (prefixes first (suc n) ++ segments (first + 1) n) ++ (segments (first + suc n) k ++ (inner ++ joint))
    ≡ segments first (suc n) ++ (segments (first + suc n) k ++ concats (suffixes first (suc n)) later) =
    ap (λ l. segments first (suc n) ++ (segments (first + suc n) k ++ l)) (sym crossing) in
    subst (λ l. IsPermutation l
    (segments first (suc n) ++ (segments (first + suc n) k ++ concats (suffixes first (suc n)) later)))
    (sym whole)
    (subst (λ l. IsPermutation ((prefixes first (suc n) ++ joint) ++ segments (first + 1) (n + k)) l) ends
    (IsPermutation-trans _ _ _
    (IsPermutation-append_right (prefixes first (suc n) ++ joint) _ _ rest)
    (regroup (prefixes first (suc n)) joint (segments (first + 1) n) (segments (first + suc n) k) inner)))
