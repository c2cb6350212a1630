-- Rows and intervals: which rows an interval has, which intervals are clear of one another,
-- and what the first pair of the held pieces is.
use Rattle.std.proofs.Common.{◌≡◌, ◌≢◌, ℕ, ◌+◌, ◌<◌, ◌≤◌, ◌∙◌, Bool, true, false, ◌&&◌, ◌||◌, ◌==◌, cond, nat_le}
use Rattle.std.proofs.Common.{List, [], ◌∷◌, ◌++◌, length, ap, sym, refl, subst, arith, length-append}
use Rattle.std.specs.Prelude.{sum_by, Some}
use Rattle.std.specs.List.{list_any, list_all}
use Rattle.std.proofs.lemmas.Bool.Decides.{nat_tests}
use Rattle.std.proofs.lemmas.List.Sums.{sum_by-cons, sum_by-append}
use Rattle.interval_kit.specs.declared.piece.Piece.{Piece}
use Rattle.board_core.specs.declared.taken.Claim.{Claim}
use Rattle.board_core.specs.Ordered.{Each, IsRisingBy}
use Rattle.board_core.specs.Board.{claim_at, apart, is_same, put_claim, without_claim, pair_from, first_pair}
use Rattle.board_core.specs.Board.{rest_from, without_pair}
use Rattle.board_core.specs.Sound.{covers}
use Rattle.board_core.proofs.OrderedLemmas.{each_map, each_both, each_from_zero, zero_from_each, sum_without}
use Rattle.board_core.proofs.OrderedLemmas.{length_without, each_at, each_middle, each_around, rising_around}

or_right : (s t : Bool) → t ≡ true → (s || t) ≡ true
or_right s t h = elim s as (λ v. (v || t) ≡ true) [ true ↦ refl | false ↦ h ]

pub covers_joint : (row lo mid hi : ℕ) → lo ≤ mid → mid ≤ hi → covers row lo mid + covers row mid hi ≡ covers row lo hi
covers_joint row lo mid hi a b = grind (arith, nat_tests)

pub covers_first : (lo hi : ℕ) → lo < hi → covers lo lo hi ≡ 1
covers_first lo hi h = grind (arith, nat_tests)

pub covers_within : (row lo hi : ℕ) → lo ≤ row → row < hi → covers row lo hi ≡ 1
covers_within row lo hi a b = grind (arith, nat_tests)

pub apart_covers : (row lo hi from to : ℕ) → apart lo hi from to ≡ true → covers row lo hi + covers row from to ≤ 1
apart_covers row lo hi from to h = grind (arith, nat_tests)

-- an interval that doesn't have its own first row is empty
pub other_start : (row lo hi : ℕ) → lo < hi → covers row lo hi ≡ 0 → lo ≢ row
other_start row lo hi h none = grind (arith, nat_tests)

module _ {A : Type 0} where
  pub each_from_all : (test : A → Bool) (xs : List A) → list_all test xs ≡ true → Each (λ x. test x ≡ true) xs
  each_from_all test [] h = tt
  each_from_all test (x ∷ xs) h =
      (elim (test x) as (λ t. (t && list_all test xs) ≡ true → (t ≡ true) × Each (λ y. test y ≡ true) xs)
      [ true ↦ λ rest. (refl, each_from_all test xs rest) | false ↦ λ no. cc ]) h

  -- intervals that are each clear of one that has the row
  pub clear_sum : (from to : A → ℕ) (row lo hi : ℕ) (xs : List A) → covers row lo hi ≡ 1
      → list_all (λ x. apart lo hi (from x) (to x)) xs ≡ true → sum_by (λ x. covers row (from x) (to x)) xs ≡ 0
  clear_sum from to row lo hi xs here clear =
      zero_from_each (λ x. covers row (from x) (to x)) xs
      (each_map (λ x. apart lo hi (from x) (to x) ≡ true) (λ x. covers row (from x) (to x) ≡ 0)
      (λ x far. omega (arith, apart_covers row lo hi (from x) (to x) far, here))
      xs (each_from_all (λ x. apart lo hi (from x) (to x)) xs clear))

  -- where no interval has the row, none begins there
  pub none_starts : (from to : A → ℕ) (row : ℕ) (xs : List A) → Each (λ x. from x < to x) xs
      → sum_by (λ x. covers row (from x) (to x)) xs ≡ 0 → Each (λ x. from x ≢ row) xs
  none_starts from to row xs within none =
      each_both (λ x. from x < to x) (λ x. covers row (from x) (to x) ≡ 0) (λ x. from x ≢ row)
      (λ x nonempty off. other_start row (from x) (to x) nonempty off)
      xs within (each_from_zero (λ x. covers row (from x) (to x)) xs none)

same_claim : (c d : Claim) → c.who ≡ d.who → c.lo ≡ d.lo → c.mid ≡ d.mid → c.hi ≡ d.hi → c ≡ d
same_claim c d who lo mid hi =
    ap (λ n. claim_at n c.lo c.mid c.hi) who ∙ ap (λ n. claim_at d.who n c.mid c.hi) lo
    ∙ ap (λ n. claim_at d.who d.lo n c.hi) mid ∙ ap (λ n. claim_at d.who d.lo d.mid n) hi

pub is_same-eq : (c d : Claim) → is_same c d ≡ true → c ≡ d
is_same-eq c d h = same_claim c d (grind (arith, nat_tests)) (grind (arith, nat_tests)) (grind (arith, nat_tests))
    (grind (arith, nat_tests))

module _ (claim : Claim) (claims : List Claim) (is_open : list_any (λ c. is_same c claim) claims ≡ true) where
  pub sum_open : (f : Claim → ℕ) → sum_by f claims ≡ f claim + sum_by f (without_claim claim claims)
  sum_open f = sum_without (λ c. is_same c claim) claim (λ c. is_same-eq c claim) f claims is_open

  pub length_open : length claims ≡ 1 + length (without_claim claim claims)
  length_open = length_without (λ c. is_same c claim) claim (λ c. is_same-eq c claim) claims is_open

  pub each_open : (P : Claim → Type 0) → Each P claims → P claim
  each_open P all = each_at (λ c. is_same c claim) claim (λ c. is_same-eq c claim) P claims is_open all

module _ {W : Type 0} where
  abbrev pub both : Piece W → Piece W → Piece W × Piece W
  both p q = (p, q)

  pub left_is : (p q left right : Piece W) → Some (both p q) ≡ Some (both left right) → p ≡ left
  left_is p q left right h = let same : both p q ≡ both left right = cc in ap (λ (pair : Piece W × Piece W). pair.0)
      same

  pub right_is : (p q left right : Piece W) → Some (both p q) ≡ Some (both left right) → q ≡ right
  right_is p q left right h = let same : both p q ≡ both left right = cc in ap (λ (pair : Piece W × Piece W). pair.1)
      same

  -- where the first pair stands in the list
  pub record Splits (held rest : List (Piece W)) (left right : Piece W) : Type 0 where
    pub before : List (Piece W)
    pub behind : List (Piece W)
    pub whole : held ≡ before ++ left ∷ right ∷ behind
    pub remaining : rest ≡ before ++ behind
    pub adjoins : left.hi ≡ right.lo

  pair_from_splits : (p : Piece W) (qs : List (Piece W)) (left right : Piece W)
      → pair_from p qs ≡ Some (both left right)
      → Splits (p ∷ qs) (rest_from p qs) left right
  pair_from_splits p [] left right found = cc
  pair_from_splits p (q ∷ qs) left right found =
      (elim (p.hi == q.lo)
      as (λ t. (p.hi == q.lo) ≡ t → cond t (Some (both p q)) (pair_from q qs) ≡ Some (both left right)
      → Splits (p ∷ q ∷ qs) (cond t qs (p ∷ rest_from q qs)) left right) [
        | true ↦ λ test here.
            let first : p ≡ left = left_is p q left right here in
            let second : q ≡ right = right_is p q left right here in
            let meets : p.hi ≡ q.lo = grind (arith, nat_tests) in
            record {
              before = [];
              behind = qs;
              whole = ap (λ x. x ∷ q ∷ qs) first ∙ ap (λ x. left ∷ x ∷ qs) second;
              remaining = refl;
              adjoins = sym (ap (λ (x : Piece W). x.hi) first) ∙ meets ∙ ap (λ (x : Piece W). x.lo) second;
            }
        | false ↦ λ test later.
            let rest : Splits (q ∷ qs) (rest_from q qs) left right = pair_from_splits q qs left right later in
            record {
              before = p ∷ rest.before;
              behind = rest.behind;
              whole = ap (λ xs. p ∷ xs) rest.whole;
              remaining = ap (λ xs. p ∷ xs) rest.remaining;
              adjoins = rest.adjoins;
            }
      ])
      refl found

  pub pair_splits : (held : List (Piece W)) (left right : Piece W) → first_pair held ≡ Some (both left right)
      → Splits held (without_pair held) left right
  pair_splits [] left right found = cc
  pair_splits (p ∷ ps) left right found = pair_from_splits p ps left right found

  module _ (held : List (Piece W)) (left right : Piece W) (found : first_pair held ≡ Some (both left right)) where
    split : Splits held (without_pair held) left right
    split = pair_splits held left right found

    pub pair_adjoins : left.hi ≡ right.lo
    pair_adjoins = split.adjoins

    pub sum_pair : (f : Piece W → ℕ) → sum_by f held ≡ f left + f right + sum_by f (without_pair held)
    sum_pair f =
        let s : Splits held (without_pair held) left right = split in
        ap (λ xs. sum_by f xs) s.whole
        ∙ omega (
          arith,
          sum_by-append f s.before (left ∷ right ∷ s.behind),
          sum_by-cons f left (right ∷ s.behind),
          sum_by-cons f right s.behind,
          sum_by-append f s.before s.behind,
          ap (λ xs. sum_by f xs) s.remaining,
        )

    pub length_pair : length held ≡ 2 + length (without_pair held)
    length_pair =
        let s : Splits held (without_pair held) left right = split in
        omega (
          arith,
          ap length s.whole,
          length-append s.before (left ∷ right ∷ s.behind),
          length-append s.before
              s.behind,
          ap length s.remaining,
        )

    pub each_pair : (P : Piece W → Type 0) → Each P held → P left × P right
    each_pair P all =
        let s : Splits held (without_pair held) left right = split in
        let E : List (Piece W) → Type 0 = λ xs. Each P xs in
        each_middle P s.before left right s.behind (subst E s.whole all)

    pub each_without_pair : (P : Piece W → Type 0) → Each P held → Each P (without_pair held)
    each_without_pair P all =
        let s : Splits held (without_pair held) left right = split in
        let E : List (Piece W) → Type 0 = λ xs. Each P xs in
        subst E (sym s.remaining) (each_around P s.before left right s.behind (subst E s.whole all))

    pub rising_without_pair : (key : Piece W → ℕ) → IsRisingBy key held → IsRisingBy key (without_pair held)
    rising_without_pair key up =
        let s : Splits held (without_pair held) left right = split in
        let E : List (Piece W) → Type 0 = λ xs. IsRisingBy key xs in
        subst E (sym s.remaining) (rising_around key s.before left right s.behind (subst E s.whole up))

same_is : (c : Claim) → is_same c c ≡ true
same_is c = grind (arith, nat_tests)

-- a claim that is put among the claims is one of them
pub open_put : (claim : Claim) (claims : List Claim) → list_any (λ c. is_same c claim) (put_claim claim claims) ≡ true
open_put claim [] = ap (λ t. t || false) (same_is claim)
open_put claim (d ∷ ds) =
    elim (nat_le claim.lo d.lo) as
    (λ t. list_any (λ c. is_same c claim) (cond t (claim ∷ d ∷ ds) (d ∷ put_claim claim ds)) ≡ true) [
      | true ↦ ap (λ t. t || list_any (λ c. is_same c claim) (d ∷ ds)) (same_is claim)
      | false ↦ or_right (is_same d claim) (list_any (λ c. is_same c claim) (put_claim claim ds)) (open_put claim ds)
    ]

-- the claims that stood still stand when one more is put among them
pub open_beside : (claim other : Claim) (claims : List Claim) → list_any (λ c. is_same c claim) claims ≡ true
    → list_any (λ c. is_same c claim) (put_claim other claims) ≡ true
open_beside claim other [] found = cc
open_beside claim other (d ∷ ds) found =
    elim (nat_le other.lo d.lo) as
    (λ t. list_any (λ c. is_same c claim) (cond t (other ∷ d ∷ ds) (d ∷ put_claim other ds)) ≡ true) [
      | true ↦ or_right (is_same other claim) (list_any (λ c. is_same c claim) (d ∷ ds)) found
      | false ↦ (elim (is_same d claim)
          as (λ t. (t || list_any (λ c. is_same c claim) ds) ≡ true
          → (t || list_any (λ c. is_same c claim) (put_claim other ds)) ≡ true)
          [ true ↦ λ here. refl | false ↦ λ later. open_beside claim other ds later ]) found
    ]
