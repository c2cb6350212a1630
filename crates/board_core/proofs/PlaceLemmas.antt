-- Places in lists of intervals: what lies below and above one, which intervals can meet a new one,
-- and what inserting and removing at a place do.
use Rattle.std.proofs.Common.{◌≡◌, ◌≢◌, ℕ, zero, suc, ◌+◌, ◌-◌, ◌<◌, ◌≤◌, ◌==◌, ◌∙◌, ◌⊎◌, inl, inr, Bool, true, false}
use Rattle.std.proofs.Common.{◌||◌, ◌&&◌, cond, nat_le, nat_lt, List, [], ◌∷◌, length, get_or, ap, sym, refl, subst}
use Rattle.std.proofs.Common.{arith}
use Rattle.std.specs.Prelude.{insert, remove, sum_by, Option, Some, None, IsSome}
use Rattle.std.specs.List.{list_all, list_any}
use Rattle.std.specs.List.Sorted.{IsPartitionPoint, IsNonDecreasingBy}
use Rattle.std.proofs.lemmas.Bool.Decides.{nat_tests}
use Rattle.std.proofs.lemmas.List.{get_or_default}
use Rattle.std.proofs.lemmas.List.Folds.{list_all_at}
use Rattle.std.proofs.lemmas.List.Sums.{sum_by-cons}
use Rattle.interval_kit.specs.declared.piece.Piece.{Piece}
use Rattle.board_core.specs.Ordered.{put_by, Each, IsRisingBy}
use Rattle.board_core.specs.declared.taken.Claim.{Claim}
use Rattle.board_core.specs.Board.{PlainBoard, apart, is_same, without_claim, pair_from, first_pair, rest_from}
use Rattle.board_core.specs.Board.{without_pair}
use Rattle.board_core.specs.Places.{place_of, AreApart, index_from, pair_index}
use Rattle.board_core.specs.Sound.{covers, IsTidy}
use Rattle.board_core.proofs.OrderedLemmas.{each_map}
use Rattle.board_core.proofs.PieceLemmas.{covers_first, is_same-eq, each_open, both, left_is, right_is}

off_left : (from to lo hi : ℕ) → hi ≤ from → apart from to lo hi ≡ true
off_left from to lo hi h = grind (arith, nat_tests)

off_right : (from to lo hi : ℕ) → to ≤ lo → apart from to lo hi ≡ true
off_right from to lo hi h = grind (arith, nat_tests)

meets : (from to lo hi : ℕ) → lo < to → from < hi → apart from to lo hi ≡ false
meets from to lo hi a b = grind (arith, nat_tests)

reaches : (m n : ℕ) → m ≤ n → nat_le m n ≡ true
reaches m n h = grind (arith, nat_tests)

falls_short : (m n : ℕ) → n < m → nat_le m n ≡ false
falls_short m n h = grind (arith, nat_tests)

pub alike : (m n : ℕ) → (m == n) ≡ true → m ≡ n
alike m n h = grind (arith, nat_tests)

pub unlike : (m n : ℕ) → (m == n) ≡ false → m ≡ n → ⊥
unlike m n h same = grind (arith, nat_tests)

not_within : (row lo hi : ℕ) → lo ≤ row → covers row lo hi ≡ 0 → hi ≤ row
not_within row lo hi from off = grind (arith, nat_tests)

module _ {A : Type 0} where
  pub each_get : (P : A → Type 0) (xs : List A) (k : ℕ) (d : A) → k < length xs → Each P xs → P (get_or xs k d)
  each_get P [] k d within all = absurd (omega arith)
  each_get P (x ∷ xs) zero d within all = all.0
  each_get P (x ∷ xs) (suc k) d within all = each_get P xs k d (omega arith) all.1

  -- what an index reads, at any default
  pub item_is : (xs : List A) (k : ℕ) (x d : A) → k < length xs → x ≡ get_or xs k x → get_or xs k d ≡ x
  item_is xs k x d within read = get_or_default xs k d x within ∙ sym read

  all_from_each_index : (p : A → Bool) (xs : List A) → ((k : ℕ) (d : A) → k < length xs → p (get_or xs k d) ≡ true)
      → list_all p xs ≡ true
  all_from_each_index p [] each = refl
  all_from_each_index p (x ∷ xs) each =
      ap (λ t. t && list_all p xs) (each 0 x (omega arith))
      ∙ all_from_each_index p xs (λ k d within. each (suc k) d (omega arith))

  -- a put is an insert at the place
  pub insert_place : (key : A → ℕ) (x : A) (xs : List A) → insert xs (place_of key (key x) xs) x ≡ put_by key x xs
  insert_place key x [] = refl
  insert_place key x (y ∷ ys) =
      elim (nat_le (key x) (key y))
      as (λ t. insert (y ∷ ys) (cond t 0 (suc (place_of key (key x) ys))) x ≡ cond t (x ∷ y ∷ ys) (y ∷ put_by key x ys))
      [ true ↦ refl | false ↦ ap (λ zs. y ∷ zs) (insert_place key x ys) ]

  module _ (key : A → ℕ) (at : ℕ) where
    contradicts : (n : ℕ) → n < at → nat_lt n at ≡ false → ⊥
    contradicts n under past = grind (arith, nat_tests)

    denies : (n : ℕ) → at ≤ n → nat_lt n at ≡ true → ⊥
    denies n over before = grind (arith, nat_tests)

    pub place_bound : (xs : List A) → place_of key at xs ≤ length xs
    place_bound [] = omega arith
    place_bound (x ∷ xs) =
        elim (nat_le at (key x)) as (λ t. cond t 0 (suc (place_of key at xs)) ≤ length (x ∷ xs))
        [ true ↦ omega arith | false ↦ omega (arith, place_bound xs) ]

    -- what stands before the place has a lower key
    pub below_place : (xs : List A) (k : ℕ) (d : A) → k < place_of key at xs → key (get_or xs k d) < at
    below_place [] k d under = absurd (omega arith)
    below_place (x ∷ xs) zero d under =
        (elim (nat_le at (key x)) as (λ t. nat_le at (key x) ≡ t → 0 < cond t 0 (suc (place_of key at xs)) → key x < at)
        [ true ↦ λ test none. absurd (omega arith) | false ↦ λ test later. grind (arith, nat_tests) ])
        refl under
    below_place (x ∷ xs) (suc k) d under =
        (elim (nat_le at (key x)) as (λ t. suc k < cond t 0 (suc (place_of key at xs)) → key (get_or xs k d) < at)
        [ true ↦ λ none. absurd (omega arith) | false ↦ λ later. below_place xs k d (omega arith) ])
        under

    -- what stands at the place has no lower key, and so has all that comes after it
    pub from_place : (xs : List A) (k : ℕ) (d : A) → IsRisingBy key xs → place_of key at xs ≤ k → k < length xs
        → at ≤ key (get_or xs k d)
    from_place [] k d up over within = absurd (omega arith)
    from_place (x ∷ xs) zero d up over within =
        (elim (nat_le at (key x)) as (λ t. nat_le at (key x) ≡ t → cond t 0 (suc (place_of key at xs)) ≤ 0 → at ≤ key x)
        [ true ↦ λ test here. grind (arith, nat_tests) | false ↦ λ test later. absurd (omega arith) ])
        refl over
    from_place (x ∷ xs) (suc k) d up over within =
        (elim (nat_le at (key x)) as
        (λ t. nat_le at (key x) ≡ t → cond t 0 (suc (place_of key at xs)) ≤ suc k → at ≤ key (get_or xs k d)) [
          | true ↦ λ test here.
              let high : at ≤ key x = grind (arith, nat_tests) in
              let above : key x < key (get_or xs k d) = each_get (λ y. key x < key y) xs k d (omega arith) up.0 in
              omega arith
          | false ↦ λ test later. from_place xs k d up.1 (omega arith) (omega arith)
        ])
        refl over

    -- where the elements of a lower key end, and those of a key no lower begin
    pub place_unique : (xs : List A) (i : ℕ) → IsRisingBy key xs → i ≤ length xs
        → IsPartitionPoint (λ y. nat_lt (key y) at ≡ true) (λ y. nat_lt (key y) at ≡ false) xs i
        → i ≡ place_of key at xs
    place_unique xs i up within point =
        elim (three i (place_of key at xs)) [
          | inl same ↦ same
          | inr (inl under) ↦ absurd (not_under xs i up under within point)
          | inr (inr over) ↦ absurd (not_over xs i up over within point)
        ]
      where
        three : (m n : ℕ) → (m ≡ n) ⊎ ((m < n) ⊎ (n < m))
        three m n = grind arith

        not_under : (xs : List A) (i : ℕ) → IsRisingBy key xs → i < place_of key at xs → i ≤ length xs
            → IsPartitionPoint (λ y. nat_lt (key y) at ≡ true) (λ y. nat_lt (key y) at ≡ false) xs i → ⊥
        not_under [] i up under within point = absurd (omega arith)
        not_under (x ∷ xs) i up under within point =
            contradicts (key (get_or (x ∷ xs) i x)) (below_place (x ∷ xs) i x under)
            (point.1 i x (omega arith) (omega (arith, place_bound (x ∷ xs))))

        not_over : (xs : List A) (i : ℕ) → IsRisingBy key xs → place_of key at xs < i → i ≤ length xs
            → IsPartitionPoint (λ y. nat_lt (key y) at ≡ true) (λ y. nat_lt (key y) at ≡ false) xs i → ⊥
        not_over [] i up over within point = absurd (omega arith)
        not_over (x ∷ xs) i up over within point =
            denies (key (get_or (x ∷ xs) (place_of key at (x ∷ xs)) x))
            (from_place (x ∷ xs) (place_of key at (x ∷ xs)) x up (omega arith) (omega arith))
            (point.0 (place_of key at (x ∷ xs)) x (omega arith) (omega arith))

  module _ (lo hi : A → ℕ) where
    pub apart_rises : (xs : List A) → AreApart lo hi xs → IsRisingBy lo xs
    apart_rises [] far = tt
    apart_rises (x ∷ xs) far = (
      each_map (λ y. hi x ≤ lo y) (λ y. lo x < lo y) (λ y behind. omega (arith, far.0)) xs far.1,
      apart_rises xs
          far.2,
    )

    nonempty_at : (xs : List A) (k : ℕ) (d : A) → AreApart lo hi xs → k < length xs
        → lo (get_or xs k d) < hi (get_or xs k d)
    nonempty_at [] k d far within = absurd (omega arith)
    nonempty_at (x ∷ xs) zero d far within = far.0
    nonempty_at (x ∷ xs) (suc k) d far within = nonempty_at xs k d far.2 (omega arith)

    ends_before : (xs : List A) (j k : ℕ) (d : A) → AreApart lo hi xs → j < k → k < length xs
        → hi (get_or xs j d) ≤ lo (get_or xs k d)
    ends_before [] j k d far order within = absurd (omega arith)
    ends_before (x ∷ xs) j zero d far order within = absurd (omega arith)
    ends_before (x ∷ xs) zero (suc k) d far order within = each_get (λ y. hi x ≤ lo y) xs k d (omega arith) far.1
    ends_before (x ∷ xs) (suc j) (suc k) d far order within = ends_before xs j k d far.2 (omega arith) (omega arith)

    module _ (from to : ℕ) (nonempty : from < to) (xs : List A) (far : AreApart lo hi xs) where
      abbrev is_off : A → Bool
      is_off x = apart from to (lo x) (hi x)

      pub all_clear : (i : ℕ) → i ≡ place_of lo from xs → ((d : A) → 0 < i → hi (get_or xs (i - 1) d) ≤ from)
          → ((d : A) → i < length xs → to ≤ lo (get_or xs i d)) → list_all is_off xs ≡ true
      all_clear i place before behind =
          all_from_each_index is_off xs (λ k d within.
          elim (around k i) [
            | inl last ↦
                let known : hi (get_or xs (i - 1) d) ≤ from = before d (omega arith) in
                let here : i - 1 ≡ k = omega arith in
                off_left from to (lo (get_or xs k d)) (hi (get_or xs k d))
                (omega (arith, ap (λ n. hi (get_or xs n d)) here))
            | inr (inl lower) ↦
                let known : lo (get_or xs (i - 1) d) < from = below_place lo from xs (i - 1) d (omega arith) in
                off_left from to (lo (get_or xs k d)) (hi (get_or xs k d))
                (omega (arith, ends_before xs k (i - 1) d far (omega arith) (omega (arith, place_bound lo from xs))))
            | inr (inr (inl here)) ↦
                off_right from to (lo (get_or xs k d)) (hi (get_or xs k d))
                (omega (arith, behind d (omega arith), ap (λ n. lo (get_or xs n d)) here))
            | inr (inr (inr higher)) ↦
                off_right from to (lo (get_or xs k d)) (hi (get_or xs k d))
                (omega (
                  arith,
                  behind d (omega arith),
                  nonempty_at xs i d far (omega arith),
                  ends_before xs i k d far
                      higher within,
                ))
          ])
        where
          around : (k i : ℕ) → (k + 1 ≡ i) ⊎ ((k + 1 < i) ⊎ ((k ≡ i) ⊎ (i < k)))
          around k i = grind arith

      pub meets_before : (i : ℕ) (d : A) → i ≡ place_of lo from xs → 0 < i → from < hi (get_or xs (i - 1) d)
          → list_all is_off xs ≡ false
      meets_before i d place above over =
          list_all_at is_off xs (i - 1) d (omega (arith, place_bound lo from xs))
          (meets from to (lo (get_or xs (i - 1) d)) (hi (get_or xs (i - 1) d))
          (omega (arith, below_place lo from xs (i - 1) d (omega arith))) over)

      pub meets_at : (i : ℕ) (d : A) → i ≡ place_of lo from xs → i < length xs → lo (get_or xs i d) < to
          → list_all is_off xs ≡ false
      meets_at i d place within under =
          list_all_at is_off xs i d within
          (meets from to (lo (get_or xs i d)) (hi (get_or xs i d)) under
          (omega (
            arith,
            nonempty_at xs i d far within,
            from_place lo from xs i d (apart_rises xs far) (omega arith)
                within,
          )))

module _ {A : Type 0} (key : A → ℕ) where
  pub non_decreasing : (xs : List A) → IsRisingBy key xs → IsNonDecreasingBy key xs
  non_decreasing [] up i j d order within = absurd (omega arith)
  non_decreasing (x ∷ xs) up zero zero d order within = omega arith
  non_decreasing (x ∷ xs) up zero (suc j) d order within = omega
      (arith, each_get (λ y. key x < key y) xs j d (omega arith) up.0)
  non_decreasing (x ∷ xs) up (suc i) zero d order within = absurd (omega arith)
  non_decreasing (x ∷ xs) up (suc i) (suc j) d order within = non_decreasing xs up.1 i j d (omega arith) (omega arith)

-- the claim that ends stands at the place of its lo
module _ (claim : Claim) where
  abbrev is_it : Claim → Bool
  is_it c = is_same c claim

  claim_stands : (claims : List Claim) → IsRisingBy (λ c. c.lo) claims → list_any is_it claims ≡ true
      → (place_of (λ c. c.lo) claim.lo claims < length claims) ×
      (remove claims (place_of (λ c. c.lo) claim.lo claims) ≡ without_claim claim claims)
  claim_stands [] up found = cc
  claim_stands (d ∷ ds) up found =
      (elim (is_same d claim)
      as (λ t. is_same d claim ≡ t → (t || list_any is_it ds) ≡ true
      → (place_of (λ c. c.lo) claim.lo (d ∷ ds) < length (d ∷ ds)) ×
      (remove (d ∷ ds) (place_of (λ c. c.lo) claim.lo (d ∷ ds)) ≡ cond t ds (d ∷ without_claim claim ds))) [
        | true ↦ λ same here.
            let first : place_of (λ c. c.lo) claim.lo (d ∷ ds) ≡ 0 =
            ap (λ t. cond t 0 (suc (place_of (λ c. c.lo) claim.lo ds)))
            (reaches claim.lo d.lo (omega (arith, ap (λ (c : Claim). c.lo) (is_same-eq d claim same)))) in
            (omega (arith, first), ap (λ i. remove (d ∷ ds) i) first)
        | false ↦ λ differ later.
            let rest : (place_of (λ c. c.lo) claim.lo ds < length ds) ×
            (remove ds (place_of (λ c. c.lo) claim.lo ds) ≡ without_claim claim ds) = claim_stands ds up.1
            later in
            let further : place_of (λ c. c.lo) claim.lo (d ∷ ds) ≡ suc (place_of (λ c. c.lo) claim.lo ds) =
            ap (λ t. cond t 0 (suc (place_of (λ c. c.lo) claim.lo ds)))
            (falls_short claim.lo d.lo (each_open claim ds later (λ c. d.lo < c.lo) up.0)) in
            (omega (arith, further, rest.0), ap (λ i. remove (d ∷ ds) i) further ∙ ap (λ xs. d ∷ xs) rest.1)
      ])
      refl found

  module _ (claims : List Claim) (up : IsRisingBy (λ c. c.lo) claims) (found : list_any is_it claims ≡ true) where
    pub claim_within : place_of (λ c. c.lo) claim.lo claims < length claims
    claim_within = (claim_stands claims up found).0

    pub remove_claim : remove claims (place_of (λ c. c.lo) claim.lo claims) ≡ without_claim claim claims
    remove_claim = (claim_stands claims up found).1

-- the first pair by its index
module _ {W : Type 0} where
  -- two removes at the index take the pair
  pub record TakenAt (held rest : List (Piece W)) (index : ℕ) (left right : Piece W) : Type 0 where
    pub within : index + 1 < length held
    pub left_at : (d : Piece W) → get_or held index d ≡ left
    pub right_at : (d : Piece W) → get_or (remove held index) index d ≡ right
    pub remaining : remove (remove held index) index ≡ rest

  from_at : (p : Piece W) (qs : List (Piece W)) (left right : Piece W) → pair_from p qs ≡ Some (both left right)
      → TakenAt (p ∷ qs) (rest_from p qs) (index_from p qs) left right
  from_at p [] left right found = cc
  from_at p (q ∷ qs) left right found =
      (elim (p.hi == q.lo)
      as (λ t. cond t (Some (both p q)) (pair_from q qs) ≡ Some (both left right)
      → TakenAt (p ∷ q ∷ qs) (cond t qs (p ∷ rest_from q qs)) (cond t 0 (suc (index_from q qs))) left right) [
        | true ↦ λ here. record {
          within = omega arith;
          left_at = λ d. left_is p q left right here;
          right_at = λ d. right_is p q left right here;
          remaining = refl;
        }
        | false ↦ λ later.
            let rest : TakenAt (q ∷ qs) (rest_from q qs) (index_from q qs) left right = from_at q qs left right later in
            record {
              within = omega (arith, rest.within);
              left_at = rest.left_at;
              right_at = rest.right_at;
              remaining = ap (λ xs. p ∷ xs) rest.remaining;
            }
      ])
      found

  pub pair_at : (held : List (Piece W)) (left right : Piece W) → first_pair held ≡ Some (both left right)
      → TakenAt held (without_pair held) (pair_index held) left right
  pair_at [] left right found = cc
  pair_at (p ∷ ps) left right found = from_at p ps left right found

  -- the piece at this index ends where the next one begins
  abbrev pub AdjoinAt : List (Piece W) → ℕ → Type 0
  AdjoinAt held k = (d : Piece W) → (get_or held k d).hi ≡ (get_or held (suc k) d).lo

  from_index : (p : Piece W) (qs : List (Piece W)) (i : ℕ) → suc i < length (p ∷ qs)
      → ((k : ℕ) → k < i → ¬ AdjoinAt (p ∷ qs) k) → AdjoinAt (p ∷ qs) i
      → (i ≡ index_from p qs) × IsSome (pair_from p qs)
  from_index p [] i within before here = absurd (omega arith)
  from_index p (q ∷ qs) zero within before here =
      (elim (p.hi == q.lo) as
      (λ t. (p.hi == q.lo) ≡ t
      → (0 ≡ cond t 0 (suc (index_from q qs))) × IsSome (cond t (Some (both p q)) (pair_from q qs)))
      [ true ↦ λ test. (refl, refl) | false ↦ λ test. absurd (unlike p.hi q.lo test (here p)) ]) refl
  from_index p (q ∷ qs) (suc i) within before here =
      let rest : (i ≡ index_from q qs) × IsSome (pair_from q qs) = from_index q qs i (omega arith)
      (λ k below. before (suc k) (omega arith)) here in
      (elim (p.hi == q.lo) as
      (λ t. (p.hi == q.lo) ≡ t
      → (suc i ≡ cond t 0 (suc (index_from q qs))) × IsSome (cond t (Some (both p q)) (pair_from q qs))) [
        | true ↦ λ test. absurd (before 0 (omega arith) (λ d. alike p.hi q.lo test))
        | false ↦ λ test.
            (ap suc rest.0, rest.1)
      ]) refl

  pub index_is : (held : List (Piece W)) (i : ℕ) → suc i < length held → ((k : ℕ) → k < i → ¬ AdjoinAt held k)
      → AdjoinAt held i
      → (i ≡ pair_index held) × IsSome (first_pair held)
  index_is [] i within before here = absurd (omega arith)
  index_is (p ∷ ps) i within before here = from_index p ps i within before here

  from_none : (p : Piece W) (qs : List (Piece W)) → ((k : ℕ) → suc k < length (p ∷ qs) → ¬ AdjoinAt (p ∷ qs) k)
      → pair_from p qs ≡ None
  from_none p [] none = refl
  from_none p (q ∷ qs) none =
      (elim (p.hi == q.lo) as (λ t. (p.hi == q.lo) ≡ t → cond t (Some (both p q)) (pair_from q qs) ≡ None) [
        | true ↦ λ test. absurd (none 0 (omega arith) (λ d. alike p.hi q.lo test))
        | false ↦ λ test. from_none q qs (λ k within. none (suc k) (omega arith))
      ]) refl

  pub pair_none : (held : List (Piece W)) → ((k : ℕ) → suc k < length held → ¬ AdjoinAt held k) → first_pair held ≡ None
  pair_none [] none = refl
  pair_none (p ∷ ps) none = from_none p ps none

  -- an index that two reads show to be no pair
  pub no_pair_at : (held : List (Piece W)) (k : ℕ) (x y : Piece W) → suc k < length held → x ≡ get_or held k x
      → y ≡ get_or held (suc k) y → x.hi ≢ y.lo → ¬ AdjoinAt held k
  no_pair_at held k x y within first second differ adjoin =
      let one : get_or held k x ≡ x = sym first in
      let two : get_or held (suc k) x ≡ y = item_is held (suc k) y x within second in
      differ (sym (ap (λ (p : Piece W). p.hi) one) ∙ adjoin x ∙ ap (λ (p : Piece W). p.lo) two)

  pub pair_read_at : (held : List (Piece W)) (k : ℕ) (x y : Piece W) → suc k < length held → x ≡ get_or held k x
      → y ≡ get_or held (suc k) y → x.hi ≡ y.lo → AdjoinAt held k
  pair_read_at held k x y within first second same d =
      ap (λ (p : Piece W). p.hi) (item_is held k x d (omega arith) first) ∙ same
      ∙ sym (ap (λ (p : Piece W). p.lo) (item_is held (suc k) y d within second))

-- intervals of which no two have a row in common end before the later ones begin
module _ {A : Type 0} (lo hi : A → ℕ) where
  behind_all : (x : A) (ys : List A)
      → ((row : ℕ) → covers row (lo x) (hi x) + sum_by (λ y. covers row (lo y) (hi y)) ys ≤ 1)
      → Each (λ y. lo y < hi y) ys → Each (λ y. lo x < lo y) ys → Each (λ y. hi x ≤ lo y) ys
  behind_all x [] once nonempty up = tt
  behind_all x (y ∷ ys) once nonempty up = (
    not_within (lo y) (lo x) (hi x) (omega (arith, up.0))
        (omega (
          arith,
          once (lo y),
          sum_by-cons (λ z. covers (lo y) (lo z) (hi z)) y ys,
          covers_first (lo y) (hi y)
              nonempty.0,
        )),
    behind_all x ys (λ row. omega (arith, once row, sum_by-cons (λ z. covers row (lo z) (hi z)) y ys)) nonempty.1 up.1,
  )

  pub apart_from_counts : (xs : List A) → Each (λ x. lo x < hi x) xs → IsRisingBy lo xs
      → ((row : ℕ) → sum_by (λ x. covers row (lo x) (hi x)) xs ≤ 1) → AreApart lo hi xs
  apart_from_counts [] nonempty up once = tt
  apart_from_counts (x ∷ xs) nonempty up once = (
    nonempty.0,
    behind_all x xs (λ row. omega (arith, once row, sum_by-cons (λ z. covers row (lo z) (hi z)) x xs)) nonempty.1 up.0,
    apart_from_counts xs nonempty.1 up.1
        (λ row. omega (arith, once row, sum_by-cons (λ z. covers row (lo z) (hi z)) x xs)),
  )

module _ {W : Type 0} (b : PlainBoard W) (tidy : IsTidy b) where
  pub held_apart : AreApart (λ p. p.lo) (λ p. p.hi) b.held
  held_apart = apart_from_counts (λ p. p.lo) (λ p. p.hi) b.held
      (each_map (λ p. (p.lo < p.hi) × (p.hi ≤ b.rows)) (λ p. p.lo < p.hi) (λ p within. within.0) b.held
      tidy.held_within)
      tidy.held_rises (λ row. omega (arith, tidy.covered row, tidy.once row))

  pub claims_apart : AreApart (λ c. c.lo) (λ c. c.hi) b.claims
  claims_apart = apart_from_counts (λ c. c.lo) (λ c. c.hi) b.claims
      (each_map (λ c. (c.lo < c.mid) × (c.mid < c.hi) × (c.hi ≤ b.rows)) (λ c. c.lo < c.hi)
      (λ c within. omega (arith, within.0, within.1)) b.claims tidy.claims_within)
      tidy.claims_rise (λ row. omega (arith, tidy.covered row, tidy.once row))

-- the walk over neighbours: one more of them, and the one that adjoins
module _ {W : Type 0} (held : List (Piece W)) (at : ℕ) (x y : Piece W) (some : 1 ≤ at) (within : at < length held)
    (first : x ≡ get_or held (at - 1) x) (second : y ≡ get_or held at y) where
  second_at : y ≡ get_or held (suc (at - 1)) y
  second_at = let same : at ≡ suc (at - 1) = omega arith in second ∙ ap (λ n. get_or held n y) same

  pub walk_on : x.hi ≢ y.lo → ((k : ℕ) → suc k < at → ¬ AdjoinAt held k) → (k : ℕ) → suc k < at + 1 → ¬ AdjoinAt held k
  walk_on differ before k under adjoin =
      elim (last_or_before k at under) [
        | inl earlier ↦ before k earlier adjoin
        | inr last ↦
            let N : ℕ → Type 0 = λ n. ¬ AdjoinAt held n in
            subst N last (no_pair_at held (at - 1) x y (omega arith) first second_at differ) adjoin
      ]
    where
      last_or_before : (k at : ℕ) → suc k < at + 1 → (suc k < at) ⊎ (at - 1 ≡ k)
      last_or_before k at under = grind arith

  pub walk_found : x.hi ≡ y.lo → ((k : ℕ) → suc k < at → ¬ AdjoinAt held k)
      → (at - 1 ≡ pair_index held) × IsSome (first_pair held)
  walk_found same before =
      index_is held (at - 1) (omega arith) (λ k below. before k (omega arith))
      (pair_read_at held (at - 1) x y (omega arith) first second_at same)

pub some_is : {X : Type 0} (o : Option X) → IsSome o → (x : X) × (o ≡ Some x)
some_is None found = cc
some_is (Some x) found = (x, refl)

-- what two removes at the index of the first pair give
module _ {W : Type 0} (held : List (Piece W)) (found : IsSome (first_pair held)) where
  known : (pair : Piece W × Piece W) × (first_pair held ≡ Some pair)
  known = some_is (first_pair held) found

  taken_at : TakenAt held (without_pair held) (pair_index held) known.0.0 known.0.1
  taken_at = pair_at held known.0.0 known.0.1 known.1

  pub pair_within : pair_index held + 1 < length held
  pair_within = taken_at.within

  pub pair_rest : remove (remove held (pair_index held)) (pair_index held) ≡ without_pair held
  pair_rest = taken_at.remaining

  pub pair_is : (left right : Piece W) → left ≡ get_or held (pair_index held) left
      → right ≡ get_or (remove held (pair_index held)) (pair_index held) right
      → first_pair held ≡ Some (both left right)
  pair_is left right first second =
      known.1 ∙ ap (λ p. Some (both p known.0.1)) (sym (first ∙ taken_at.left_at left))
      ∙ ap (λ q. Some (both left q)) (sym (second ∙ taken_at.right_at right))
