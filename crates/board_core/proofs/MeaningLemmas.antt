-- The first pair of neighbours is the adjacent pair of the least lo among any two held pieces.
use Rattle.std.proofs.Common.{◌≡◌, ◌≢◌, ℕ, ◌<◌, ◌≤◌, ◌==◌, ◌∙◌, true, false, cond, List, [], ◌∷◌, ap, refl, arith}
use Rattle.std.specs.Prelude.{Some, None}
use Rattle.std.specs.List.{list_any}
use Rattle.interval_kit.specs.declared.piece.Piece.{Piece}
use Rattle.board_core.specs.declared.taken.Taken.{Taken}
use Rattle.board_core.specs.declared.taken.CoreClaimed.{CoreClaimed}
use Rattle.board_core.specs.declared.taken.CoreClaimed.TheVariants as claimed
use Rattle.board_core.specs.Ordered.{Each}
use Rattle.board_core.specs.Board.{PlainBoard, pair_from, first_pair, is_same, claim_of}
use Rattle.board_core.specs.Calls.{Claims, IsLowestPair, AnswersPlainly}
use Rattle.board_core.specs.Places.{AreApart}
use Rattle.board_core.specs.Sound.{IsSound}
use Rattle.board_core.proofs.OrderedLemmas.{each_map, each_both}
use Rattle.board_core.proofs.PieceLemmas.{both, left_is, pair_adjoins, each_pair, open_put}
use Rattle.board_core.proofs.PlaceLemmas.{held_apart, apart_rises, unlike}

module _ {A : Type 0} (R : A → A → Type 0) where
  -- one element more, related to itself and both ways to the others
  all_pairs : (x : A) (xs : List A) → R x x → Each (λ y. R x y) xs → Each (λ y. R y x) xs
      → Each (λ y. Each (λ z. R y z) xs) xs
      → Each (λ y. Each (λ z. R y z) (x ∷ xs)) (x ∷ xs)
  all_pairs x xs own out back rest = (
    (own, out),
    each_both (λ y. R y x) (λ y. Each (λ z. R y z) xs) (λ y. Each (λ z. R y z) (x ∷ xs))
        (λ y one more. (one, more)) xs back rest,
  )

module _ {W : Type 0} where
  abbrev lo_of : Piece W → ℕ
  lo_of p = p.lo

  abbrev hi_of : Piece W → ℕ
  hi_of p = p.hi

  abbrev Differ : Piece W → Piece W → Type 0
  Differ p q = p.hi ≢ q.lo

  -- the first piece ends where no later one begins, if not where the next one does
  no_later : (p q : Piece W) (qs : List (Piece W)) → AreApart lo_of hi_of (p ∷ q ∷ qs) → p.hi ≢ q.lo
      → Each (λ r. Differ p r) (q ∷ qs)
  no_later p q qs far differ = (
    differ,
    each_map (λ r. q.hi ≤ r.lo) (λ r. Differ p r) (λ r behind same. omega (arith, far.1.0, far.2.0)) qs
        far.2.1,
  )

  -- and none ends where it begins
  none_back : (p : Piece W) (qs : List (Piece W)) → AreApart lo_of hi_of (p ∷ qs) → Each (λ r. Differ r p) qs
  none_back p [] far = tt
  none_back p (q ∷ qs) far =
      (λ same. omega (arith, far.0, far.1.0, far.2.0), none_back p qs (far.0, far.1.1, far.2.2))

  none_from : (p : Piece W) (qs : List (Piece W)) → AreApart lo_of hi_of (p ∷ qs) → pair_from p qs ≡ None
      → Each (λ x. Each (λ y. Differ x y) (p ∷ qs)) (p ∷ qs)
  none_from p [] far none = all_pairs Differ p [] (λ same. omega (arith, far.0)) tt tt tt
  none_from p (q ∷ qs) far none =
      (elim (p.hi == q.lo)
      as (λ t. (p.hi == q.lo) ≡ t → cond t (Some (both p q)) (pair_from q qs) ≡ None
      → Each (λ x. Each (λ y. Differ x y) (p ∷ q ∷ qs)) (p ∷ q ∷ qs)) [
        | true ↦ λ test found. cc
        | false ↦ λ test later.
            all_pairs Differ p (q ∷ qs) (λ same. omega (arith, far.0)) (no_later p q qs far (unlike p.hi q.lo test))
            (none_back p (q ∷ qs) far)
            (none_from q qs far.2 later)
      ])
      refl none

  -- where no two neighbours adjoin, no two pieces do
  pub none_adjoin : (held : List (Piece W)) → AreApart lo_of hi_of held → first_pair held ≡ None
      → Each (λ p. Each (λ q. p.hi ≢ q.lo) held) held
  none_adjoin [] far none = tt
  none_adjoin (p ∷ ps) far none = none_from p ps far none

  abbrev NotLower : ℕ → Piece W → Piece W → Type 0
  NotLower lo p q = p.hi ≡ q.lo → lo ≤ p.lo

  all_from : (lo : ℕ) (xs : List (Piece W)) → Each (λ p. lo ≤ p.lo) xs → Each (λ p. Each (λ q. NotLower lo p q) xs) xs
  all_from lo xs above = each_map (λ p. lo ≤ p.lo) (λ p. Each (λ q. NotLower lo p q) xs)
      (λ p high. each_any xs p high) xs above
    where
      each_any : (ys : List (Piece W)) (p : Piece W) → lo ≤ p.lo → Each (λ q. NotLower lo p q) ys
      each_any [] p high = tt
      each_any (y ∷ ys) p high = (λ _. high, each_any ys p high)

  lowest_from : (p : Piece W) (qs : List (Piece W)) (left right : Piece W) → AreApart lo_of hi_of (p ∷ qs)
      → pair_from p qs ≡ Some (both left right)
      → Each (λ x. Each (λ y. NotLower left.lo x y) (p ∷ qs)) (p ∷ qs)
  lowest_from p [] left right far found = cc
  lowest_from p (q ∷ qs) left right far found =
      (elim (p.hi == q.lo)
      as (λ t. (p.hi == q.lo) ≡ t → cond t (Some (both p q)) (pair_from q qs) ≡ Some (both left right)
      → Each (λ x. Each (λ y. NotLower left.lo x y) (p ∷ q ∷ qs)) (p ∷ q ∷ qs)) [
        | true ↦ λ test here.
            let first : p.lo ≡ left.lo = ap (λ (x : Piece W). x.lo) (left_is p q left right here) in
            all_from left.lo (p ∷ q ∷ qs) (
              omega arith,
              each_map (λ r. p.lo < r.lo) (λ r. left.lo ≤ r.lo) (λ r above. omega arith) (q ∷ qs)
                  (apart_rises lo_of hi_of (p ∷ q ∷ qs) far).0,
            )
        | false ↦ λ test later.
            all_pairs (NotLower left.lo) p (q ∷ qs) (λ same. absurd (omega (arith, far.0)))
            (each_map (λ r. Differ p r) (λ r. NotLower left.lo p r) (λ r differ same. absurd (differ same)) (q ∷ qs)
            (no_later p q qs far (unlike p.hi q.lo test)))
            (each_map (λ r. Differ r p) (λ r. NotLower left.lo r p) (λ r differ same. absurd (differ same)) (q ∷ qs)
            (none_back p (q ∷ qs) far))
            (lowest_from q qs left right far.2 later)
      ])
      refl found

  -- whatever two adjoin, the first pair begins no higher
  pub pair_lowest : (held : List (Piece W)) (left right : Piece W) → AreApart lo_of hi_of held
      → first_pair held ≡ Some (both left right)
      → Each (λ p. Each (λ q. p.hi ≡ q.lo → left.lo ≤ p.lo) held) held
  pair_lowest [] left right far found = cc
  pair_lowest (p ∷ ps) left right far found = lowest_from p ps left right far found

  pub is_lowest : (b : PlainBoard W) (t : Taken W) → IsSound b → first_pair b.held ≡ Some (both t.left t.right)
      → IsLowestPair b t
  is_lowest b t sound found =
      let parts : ((t.left.lo < t.left.hi) × (t.left.hi ≤ b.rows)) ×
      ((t.right.lo < t.right.hi) × (t.right.hi ≤ b.rows)) =
      each_pair b.held t.left t.right found (λ q. (q.lo < q.hi) × (q.hi ≤ b.rows)) sound.tidy.held_within in
      record {
        left_nonempty = parts.0.0;
        adjoins = pair_adjoins b.held t.left t.right found;
        right_nonempty = parts.1.0;
        within = parts.1.1;
        lowest = pair_lowest b.held t.left t.right (held_apart b sound.tidy) found;
      }

  -- what a claim on a sound board answers, in plain words
  pub claims_plainly : (b : PlainBoard W) (who : ℕ) (answer : CoreClaimed W) (d : PlainBoard W) → IsSound b
      → Claims b who answer d
      → AnswersPlainly b answer d
  claims_plainly b who (claimed.Pair t) d sound step = (
    is_lowest b t sound step.1,
    (
      pair_adjoins b.held t.left t.right step.1,
      ap (λ (m : PlainBoard W). list_any (λ c. is_same c (claim_of t)) m.claims) step.3
          ∙ open_put (claim_of t) b.claims,
    ),
  )
  claims_plainly b who claimed.NoPair d sound step = none_adjoin b.held (held_apart b sound.tidy) step.0
  claims_plainly b who claimed.Full d sound step = tt
