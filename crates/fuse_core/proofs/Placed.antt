-- Items by their places, lists taken item by item, and what a sum over them costs.
use Rattle.std.proofs.Common.{◌≡◌, refl, sym, ap, ◌∙◌, subst, ℕ, zero, suc, ◌+◌, ◌-◌, ◌*◌, ◌<◌, ◌≤◌, ◌⊎◌, inl, inr}
use Rattle.std.proofs.Common.{List, [], ◌∷◌, ◌++◌, length, take, drop, map, slice_index_or, arith, mul-le-mul_right}
use Rattle.std.proofs.lemmas.List.{append-nil, take_more, take_all, map-append}
use Rattle.std.specs.List.{flat_map}
use Rattle.shape_gen.proofs.Lists.{flat_map-append}
use Rattle.fuse_core.specs.declared.wiring.Growth.{Growth}
use Rattle.fuse_core.specs.declared.wiring.Growth.TheVariants.{Kept, Alone, Before, Same}
use Rattle.fuse_core.specs.declared.wiring.Source.{Source}
use Rattle.fuse_core.specs.declared.wiring.Source.TheVariants.{Left, Right, Across}
use Rattle.fuse_core.specs.declared.wiring.Wires.{Wires}
use Rattle.fuse_core.specs.Wirings.{WiresOn, wires_on, crossings, shifts, all_crossings, all_shifts}
use Rattle.fuse_core.specs.Places.{StandsAt}

module _ {X : Type 0} where
  pub stands : (xs : List X) (i : ℕ) (x : X) → i < length xs → x ≡ slice_index_or xs i x → StandsAt xs i x
  stands xs i x within is = record { within = within; is = is }

  pushed-cases : (xs : List X) (y : X) (place : ℕ) (x : X) → place < length (xs ++ y ∷ [])
      → x ≡ slice_index_or (xs ++ y ∷ []) place x
      → StandsAt xs place x ⊎ ((place ≡ length xs) × (x ≡ y))
  pushed-cases [] y zero x within is = inr (refl, is)
  pushed-cases [] y (suc place) x within is = absurd (omega arith)
  pushed-cases (z ∷ xs) y zero x within is = inl (record { within = omega arith; is = is })
  pushed-cases (z ∷ xs) y (suc place) x within is = elim (pushed-cases xs y place x (omega arith) is) [
    | inl there ↦ inl (record { within = let inside = there.within in omega arith; is = there.is })
    | inr (last, same) ↦ inr (ap suc last, same)
  ]

  -- what holds at each place holds with one item more, where it holds of that
  pub each-push : (P : ℕ → X → Type 0) (xs ys : List X) (y : X)
      → ((place : ℕ) (x : X) → StandsAt xs place x → P place x)
      → P (length xs) y → ys ≡ xs ++ y ∷ [] → (place : ℕ) (x : X) → StandsAt ys place x → P place x
  each-push P xs ys y each last is place x at =
      let there : StandsAt (xs ++ y ∷ []) place x = subst (λ l. StandsAt l place x) is at in
      elim (pushed-cases xs y place x there.within there.is) [
        | inl before ↦ each place x before
        | inr (end, same) ↦ subst (λ p. P p x) (sym end) (subst (P (length xs)) (sym same) last)
      ]

  pub same-at : (xs : List X) (place : ℕ) (x y : X) → StandsAt xs place x → StandsAt xs place y → x ≡ y
  same-at [] place x y x_at y_at = let inside = x_at.within in absurd (omega arith)
  same-at (z ∷ xs) zero x y x_at y_at = x_at.is ∙ sym y_at.is
  same-at (z ∷ xs) (suc place) x y x_at y_at =
      let x_in = x_at.within in
      let y_in = y_at.within in
      same-at xs place x y (record { within = omega arith; is = x_at.is })
      (record { within = omega arith; is = y_at.is })

  pub take-pushed : (xs : List X) (i : ℕ) (x : X) → StandsAt xs i x → take (i + 1) xs ≡ take i xs ++ x ∷ []
  take-pushed xs i x at = take_more xs i x at.within ∙ ap (λ y. take i xs ++ y ∷ []) (sym at.is)

  pub flat_map-pushed : {Y : Type 0} (f : X → List Y) (xs : List X) (i : ℕ) (x : X) → StandsAt xs i x
      → flat_map f (take i xs) ++ f x ≡ flat_map f (take (i + 1) xs)
  flat_map-pushed f xs i x at =
      ap (λ l. flat_map f (take i xs) ++ l) (sym (append-nil (f x)))
      ∙ sym (flat_map-append f (take i xs) (x ∷ []))
      ∙ ap (flat_map f) (sym (take-pushed xs i x at))

  pub drop-first : (xs : List X) (i : ℕ) (x : X) (rest : List X) → drop i xs ≡ x ∷ rest → StandsAt xs i x
  drop-first [] zero x rest is = cc
  drop-first [] (suc i) x rest is = cc
  drop-first (y ∷ xs) zero x rest is = record { within = omega arith; is = cc }
  drop-first (y ∷ xs) (suc i) x rest is =
      let there = drop-first xs i x rest is in
      record { within = let inside = there.within in omega arith; is = there.is }

  pub drop-rest : (xs : List X) (i : ℕ) (x : X) (rest : List X) → drop i xs ≡ x ∷ rest → rest ≡ drop (i + 1) xs
  drop-rest [] zero x rest is = cc
  drop-rest [] (suc i) x rest is = cc
  drop-rest (y ∷ xs) zero x rest is = cc
  drop-rest (y ∷ xs) (suc i) x rest is =
      let more : suc i + 1 ≡ suc (i + 1) = omega arith in
      drop-rest xs i x rest is ∙ ap (λ n. drop n (y ∷ xs)) (sym more)

  pub stands-default : (xs : List X) (i : ℕ) (default : X) → i < length xs → StandsAt xs i (slice_index_or xs i default)
  stands-default [] i default within = absurd (omega arith)
  stands-default (y ∷ xs) zero default within = record { within = within; is = refl }
  stands-default (y ∷ xs) (suc i) default within =
      let there = stands-default xs i default (omega arith) in
      record { within = within; is = there.is }

any-default : {X : Type 0} (xs : List X) (i : ℕ) (x default : X) → i < length xs → slice_index_or xs i default ≡ x
    → x ≡ slice_index_or xs i x
any-default [] i x default within is = absurd (omega arith)
any-default (z ∷ xs) zero x default within is = sym is
any-default (z ∷ xs) (suc i) x default within is = any-default xs i x default (omega arith) is

-- the items behind the first, by their places in the whole list
pub behind-at : {X : Type 0} (xs : List X) (i : ℕ) (x default : X) → i < length (take (length xs - 1) (drop 1 xs))
    → slice_index_or (take (length xs - 1) (drop 1 xs)) i default ≡ x → StandsAt xs (i + 1) x
behind-at [] i x default within is = absurd (omega arith)
behind-at (y ∷ ys) i x default within is =
    let all : take (length (y ∷ ys) - 1) ys ≡ ys = take_all (length (y ∷ ys) - 1) ys (omega arith) in
    let inside : i < length ys = subst (λ l. i < length l) all within in
    let next : suc i ≡ i + 1 = omega arith in
    subst (λ n. StandsAt (y ∷ ys) n x) next
    (record {
      within = omega arith;
      is = any-default ys i x default inside
          (subst (λ l. slice_index_or l i default ≡ x) all is);
    })

pub behind-all : {X : Type 0} (xs : List X) (i : ℕ) → length (take (length xs - 1) (drop 1 xs)) ≤ i → length xs ≤ i + 1
behind-all [] i past = omega arith
behind-all (y ∷ ys) i past =
    let all : take (length (y ∷ ys) - 1) ys ≡ ys = take_all (length (y ∷ ys) - 1) ys (omega arith) in
    let rest : length ys ≤ i = subst (λ l. length l ≤ i) all past in
    omega (arith, rest)

-- costs

pub cost-more : (done one all each old mid new : ℕ) → all ≡ done + one → mid ≤ old + done * each
    → new ≤ mid + one * each
    → new ≤ old + all * each
cost-more done one all each old mid new split so_far more =
    let product : all * each ≡ (done + one) * each = ap (λ n. n * each) split in
    omega (arith, product)

pub cost-part : (done all each old new : ℕ) → done ≤ all → new ≤ old + done * each → new ≤ old + all * each
cost-part done all each old new part so_far =
    let product : done * each ≤ all * each = mul-le-mul_right each part in
    omega (arith, product)

shifts-append : (xs ys : List Growth) → shifts (xs ++ ys) ≡ shifts xs + shifts ys
shifts-append [] ys = omega arith
shifts-append (Kept place ∷ xs) ys = shifts-append xs ys
shifts-append (Alone label ∷ xs) ys = shifts-append xs ys
shifts-append (Before label place ∷ xs) ys = let rest = shifts-append xs ys in omega arith
shifts-append (Same place ∷ xs) ys = shifts-append xs ys

pub shifts-pushed : (xs : List Growth) (i : ℕ) (x : Growth) → StandsAt xs i x
    → shifts (take (i + 1) xs) ≡ shifts (take i xs) + shifts (x ∷ [])
shifts-pushed xs i x at = ap shifts (take-pushed xs i x at) ∙ shifts-append (take i xs) (x ∷ [])

pub shifts-take : (i : ℕ) (xs : List Growth) → shifts (take i xs) ≤ shifts xs
shifts-take zero xs = omega arith
shifts-take (suc i) [] = omega arith
shifts-take (suc i) (Kept place ∷ xs) = shifts-take i xs
shifts-take (suc i) (Alone label ∷ xs) = shifts-take i xs
shifts-take (suc i) (Before label place ∷ xs) = let rest = shifts-take i xs in omega arith
shifts-take (suc i) (Same place ∷ xs) = shifts-take i xs

crossings-append : (xs ys : List Source) → crossings (xs ++ ys) ≡ crossings xs + crossings ys
crossings-append [] ys = omega arith
crossings-append (Left place ∷ xs) ys = crossings-append xs ys
crossings-append (Right place ∷ xs) ys = crossings-append xs ys
crossings-append (Across earlier later ∷ xs) ys = let rest = crossings-append xs ys in omega arith

pub crossings-pushed : (xs : List Source) (i : ℕ) (x : Source) → StandsAt xs i x
    → crossings (take (i + 1) xs) ≡ crossings (take i xs) + crossings (x ∷ [])
crossings-pushed xs i x at = ap crossings (take-pushed xs i x at) ∙ crossings-append (take i xs) (x ∷ [])

pub crossings-take : (i : ℕ) (xs : List Source) → crossings (take i xs) ≤ crossings xs
crossings-take zero xs = omega arith
crossings-take (suc i) [] = omega arith
crossings-take (suc i) (Left place ∷ xs) = crossings-take i xs
crossings-take (suc i) (Right place ∷ xs) = crossings-take i xs
crossings-take (suc i) (Across earlier later ∷ xs) = let rest = crossings-take i xs in omega arith

all_shifts-append : (xs ys : List WiresOn) → all_shifts (xs ++ ys) ≡ all_shifts xs + all_shifts ys
all_shifts-append [] ys = omega arith
all_shifts-append (x ∷ xs) ys = let rest = all_shifts-append xs ys in omega arith

pub all_shifts-pushed : (xs : List Wires) (i : ℕ) (x : Wires) → StandsAt xs i x
    → all_shifts (map wires_on (take (i + 1) xs)) ≡ all_shifts (map wires_on (take i xs)) + shifts x.growths.items
all_shifts-pushed xs i x at =
    ap (λ l. all_shifts (map wires_on l)) (take-pushed xs i x at)
    ∙ ap all_shifts (map-append wires_on (take i xs) (x ∷ []))
    ∙ all_shifts-append (map wires_on (take i xs)) (wires_on x ∷ [])
    ∙ (let none : shifts x.growths.items + 0 ≡ shifts x.growths.items = omega arith in ap
    (λ n. all_shifts (map wires_on (take i xs)) + n) none)

pub all_shifts-take : (i : ℕ) (xs : List Wires) → all_shifts (map wires_on (take i xs)) ≤ all_shifts (map wires_on xs)
all_shifts-take zero xs = omega arith
all_shifts-take (suc i) [] = omega arith
all_shifts-take (suc i) (x ∷ xs) = let rest = all_shifts-take i xs in omega arith

all_crossings-append : (xs ys : List WiresOn) → all_crossings (xs ++ ys) ≡ all_crossings xs + all_crossings ys
all_crossings-append [] ys = omega arith
all_crossings-append (x ∷ xs) ys = let rest = all_crossings-append xs ys in omega arith

pub all_crossings-pushed : (xs : List Wires) (i : ℕ) (x : Wires) → StandsAt xs i x
    → all_crossings (map wires_on (take (i + 1) xs)) ≡ all_crossings (map wires_on (take i xs)) + crossings
    x.sources.items
all_crossings-pushed xs i x at =
    ap (λ l. all_crossings (map wires_on l)) (take-pushed xs i x at)
    ∙ ap all_crossings (map-append wires_on (take i xs) (x ∷ []))
    ∙ all_crossings-append (map wires_on (take i xs)) (wires_on x ∷ [])
    ∙ (let none : crossings x.sources.items + 0 ≡ crossings x.sources.items = omega arith in ap
    (λ n. all_crossings (map wires_on (take i xs)) + n) none)

pub all_crossings-take : (i : ℕ) (xs : List Wires)
    → all_crossings (map wires_on (take i xs)) ≤ all_crossings (map wires_on xs)
all_crossings-take zero xs = omega arith
all_crossings-take (suc i) [] = omega arith
all_crossings-take (suc i) (x ∷ xs) = let rest = all_crossings-take i xs in omega arith
