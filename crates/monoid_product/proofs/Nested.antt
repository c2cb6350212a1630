-- Nested spans are the spans of the product.
use Rattle.std.proofs.Common.{◌≡◌, ℕ, zero, suc, ◌+◌, ◌*◌, ◌/◌, ◌%◌, ◌-◌, ◌<◌, ◌≤◌, Bool, true, false, List, [], ◌∷◌}
use Rattle.std.proofs.Common.{◌++◌, length, get_or, take, drop, map, All, length-take, length-drop, cond, refl, sym, ap}
use Rattle.std.proofs.Common.{subst, ◌∙◌, add_assoc, add-one, zero-mul, mul-one, arith}
use Rattle.std.specs.List.{flat_map, range_with_len}
use Rattle.std.proofs.Math.Nat.{mul_comm, div-one}
use Rattle.std.proofs.lemmas.List.{flat_map_more}
use Rattle.std.proofs.lemmas.Slice.{first_rest}
use Rattle.std.proofs.lemmas.Nat.{div-mul-add, mod-mul-add, mul-add-lt, div_below, mod_below}
use Rattle.monoid_kit.specs.declared.span.Span.{Span}
use Rattle.monoid_kit.specs.Spans.{moved, AreSpans}
use Rattle.monoid_kit.proofs.Spans.{AreSpans-append, AreSpans-end, AreSpans-same}
use Rattle.monoid_product.specs.declared.component.Component.{Component}
use Rattle.monoid_product.specs.Component.{component_mul}
use Rattle.monoid_product.specs.ComponentOf.{plain_component, plain_components}
use Rattle.monoid_product.specs.ComponentLaws.{component-IsMonoid}
use Rattle.monoid_product.specs.Product.{product_mul}
use Rattle.monoid_product.specs.ProductLaws.{parts-IsMonoid}
use Rattle.monoid_product.specs.Nested.{shifted, at_place, in_span, nested, AreBelow, IsWithin}
use Rattle.monoid_product.proofs.Numbers.{times-div}
use Rattle.monoid_product.proofs.Suffixes.{size_of, keys_of, size_of-some, keys_of-some}

range-more : (lo n : ℕ) → range_with_len lo (suc n) ≡ range_with_len lo n ++ (lo + n) ∷ []
range-more lo zero = (let e : lo ≡ lo + 0 = omega arith in ap (λ k. k ∷ []) e)
range-more lo (suc n) =
    (let e : lo + 1 + n ≡ lo + suc n = omega arith in
    ap (λ ks. lo ∷ ks) (range-more (lo + 1) n ∙ ap (λ k. range_with_len (lo + 1) n ++ k ∷ []) e))

-- one place more
pub flat_map-range_more : {A : Type 0} (f : ℕ → List A) (old mid new : List A) (n : ℕ)
    → mid ≡ old ++ flat_map f (range_with_len 0 n)
    → new ≡ mid ++ f n → new ≡ old ++ flat_map f (range_with_len 0 (n + 1))
flat_map-range_more f old mid new n so_far more =
    (let e : 0 + n ≡ n = omega arith in
    let last : range_with_len 0 (n + 1) ≡ range_with_len 0 n ++ n ∷ [] =
    ap (range_with_len 0) (add-one n) ∙ range-more 0 n ∙ ap (λ k. range_with_len 0 n ++ k ∷ []) e in
    more ∙ ap (λ xs. xs ++ f n) so_far ∙ flat_map_more f old (range_with_len 0 n) n
    ∙ ap (λ ks. old ++ flat_map f ks) (sym last))

-- an element of the first component counts as often as the later components have keys
pub digit-below : (to size later low : ℕ) → size * later ≤ 8192 → to < size → low < later → to * later + low < 8192
digit-below to size later low few inside below =
    let less = mul-add-lt to later low size inside below in
    let turned = mul_comm later size in
    omega arith

add-if : (test : Bool) (t a b : ℕ) → t + cond test a b ≡ cond test (t + a) (t + b)
add-if true t a b = refl
add-if false t a b = refl

moved-shifted : (from to : ℕ) (span : Span) (i : ℕ) → moved (shifted from to span) i ≡ to + moved span i
moved-shifted from to span i = by_case span.rises
  where
    by_case : (rises : Bool) → cond rises (to + span.to + i) (to + span.to) ≡ to + cond rises (span.to + i) span.to
    by_case true = add_assoc to span.to i
    by_case false = refl

-- elements are moved to elements
module _ (size : ℕ) (move : ℕ → ℕ) (closed : (k : ℕ) → k < size → move k < size) where
  item-IsWithin : (low : ℕ) (spans : List Span) (k : ℕ) (d : Span) → k < length spans → AreSpans size move low spans
      → IsWithin size (get_or spans k d)
  item-IsWithin low [] k d below are = absurd (omega arith)
  item-IsWithin low (x ∷ xs) zero d below are =
      let within = AreSpans-end size (low + x.len) move xs are.1 in
      let begins = are.0.begins in
      record {
        from = omega arith;
        to = λ i inside. subst (λ m. m < size) (are.0.moves i inside) (closed (low + i) (omega arith));
      }
  item-IsWithin low (x ∷ xs) (suc k) d below are = item-IsWithin (low + x.len) xs k d (omega arith) are.1

  pub AreSpans-within : (spans : List Span) → AreSpans size move 0 spans → All (IsWithin size) spans
  AreSpans-within spans are = λ k d below. item-IsWithin 0 spans k d below are

  item-some : (low : ℕ) (spans : List Span) (k : ℕ) (d : Span) → k < length spans → AreSpans size move low spans
      → 0 < (get_or spans k d).len
  item-some low [] k d below are = absurd (omega arith)
  item-some low (x ∷ xs) zero d below are = are.0.some
  item-some low (x ∷ xs) (suc k) d below are = item-some (low + x.len) xs k d (omega arith) are.1

  moved-first : (span : Span) → moved span 0 ≡ span.to
  moved-first span = by_case span.rises
    where
      by_case : (rises : Bool) → cond rises (span.to + 0) span.to ≡ span.to
      by_case true = omega arith
      by_case false = refl

  pub AreSpans-below : (spans : List Span) → AreSpans size move 0 spans → AreBelow size spans
  AreSpans-below spans are k d below =
      let span = get_or spans k d in
      let within = item-IsWithin 0 spans k d below are in
      let some = item-some 0 spans k d below are in
      let from = within.from in
      (omega arith, subst (λ m. m < size) (moved-first span) (within.to 0 some))

-- a product of two digits, the later one below `later`
module _ (size later : ℕ) (high low : ℕ → ℕ) where
  abbrev move : ℕ → ℕ
  move b = high (b / later) * later + low (b % later)

  move-at : (q at : ℕ) → at < later → move (q * later + at) ≡ high q * later + low at
  move-at q at below =
      ap (λ d. high d * later + low ((q * later + at) % later)) (div-mul-add q later at below)
      ∙ ap (λ r. high q * later + low r) (mod-mul-add q later at below)

  -- the later spans, behind one digit
  shifted-AreSpans : (q to at : ℕ) (spans : List Span) → high q ≡ to → AreSpans later low at spans
      → AreSpans (q * later + later) move (q * later + at) (map (shifted (q * later) (to * later)) spans)
  shifted-AreSpans q to at [] same are = ap (λ n. q * later + n) are
  shifted-AreSpans q to at (x ∷ xs) same are =
      let within = AreSpans-end later (at + x.len) low xs are.1 in (
        record {
          begins = ap (λ n. q * later + n) are.0.begins;
          some = are.0.some;
          moves = λ i below.
              let inside : at + i < later = omega arith in
              ap move (add_assoc (q * later) at i)
              ∙ move-at q (at + i) inside
              ∙ ap (λ h. h * later + low (at + i)) same
              ∙ ap (λ m. to * later + m) (are.0.moves i below)
              ∙ sym (moved-shifted (q * later) (to * later) x i);
        },
        subst (λ n. AreSpans (q * later + later) move n (map (shifted (q * later) (to * later)) xs))
            (sym (add_assoc (q * later) at x.len))
            (shifted-AreSpans q to (at + x.len) xs same are.1),
      )

  module _ (inner : List Span) (inner_are : AreSpans later low 0 inner) where
    -- behind the digits of a span, from place i on
    in_span-AreSpans : (span : Span) (begin i n : ℕ) → span.from ≡ begin → i + n ≡ span.len
        → ((j : ℕ) → j < span.len → high (begin + j) ≡ moved span j)
        → AreSpans ((begin + span.len) * later) move ((begin + i) * later)
        (flat_map (at_place later inner span) (range_with_len i n))
    in_span-AreSpans span begin i zero from count moves =
        let same : begin + i ≡ begin + span.len = omega arith in ap (λ n. n * later) same
    in_span-AreSpans span begin i (suc n) from count moves =
        let q : ℕ = span.from + i in
        let same : begin + i ≡ q = ap (λ b. b + i) (sym from) in
        let here : AreSpans (q * later + later) move (q * later + 0) (at_place later inner span i) =
        shifted-AreSpans q (moved span i) 0 inner (ap high (sym same) ∙ moves i (omega arith)) inner_are in
        let first : q * later + 0 ≡ (begin + i) * later = omega (arith, ap (λ n. n * later) same) in
        let next : q * later + later ≡ (begin + (i + 1)) * later = grind (arith, ap (λ n. n * later) same) in
        AreSpans-append move ((begin + i) * later) ((begin + (i + 1)) * later) ((begin + span.len) * later)
        (at_place later inner span i)
        (flat_map (at_place later inner span) (range_with_len (i + 1) n))
        (subst (λ low. AreSpans ((begin + (i + 1)) * later) move low (at_place later inner span i)) first
        (subst (λ end. AreSpans end move (q * later + 0) (at_place later inner span i)) next here))
        (in_span-AreSpans span begin (i + 1) n from (omega arith) moves)

    pub nested-AreSpans : (at : ℕ) (outer : List Span) → AreSpans size high at outer
        → AreSpans (size * later) move (at * later) (nested later inner outer)
    nested-AreSpans at [] are = ap (λ n. n * later) are
    nested-AreSpans at (x ∷ xs) are =
        AreSpans-append move (at * later) ((at + x.len) * later) (size * later) (in_span later inner x)
        (nested later inner xs)
        (subst (λ n. AreSpans ((at + x.len) * later) move (n * later) (in_span later inner x))
        (let e : at + 0 ≡ at = omega arith in e)
        (in_span-AreSpans x at 0 x.len are.0.begins (omega arith) are.0.moves))
        (nested-AreSpans (at + x.len) xs are.1)

-- the components after the first one
abbrev pub parts_after : List Component → List Component
parts_after parts = take (length parts - 1) (drop 1 parts)

pub parts-split : (parts : List Component) (first : Component) → 1 ≤ length parts → first ≡ get_or parts 0 first
    → parts ≡ first ∷ parts_after parts
parts-split parts first some is = first_rest parts first some ∙ ap (λ x. x ∷ parts_after parts) (sym is)

pub parts_after-fewer : (parts : List Component) → 1 ≤ length parts → length (parts_after parts) < length parts
parts_after-fewer parts some = simp (length-take, length-drop) (omega arith)

-- with no component there is one key
pub none-AreSpans : (parts : List Component) (count a : ℕ) (spans : List Span) → length parts < 1
    → count ≡ keys_of parts
    → AreSpans 1 (λ key. 0) 0 spans → AreSpans count (product_mul (plain_components parts) a) 0 spans
none-AreSpans [] count a spans none count_is are =
    subst (λ n. AreSpans n (product_mul (plain_components []) a) 0 spans) (sym count_is)
    (AreSpans-same 1 0 (λ key. 0) (product_mul (plain_components []) a) spans (λ k k_in. refl) are)
none-AreSpans (x ∷ xs) count a spans none count_is are = absurd (omega arith)

-- the first component and the later ones
module _ (parts rest : List Component) (first : Component) (whole : parts ≡ first ∷ rest) (count size later a : ℕ)
    (count_is : count ≡ keys_of parts) (size_is : size ≡ size_of first) (later_is : later ≡ count / size)
    (is_key : a < count) where
  pub count-split : count ≡ size * keys_of rest
  count-split = count_is ∙ ap keys_of whole ∙ ap (λ n. n * keys_of rest) (sym size_is)

  pub later-keys : later ≡ keys_of rest
  later-keys =
      later_is ∙ ap (λ n. n / size) count-split
      ∙ times-div size (keys_of rest) (subst (λ n. 0 < n) (sym size_is) (size_of-some first)) (keys_of-some rest)

  pub later-some : 0 < later
  later-some = subst (λ n. 0 < n) (sym later-keys) (keys_of-some rest)

  pub count-times : size * later ≡ count
  count-times = ap (λ n. size * n) later-keys ∙ sym count-split

  pub first-digit : a / later < size_of first
  first-digit =
      subst (λ n. a / later < n) size_is
      (div_below a later size later-some (subst (λ n. a < n) (sym count-times) is_key))

  pub rest-key : a % later < later
  rest-key = mod_below a later later-some

  first_move : ℕ → ℕ
  first_move b = component_mul (plain_component first) (a / later) b

  rest_move : ℕ → ℕ
  rest_move b = product_mul (plain_components rest) (a % later) b

  move-split : (b : ℕ)
      → first_move (b / later) * later + rest_move (b % later) ≡ product_mul (plain_components parts) a b
  unfolding first_move rest_move
  move-split b =
      ap (λ n. component_mul (plain_component first) (a / n) (b / n) * n + product_mul (plain_components rest) (a % n)
      (b % n)) later-keys
      ∙ ap (λ ps. product_mul (plain_components ps) a b) (sym whole)

  pub first-closed : (b : ℕ) → b < size → component_mul (plain_component first) (a / later) b < size
  first-closed b b_in =
      subst (λ n. component_mul (plain_component first) (a / later) b < n) (sym size_is)
      ((component-IsMonoid first).product_is_element (a / later) b first-digit (subst (λ n. b < n) size_is b_in))

  pub rest-closed : (b : ℕ) → b < later → product_mul (plain_components rest) (a % later) b < later
  rest-closed b b_in =
      subst (λ n. product_mul (plain_components rest) (a % later) b < n) (sym later-keys)
      ((parts-IsMonoid rest).product_is_element (a % later) b (subst (λ n. a % later < n) later-keys rest-key)
      (subst (λ n. b < n) later-keys b_in))

  module _ (outer : List Span)
      (outer_are : AreSpans (size_of first) (component_mul (plain_component first) (a / later)) 0 outer) where
    pub outer-AreSpans : AreSpans size (component_mul (plain_component first) (a / later)) 0 outer
    outer-AreSpans =
        subst (λ n. AreSpans n (component_mul (plain_component first) (a / later)) 0 outer) (sym size_is) outer_are

    -- where the later components have one key, that of the first component is the key
    pub outer-alone : later ≡ 1 → AreSpans count (product_mul (plain_components parts) a) 0 outer
    unfolding first_move rest_move
    outer-alone one =
        let whole_size : size ≡ count = sym (mul-one size) ∙ ap (λ n. size * n) (sym one) ∙ count-times in
        subst (λ n. AreSpans n (product_mul (plain_components parts) a) 0 outer) whole_size
        (AreSpans-same size 0 (component_mul (plain_component first) (a / later))
        (product_mul (plain_components parts) a) outer
        (λ b b_in.
        let none : rest_move (b % later) < later = rest-closed (b % later) (mod_below b later later-some) in
        let high : first_move b ≡ first_move (b / later) * later =
        ap first_move (sym (div-one b) ∙ ap (λ n. b / n) (sym one))
        ∙ sym (mul-one (first_move (b / later))) ∙ ap (λ n. first_move (b / later) * n) (sym one) in
        let both : first_move (b / later) * later + rest_move (b % later) ≡ first_move (b / later) * later = omega arith
        in
        high ∙ sym both ∙ move-split b)
        outer-AreSpans)

    pub product-AreSpans : (inner spans : List Span)
        → AreSpans later (product_mul (plain_components rest) (a % later)) 0 inner
        → spans ≡ nested later inner outer → AreSpans count (product_mul (plain_components parts) a) 0 spans
    unfolding first_move rest_move
    product-AreSpans inner spans inner_are is =
        subst (λ n. AreSpans n (product_mul (plain_components parts) a) 0 spans) count-times
        (AreSpans-same (size * later) 0 (λ b. first_move (b / later) * later + rest_move (b % later))
        (product_mul (plain_components parts) a) spans
        (λ b b_in. move-split b)
        (subst (AreSpans (size * later) (λ b. first_move (b / later) * later + rest_move (b % later)) 0) (sym is)
        (subst (λ low. AreSpans (size * later) (λ b. first_move (b / later) * later + rest_move (b % later)) low
        (nested later inner outer))
        (zero-mul later) (nested-AreSpans size later first_move rest_move inner inner_are 0 outer outer-AreSpans))))
