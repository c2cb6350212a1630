-- Where the lines of a text stand in it: each holds the tokens of a part of the text, and their numbers ascend.
use Rattle.std.proofs.Common.{◌≡◌, ℕ, zero, suc, ◌+◌, ◌-◌, ◌≤◌, true, false, cond, List, [], ◌∷◌, ◌++◌, length, take}
use Rattle.std.proofs.Common.{drop, refl, sym, ap, subst, ◌∙◌, arith, append_assoc, length-append, rules}
use Rattle.std.proofs.lemmas.List.{take-append-drop, append-nil}
use Rattle.std.specs.Prelude.{Option, Some, None, Result, Ok, Err, IfOk, ◌==◌, ◌&&◌, slice_index, nat_lt, nat_eq}
use Rattle.std.specs.List.{concat, onto_first, starts_with}
use Rattle.outcome_kit.specs.Outcome.{Tells}
use Rattle.gta_text.specs.declared.token.Token.{Token}
use Rattle.gta_text.specs.Tokens.{is_blank, token_at, tokens_from}
use Rattle.gta_text.specs.declared.lines.Lines.{Lines}
use Rattle.gta_text.specs.declared.fault.TextFault.{TextFault}
use Rattle.gta_text.proofs.Slices.{pick, both_right, token_within}
use Rattle.gta_text.specs.Text.{raw_lines, without_last, content, first_bad, is_rows, Numbered, Found, BadByte}
use Rattle.gta_text.specs.Text.{line_if, with_lines, unless_bad, lines_from, mark_length, read_lines, AreInOrder}
use Rattle.gta_text.specs.Text.{IsHeld, AreHeld, fault_in, lines_view}

lower_order : (low lo hi : ℕ) (tokens : List Token) → low ≤ lo → AreInOrder lo hi tokens → AreInOrder low hi tokens
lower_order low lo hi [] le ordered = tt
lower_order low lo hi (token ∷ tokens) le ordered = (omega (arith, ordered.0), ordered.1, ordered.2, ordered.3)

higher_order : (lo hi high : ℕ) (tokens : List Token) → hi ≤ high → AreInOrder lo hi tokens → AreInOrder lo high tokens
higher_order lo hi high [] le ordered = tt
higher_order lo hi high (token ∷ tokens) le ordered =
    (ordered.0, ordered.1, omega (arith, ordered.2), higher_order token.end hi high tokens le ordered.3)

-- tokens are read in order
in_order : (skip place : ℕ) (bs : List ℕ) (lo hi : ℕ) → lo ≡ place + skip → hi ≡ place + length bs → skip ≤ length bs
    → AreInOrder lo hi (tokens_from skip place bs)
unfolding tokens_from
in_order skip place [] lo hi low high le = tt
in_order (suc skip) place (b ∷ bs) lo hi low high le = in_order skip (place + 1) bs lo hi (omega arith) (omega arith)
    (omega arith)
in_order zero place (b ∷ bs) lo hi low high le =
    let P : List Token → Type 0 = AreInOrder lo hi in
    pick P (is_blank b) (λ e. lower_order lo (place + 1) hi _ (omega arith)
    (in_order 0 (place + 1) bs (place + 1) hi (omega arith) (omega arith) (omega arith))) (λ e.
    pick P (nat_eq b 35) (λ e. tt) (λ e. (
      omega arith,
      omega arith,
      omega (arith, token_within b bs),
      in_order (token_at b bs).1 (place + 1) bs (place + 1 + (token_at b bs).1) hi refl (omega arith)
          (token_within b bs),
    )))

concat_onto : (b : ℕ) (xs : List (List ℕ)) → concat (onto_first b xs) ≡ b ∷ concat xs
concat_onto b [] = refl
concat_onto b (x ∷ xs) = refl

pub concat_raw : (bs : List ℕ) → concat (raw_lines bs) ≡ bs
unfolding raw_lines
concat_raw [] = refl
concat_raw (b ∷ bs) = elim (b == 10) as
    (λ t. concat (cond t ((b ∷ []) ∷ raw_lines bs) (onto_first b (raw_lines bs))) ≡ b ∷ bs) [
      | true ↦ ap (λ (xs : List ℕ). b ∷ xs) (concat_raw bs)
      | false ↦ concat_onto b (raw_lines bs)
          ∙ ap (λ (xs : List ℕ). b ∷ xs) (concat_raw bs)
    ]

abbrev IsPrefix : List ℕ → List ℕ → Type 0
IsPrefix xs bs = (tail : List ℕ) × (bs ≡ xs ++ tail)

without_prefix : (b : ℕ) (bs : List ℕ) → IsPrefix (without_last b bs) bs
without_prefix b bs = elim (nat_lt 0 (length bs) && slice_index bs (length bs - 1) == b) as
    (λ t. IsPrefix (cond t (take (length bs - 1) bs) bs) bs)
    [ true ↦ (drop (length bs - 1) bs, sym (take-append-drop (length bs - 1) bs)) | false ↦ ([], sym (append-nil bs)) ]

pub content_prefix : (line : List ℕ) → IsPrefix (content line) line
content_prefix line =
    let outer = without_prefix 10 line in
    let inner = without_prefix 13 (without_last 10 line) in (
      inner.0 ++ outer.0,
      outer.1 ∙ ap (λ (xs : List ℕ). xs ++ outer.0) inner.1
          ∙ append_assoc (content line) inner.0 outer.0,
    )

lower : (source : List ℕ) (low number : ℕ) (lines : List Numbered) → low ≤ number → AreHeld source number lines
    → AreHeld source low lines
lower source low number [] le held = tt
lower source low number (line ∷ lines) le held = (omega (arith, held.0), held.1, held.2)

line_held : (source : List ℕ) (number : ℕ) (tokens : List Token) (lines : List Numbered)
    → IsHeld source (record { number = number; tokens = tokens })
    → AreHeld source (number + 1) lines → AreHeld source number (line_if number tokens ++ lines)
line_held source number [] lines one held = lower source number (number + 1) lines (omega arith) held
line_held source number (token ∷ tokens) lines one held = (omega arith, one, held)

abbrev pub HeldIn : List ℕ → ℕ → Result Found BadByte → Type 0
HeldIn source number (Ok found) = AreHeld source number found.lines
HeldIn source number (Err bad) = Unit {0}

held_unless : (source : List ℕ) (number : ℕ) (bad : Option ℕ) (found : Result Found BadByte)
    → HeldIn source number found → HeldIn source number (unless_bad number bad found)
held_unless source number None found held = held
held_unless source number (Some k) found held = tt

held_with : (source : List ℕ) (number : ℕ) (tokens : List Token)
    → IsHeld source (record { number = number; tokens = tokens })
    → (found : Result Found BadByte) → HeldIn source (number + 1) found
    → HeldIn source number (with_lines (line_if number tokens) found)
held_with source number tokens one (Ok found) held = line_held source number tokens found.lines one held
held_with source number tokens one (Err bad) held = tt

pub lines_held : (source : List ℕ) (lines : List (List ℕ)) (front : List ℕ) (number place : ℕ)
    → source ≡ front ++ concat lines → place ≡ length front
    → HeldIn source number (lines_from source number place lines)
unfolding lines_from
lines_held source [] front number place is at = tt
lines_held source (line ∷ lines) front number place is at =
    let cut = content_prefix line in
    let tokens = tokens_from 0 place (content line) in
    let whole : source ≡ front ++ (content line ++ (cut.0 ++ concat lines)) =
    is ∙ ap (λ (xs : List ℕ). front ++ xs)
    (ap (λ (xs : List ℕ). xs ++ concat lines) cut.1 ∙ append_assoc (content line) cut.0 (concat lines)) in
    let one : IsHeld source (record { number = number; tokens = tokens }) =
    record {
      front = front;
      held = content line;
      back = cut.0 ++ concat lines;
      whole = whole;
      tokens = ap (λ p. tokens_from 0 p (content line)) at;
      ordered = lower_order 0 place (length source) tokens (omega arith)
          (higher_order place (place + length (content line)) (length source) tokens
          (omega (
            arith,
            ap length whole,
            at,
            length-append front (content line ++ (cut.0 ++ concat lines)),
            length-append (content line) (cut.0 ++ concat lines),
          ))
          (in_order 0 place (content line) place (place + length (content line)) (omega arith) refl (omega arith)));
    } in
    let next : source ≡ (front ++ line) ++ concat lines = is ∙ sym (append_assoc front line (concat lines)) in
    let later = lines_held source lines (front ++ line) (number + 1) (place + length line) next
    (omega (arith, length-append front line)) in
    elim (is_rows source tokens) as
    (λ t. HeldIn source number (cond t (Ok (record { lines = []; rows_at = Some (place + length line) }))
    (unless_bad number (first_bad (content line))
    (with_lines (line_if number tokens) (lines_from source (number + 1) (place + length line) lines))))) [
      | true ↦ tt
      | false ↦ held_unless source number (first_bad (content line)) _ (held_with source number tokens one _ later)
    ]

begins_long : (bs : List ℕ) → starts_with nat_eq bs (239 ∷ 187 ∷ 191 ∷ []) ≡ true → 3 ≡ length (take 3 bs)
begins_long [] e = absurd cc
begins_long (a ∷ []) e = let f : false ≡ true = both_right (nat_eq 239 a) false e in absurd cc
begins_long (a ∷ b ∷ []) e =
    let f : (nat_eq 187 b && false) ≡ true = both_right (nat_eq 239 a) (nat_eq 187 b && false) e in
    let g : false ≡ true = both_right (nat_eq 187 b) false f in absurd cc
begins_long (a ∷ b ∷ c ∷ bs) e = refl

mark_front : (bs : List ℕ) → mark_length bs ≡ length (take (mark_length bs) bs)
mark_front bs =
    let P : ℕ → Type 0 = λ n. n ≡ length (take n bs) in
    pick P (starts_with nat_eq bs (239 ∷ 187 ∷ 191 ∷ [])) (begins_long bs) (λ e. refl)

pub text_held : (bs : List ℕ) → HeldIn bs 1 (read_lines bs)
unfolding read_lines
text_held bs =
    lines_held bs (raw_lines (drop (mark_length bs) bs)) (take (mark_length bs) bs) 1 (mark_length bs)
    (sym (take-append-drop (mark_length bs) bs)
    ∙ ap (λ (xs : List ℕ). take (mark_length bs) bs ++ xs) (sym (concat_raw (drop (mark_length bs) bs))))
    (mark_front bs)

pub result_held : (bs : List ℕ) (result : Result Lines TextFault) → Tells fault_in lines_view (read_lines bs) result
    → IfOk result (λ lines. AreHeld bs 1 (lines_view lines).lines)
result_held bs (Ok lines) e = let P : Result Found BadByte → Type 0 = HeldIn bs 1 in subst P e (text_held bs)
result_held bs (Err fault) e = search rules
