-- A specification that a text is, is well formed.
use Rattle.std.proofs.Common.{◌≡◌, ℕ, zero, suc, ◌+◌, ◌-◌, ◌≤◌, Bool, true, false, cond, ◌&&◌, ◌||◌, List, [], ◌∷◌}
use Rattle.std.proofs.Common.{◌++◌, length, take, drop, map, refl, sym, ap, subst, ◌∙◌, arith, one-add, length-drop}
use Rattle.std.proofs.lemmas.Bool.Decides.{nat_tests}
use Rattle.std.proofs.lemmas.List.{take-take, length-take}
use Rattle.std.specs.Prelude.{Option, Some, None, Result, nat_eq, ◌==◌, nat_lt, codes}
use Rattle.std.specs.Str.{bytes_eq}
use Rattle.std.specs.List.{list_all, list_any, prefix_len}
use Rattle.gta_text.specs.declared.token.TokenKind.{TokenKind}
use Rattle.gta_text.specs.declared.token.Token.{Token}
use Rattle.gta_text.specs.declared.numbers.TheConstants.{NUMBER_BOUND}
use Rattle.gta_text.specs.Numbers.{is_digit}
use Rattle.gta_text.specs.Names.{is_letter}
use Rattle.gta_text.specs.Tokens.{is_blank, is_text_byte, is_sign, may_begin_sign, next_is, quoted_at, token_at}
use Rattle.gta_text.specs.Tokens.{tokens_from}
use Rattle.gta_text.specs.Text.{Numbered, Found, BadByte, token_text, is_the_word}
use Rattle.gta_text.proofs.Slices.{pick, next_there, spelled_from, with_text, slices}
use Rattle.gta_text.specs.Text.{IsHeld, AreHeld}
use Rattle.gta_text.proofs.FoundLines.{HeldIn, text_held}
use Rattle.gta_spec.specs.Versions.{is_later, is_version, version_named}
use Rattle.gta_spec.specs.Symbols.{Symbol, Word, Later, Digits, Text, Sign, Stray, unquoted, word_as, symbol_as}
use Rattle.gta_spec.specs.Symbols.{symbol_of, symbols}
use Rattle.gta_spec.specs.Parts.{PartTree, SpecTree}
use Rattle.gta_spec.specs.SpecText.{is_past, has_past, is_digits_kind, version_in, AreParts, none, some, SpecText}
use Rattle.gta_spec.specs.WellFormed.{FitParts, IsWellFormed}
use Rattle.gta_spec.proofs.Goods.{GoodSymbol, AllGood, Good}
use Rattle.gta_spec.proofs.Fits.{line_fits}

-- a line's symbols, by its bytes alone
abbrev pub as_symbol : ℕ → TokenKind × List ℕ → Symbol
as_symbol version p = symbol_as version p.0 p.1

map_twice : {A B C : Type 0} (f : A → B) (g : B → C) (xs : List A) → map g (map f xs) ≡ map (λ x. g (f x)) xs
map_twice f g [] = refl
map_twice f g (x ∷ xs) = ap (λ ys. g (f x) ∷ ys) (map_twice f g xs)

pub symbols_at : (version : ℕ) (line front back source : List ℕ) (place : ℕ) → source ≡ front ++ (line ++ back)
    → place ≡ length front
    → symbols version source (tokens_from 0 place line) ≡ map (as_symbol version) (spelled_from 0 line)
symbols_at version line front back source place is at =
    sym (map_twice (with_text source) (as_symbol version) (tokens_from 0 place line))
    ∙ ap (λ ps. map (as_symbol version) ps) (slices line front back source 0 place is at)

abbrev TextSymbol : ℕ → Symbol → Type 0
TextSymbol version (Word x) = is_later version x ≡ false
TextSymbol version (Later x) = is_later version x ≡ true
TextSymbol version (Digits n) = Unit {0}
TextSymbol version (Text x) = list_all is_text_byte x ≡ true
TextSymbol version (Sign s) = Unit {0}
TextSymbol version Stray = Unit {0}

abbrev AllTexts : ℕ → List Symbol → Type 0
AllTexts version [] = Unit {0}
AllTexts version (t ∷ ts) = TextSymbol version t × AllTexts version ts

word_good : (version : ℕ) (x : List ℕ) → TextSymbol version (word_as version x)
word_good version x = pick (TextSymbol version) (is_later version x) (λ e. e) (λ e. e)

prefix_all : (p : ℕ → Bool) (bs : List ℕ) → list_all p (take (prefix_len p bs) bs) ≡ true
prefix_all p [] = refl
prefix_all p (b ∷ bs) = elim (p b) as
    (λ t. p b ≡ t → list_all p (take (cond t (1 + prefix_len p bs) 0) (b ∷ bs)) ≡ true)
    [ true ↦ (λ e. simp (one-add, e) (prefix_all p bs)) | false ↦ (λ e. refl) ] refl

take_less : (n : ℕ) (bs : List ℕ) → take n (take (n + 1) bs) ≡ take n bs
take_less n bs = take-take n (n + 1) bs (omega arith)

length_take : (n : ℕ) (bs : List ℕ) → n ≤ length bs → length (take n bs) ≡ n
length_take n bs le = length-take n bs ∙ (omega arith)

inside : (b : ℕ) (bs : List ℕ) → prefix_len is_text_byte bs + 1 ≤ length bs
    → list_all is_text_byte (unquoted (b ∷ take (prefix_len is_text_byte bs + 1) bs)) ≡ true
inside b bs le =
    let n = prefix_len is_text_byte bs in
    let len : length (b ∷ take (n + 1) bs) - 2 ≡ n = omega (arith, length_take (n + 1) bs le) in
    rw (len, take_less n bs) (prefix_all is_text_byte bs)

abbrev GoodToken : ℕ → ℕ → List ℕ → TokenKind × ℕ → Type 0
GoodToken version b bs token = TextSymbol version (symbol_as version token.0 (b ∷ take token.1 bs))

quoted_good : (version b : ℕ) (bs : List ℕ) → GoodToken version b bs (quoted_at bs)
quoted_good version b bs =
    let n = prefix_len is_text_byte bs in
    pick (GoodToken version b bs) (next_is 34 (drop n bs))
    (λ e. inside b bs (omega (arith, next_there 34 (drop n bs) e, length-drop n bs))) (λ e. tt)

token_good : (version b : ℕ) (bs : List ℕ) → GoodToken version b bs (token_at b bs)
unfolding token_at
token_good version b bs =
    let Good : TokenKind × ℕ → Type 0 = GoodToken version b bs in
    pick Good (is_letter b) (λ e. word_good version _) (λ e.
    pick Good (is_digit b) (λ e. tt) (λ e.
    pick Good (b == 34) (λ e. quoted_good version b bs) (λ e.
    pick Good (may_begin_sign b && next_is 61 bs) (λ e. tt) (λ e.
    pick Good (is_sign b) (λ e. tt) (λ e. tt)))))

texts_good : (version skip : ℕ) (bs : List ℕ) → AllTexts version (map (as_symbol version) (spelled_from skip bs))
unfolding spelled_from
texts_good version skip [] = tt
texts_good version (suc skip) (b ∷ bs) = texts_good version skip bs
texts_good version zero (b ∷ bs) =
    let P : List (TokenKind × List ℕ) → Type 0 = λ ps. AllTexts version (map (as_symbol version) ps) in
    pick P (is_blank b) (λ e. texts_good version 0 bs) (λ e.
    pick P (nat_eq b 35) (λ e. tt) (λ e. (token_good version b bs, texts_good version (token_at b bs).1 bs)))

or_left : (a b : Bool) → (a || b) ≡ false → a ≡ false
or_left true b e = e
or_left false b e = refl

or_right : (a b : Bool) → (a || b) ≡ false → b ≡ false
or_right true b e = absurd cc
or_right false b e = e

within : (n : ℕ) → nat_lt NUMBER_BOUND n ≡ false → n ≤ NUMBER_BOUND
within n e = grind (arith, nat_tests)

good_symbol : (version : ℕ) (t : Symbol) → TextSymbol version t → is_past t ≡ false → GoodSymbol version t
good_symbol version (Word x) text off = text
good_symbol version (Later x) text off = text
good_symbol version (Digits n) text off = within n off
good_symbol version (Text x) text off = text
good_symbol version (Sign s) text off = tt
good_symbol version Stray text off = tt

all_good : (version : ℕ) (source : List ℕ) (tokens : List Token) → AllTexts version (symbols version source tokens)
    → has_past version source tokens ≡ false → AllGood version (symbols version source tokens)
all_good version source [] texts off = tt
all_good version source (token ∷ tokens) texts off = (
  good_symbol version (symbol_of version source token) texts.0 (or_left _ _ off),
  all_good version source tokens texts.1
      (or_right (is_past (symbol_of version source token)) _ off),
)

held_good : (version : ℕ) (source : List ℕ) (line : Numbered) → IsHeld source line
    → has_past version source line.tokens ≡ false → Good version (symbols version source line.tokens)
held_good version source line held off =
    let e : symbols version source line.tokens ≡ map (as_symbol version) (spelled_from 0 held.held) =
    ap (λ ts. symbols version source ts) held.tokens
    ∙ symbols_at version held.held held.front held.back source (length held.front) held.whole refl in
    let texts : AllTexts version (symbols version source line.tokens) = rw e (texts_good version 0 held.held) in
    record { holds = all_good version source line.tokens texts off }

parts_fit : {version : ℕ} {source : List ℕ} {lines : List Numbered} {parts : List PartTree}
    → AreParts version source lines parts
    → (low : ℕ) → AreHeld source low lines
    → list_any (λ line. has_past version source line.tokens) lines ≡ false → FitParts version low parts
parts_fit none low held off = tt
parts_fit {version = version} {source = source} (some {line = line} d ds) low held off = (
  held.0,
  line_fits d (held_good version source line held.1 (or_left _ _ off)),
  parts_fit ds (line.number + 1) held.2
      (or_right (has_past version source line.tokens) _ off),
)

fit_lower : (version low number : ℕ) (parts : List PartTree) → low ≤ number → FitParts version number parts
    → FitParts version low parts
fit_lower version low number [] le fit = tt
fit_lower version low number (part ∷ parts) le fit = (omega (arith, fit.0), fit.1, fit.2)

-- a version that is named is one

abbrev IsNamed : Option ℕ → Type 0
IsNamed None = Unit {0}
IsNamed (Some version) = is_version version ≡ true

named_is_version : (digits : List ℕ) → IsNamed (version_named digits)
named_is_version digits =
    pick IsNamed (bytes_eq digits (codes "1")) (λ e. refl) (λ e.
    pick IsNamed (bytes_eq digits (codes "2")) (λ e. refl) (λ e.
    pick IsNamed (bytes_eq digits (codes "3")) (λ e. refl) (λ e. tt)))

version_is : (source : List ℕ) (tokens : List Token) → IsNamed (version_in source tokens)
version_is source [] = tt
version_is source (word ∷ []) = tt
version_is source (word ∷ digits ∷ []) =
    pick IsNamed (is_the_word (codes "gta") source word && is_digits_kind digits.kind)
    (λ e. named_is_version (token_text source digits)) (λ e. tt)
version_is source (word ∷ digits ∷ third ∷ others) = tt

pub is_well_formed : (bytes : List ℕ) (spec : SpecTree) (place : ℕ) → SpecText bytes spec place → IsWellFormed spec
is_well_formed bytes spec place text =
    let P : Result Found BadByte → Type 0 = HeldIn bytes 1 in
    let held = subst P text.lines (text_held bytes) in
    record {
      version = subst IsNamed text.version (version_is bytes text.first.tokens);
      parts = fit_lower spec.version 0 (text.first.number + 1) spec.parts (omega arith)
          (parts_fit text.parts (text.first.number + 1) held.2 text.numbers);
    }
