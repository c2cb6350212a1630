-- The numbers that a command without a fault holds: each option and each argument has one, within its range.
use Rattle.std.proofs.Common.{◌≡◌, ◌∙◌, ◌<◌, ◌≤◌, ◌==◌, ℕ, Bool, true, false, refl, sym, ap, arith, List, [], ◌∷◌}
use Rattle.std.proofs.Common.{length, drop, cond, Some}
use Rattle.std.specs.Prelude.{◌^◌, pos, Option, None, Result, Ok, Err}
use Rattle.std.specs.List.{slice_index_or}
use Rattle.std.specs.Str.Parse.{IsNumeral, ParsesUnsigned, without_leading_plus}
use Rattle.std.proofs.lemmas.Bool.{ne_eqb}
use Rattle.std.proofs.lemmas.Int.{ints}
use Rattle.std.proofs.lemmas.Str.Parse.{digit_from_value}
use Rattle.clap.specs.Built.{IsParsedFrom}
use Rattle.clap.specs.Lexer.{without_minus}
use Rattle.clap.specs.Matches.{ReadsOne, found_of, one_text}
use Rattle.clap.specs.Simple.{App, app_of}
use Rattle.clap.specs.Values.{IsSignedIn}
use Rattle.clap.specs.Walk.{Row, Rule, Text, rows_of}
use Rattle.clap.specs.declared.builder.command.Command.{Command}
use Rattle.clap.specs.declared.parser.matches.ArgMatches.{ArgMatches}
use Rattle.clap.proofs.WalkLemmas.{one_text-rows}
use Rattle.std.specs.Option.{option_map_or}
use Rattle.gta_words.specs.declared.words.TheConstants.{SEED_LIMIT}
use Rattle.gta_words.specs.Reading.{HasNumber, number_of, number_under}
use Rattle.gta_words.proofs.Described.{IsNumberRule, IsUnruled, arg_at, described, is_only_at, number_arg}
use Rattle.gta_words.proofs.Entries.{one_signed}

-- digits begin with no plus
no_plus : (ds : List ℕ) → IsNumeral 10 ds → without_leading_plus ds ≡ ds
no_plus [] numeral = refl
no_plus (d ∷ ds) numeral =
    let digit : (d == 43) ≡ false = ne_eqb _ _ (λ e. omega (arith, digit_from_value d numeral.1.0)) in
    ap (λ (b : Bool). drop (cond b 1 0) (d ∷ ds)) digit

-- the text is a numeral, and its number lies within the bounds
abbrev pub IsNumberText : ℕ → ℕ → Text → Type 0
IsNumberText least most t =
    IsNumeral 10 (without_leading_plus t) × (least ≤ number_of t) × (number_of t ≤ most)

-- a text within bounds that are not below zero, read without its minus, is a number within them
signed_number : (least most : ℕ) (t : Text) → IsSignedIn (pos least) (pos most) t
    → IsNumberText least most (without_minus t)
signed_number least most [] within = absurd (omega (arith, within.0.0))
signed_number least most (x ∷ xs) within = go (x == 45) refl within
  where
    go : (minus : Bool) → (x == 45) ≡ minus → IsSignedIn (pos least) (pos most) (x ∷ xs)
        → IsNumberText least most (without_minus (x ∷ xs))
    go true is within =
        let text : without_minus (x ∷ xs) ≡ xs = rw is refl in
        let numeral : IsNumeral 10 xs = rw is at within.0 in
        let low = rw is at within.2 in
        rw (text, no_plus xs numeral) (numeral, omega (arith, ints), omega (arith, ints))
    go false is within =
        let text : without_minus (x ∷ xs) ≡ x ∷ xs = rw is refl in
        let low = rw is at within.2 in
        let high = rw is at within.3 in
        rw text (rw is at within.0, omega (arith, ints), omega (arith, ints))

-- in a described command, the option or argument in place k has its number
pub number_given : (c : Command) (m : ArgMatches) (app : App) (k : ℕ) (r : Rule) (least most : ℕ)
    → IsParsedFrom c m → app_of c ≡ app → IsUnruled app → k < length app.top.rules
    → slice_index_or app.top.rules k r ≡ r → is_only_at k r.id app.top.rules ≡ true → IsNumberRule least most r
    → HasNumber least most r.id (rows_of (found_of m))
number_given c m app k r least most parsed is unruled below at only rule =
    let has = described c app is unruled in
    let a = arg_at _ app.top.rules k r has.rules_are below at in
    let id_is : a.0.id.now ≡ r.id = ap (λ (r : Rule). r.id) a.3 in
    let signed = one_signed least most c m parsed app.top.rules has k a.0 a.1 a.2 (rw id_is only)
    (number_arg least most r a.0 a.3 rule) in
    let within = signed_number least most signed.0 signed.2 in
    record {
      text = without_minus signed.0;
      found = sym (one_text-rows (found_of m) r.id) ∙ (rw id_is at signed.1);
      numeral = within.0;
      at_least = within.1;
      at_most = within.2;
    }

-- ---- what is read of a number that there is

pub number_in : (least most : ℕ) (name : Text) (rows : List Row) → HasNumber least most name rows
    → (least ≤ number_under name rows) × (number_under name rows ≤ most)
number_in least most name rows has = rw has.found (has.at_least, has.at_most)

pub number_wider : (least most limit : ℕ) (name : Text) (rows : List Row) → most ≤ limit
    → HasNumber least most name rows → HasNumber 0 limit name rows
number_wider least most limit name rows wider has = record {
  text = has.text;
  found = has.found;
  numeral = has.numeral;
  at_least = omega arith;
  at_most = omega (arith, has.at_most);
}

-- a number of 32 bits is read from a numeral as it is
number_read : {E : Type 0} (G : List ℕ → Result ℕ E → Type 0) (text : Text) (r : Option ℕ)
    → ((u : List ℕ) (x : Result ℕ E) → G u x → ParsesUnsigned 32 10 u x)
    → ReadsOne G text r → IsNumeral 10 (without_leading_plus text) → number_of text < 2 ^ 32 → r ≡ Some (number_of text)
number_read G text None parses (e, gives) numeral fits = absurd (parses text (Err e) gives (numeral, fits))
number_read G text (Some n) parses gives numeral fits = ap Some (parses text (Ok n) gives).1

-- and so the number that the matches hold
pub held_read : {E : Type 0} (G : List ℕ → Result ℕ E → Type 0) (m : ArgMatches) (name : Text) (r : Option ℕ)
    → ((u : List ℕ) (x : Result ℕ E) → G u x → ParsesUnsigned 32 10 u x)
    → ((t : List ℕ) → one_text (found_of m) name ≡ Some t → ReadsOne G t r)
    → HasNumber 0 SEED_LIMIT name (rows_of (found_of m))
    → r ≡ Some (number_under name (rows_of (found_of m)))
held_read G m name r parses reads held =
    let text_is = one_text-rows (found_of m) name ∙ held.found in
    number_read G held.text r parses (reads held.text text_is) held.numeral (omega (arith, held.at_most))
    ∙ ap Some (sym (ap (λ o. option_map_or number_of o 0) held.found))
