-- What a parse that found no fault holds for an argument that takes one number: a text that its parser accepted.
use Rattle.std.proofs.Common.{◌≡◌, ◌⊎◌, ◌∙◌, ◌<◌, ◌≤◌, ℕ, Bool, true, false, zero, suc, refl, sym, ap, subst, inl}
use Rattle.std.proofs.Common.{inr, arith, List, [], ◌∷◌, length, Option, Some, None, is_some, true≢false, option_map}
use Rattle.std.specs.Prelude.{pos, find, slice_get}
use Rattle.std.specs.Borrow.{Bor}
use Rattle.std.specs.List.{All, slice_index_or}
use Rattle.std.specs.Str.{bytes_eq}
use Rattle.std.proofs.lemmas.List.Elements.{All-get_or}
use Rattle.std.proofs.lemmas.Slice.Eq.{bytes_eq-Decides}
use Rattle.clap.specs.Built.{IsAuto, IsParsedFrom, SameRules}
use Rattle.clap.specs.Facts.{AllowsNone, Entry, EntryPasses, HasIn, HasReading, IsCountArg, PassesArg, args_of}
use Rattle.clap.specs.Facts.{groups_of, least_values, parser_of, parser_of_value}
use Rattle.clap.specs.Matches.{found_of, matched_of, one_text}
use Rattle.clap.specs.Values.{Accepts, IsSignedIn, reading_of}
use Rattle.clap.specs.Lexer.{without_minus}
use Rattle.clap.specs.Walk.{Rule, Text}
use Rattle.clap.specs.declared.builder.action.ArgAction.TheVariants.{Count, Set}
use Rattle.clap.specs.declared.builder.arg.Arg.{Arg}
use Rattle.clap.specs.declared.builder.command.Command.{Command}
use Rattle.clap.specs.declared.builder.value_parser.Reading.{Reading}
use Rattle.clap.specs.declared.builder.value_parser.Reading.TheVariants.{WithoutMinus}
use Rattle.clap.specs.declared.builder.value_parser.ValueParser.{ValueParser}
use Rattle.clap.specs.declared.builder.value_parser.ValueParser.TheVariants.{Signed}
use Rattle.clap.specs.declared.parser.matches.ArgMatches.{ArgMatches}
use Rattle.clap.specs.declared.parser.matches.Found.{Found}
use Rattle.clap.specs.declared.parser.matches.MatchedArg.{MatchedArg}
use Rattle.clap.proofs.CallerLemmas.{default_present, entry_by_id, present_has_entry, required_present}
use Rattle.clap.proofs.CallerLemmas.{same_rules_by_id}
use Rattle.gta_words.proofs.Described.{IsDescribed, IsNumberArg, is_only_at, only_place}

-- ---- of any command and any entry

-- what an entry of this id has: a first text in the bounds, which is read without its minus
abbrev pub HasText : ℕ → ℕ → MatchedArg → Type 0
HasText least most x = (v : Bor Text) × (slice_get x.vals.items 0 ≡ Some v) × (x.reading ≡ WithoutMinus)
    × IsSignedIn (pos least) (pos most) v.now

-- what the matches hold under an id: a text in the bounds, read without its minus
abbrev pub HoldsText : ℕ → ℕ → Found → Text → Type 0
HoldsText least most f id = (v : Text) × (one_text f id ≡ Some (without_minus v)) × IsSignedIn (pos least) (pos most) v

-- the entry has a value, or an argument of its id counts, or may go without
abbrev pub IsFilled : Command → MatchedArg → Text → Type 0
IsFilled c x id = (0 < length x.vals.items)
    ⊎ (((is_some x.count ≡ true) × IsCountArg c id) ⊎ AllowsNone c id)

-- each argument of a command with the id of a keeps the rules of a
abbrev pub KeepsRules : Command → Arg → Type 0
KeepsRules c a = (j : ℕ) (x : Arg) → j < length (args_of c) → slice_index_or (args_of c) j x ≡ x
    → bytes_eq x.id.now a.id.now ≡ true → SameRules a x

parser_kept : (least most : ℕ) (a x : Arg) → IsNumberArg least most a → SameRules a x
    → parser_of x ≡ Signed (pos least) (pos most)
parser_kept least most a x number same = ap parser_of_value (same.parser _ number.parser)

module _ (least most : ℕ) (c : Command) (a : Arg) (number : IsNumberArg least most a) (keeps : KeepsRules c a) where
  passed_text : (v : Text) → PassesArg c a.id.now v → IsSignedIn (pos least) (pos most) v
  passed_text v passes =
      let same = keeps passes.0 passes.1 passes.2 passes.3 passes.4.0 in
      subst (λ (q : ValueParser). Accepts passes.1.ignore_case q v) (parser_kept least most a passes.1 number same)
      passes.4.1

  reading_is : (how : Reading) → HasReading c a.id.now how → how ≡ WithoutMinus
  reading_is how reads =
      let same = keeps reads.0 reads.1 reads.2 reads.3 reads.4.0 in
      sym reads.4.1 ∙ ap reading_of (parser_kept least most a reads.1 number same)

  first_text : (x : MatchedArg) (vs : List (Bor Text)) → x.vals.items ≡ vs → 0 < length vs
      → All (λ v. PassesArg c a.id.now v.now) vs → x.reading ≡ WithoutMinus → HasText least most x
  first_text x [] is some passes reading = absurd (omega arith)
  first_text x (v ∷ vs) is some passes reading =
      let first = All-get_or (λ (w : Bor Text). PassesArg c a.id.now w.now) (v ∷ vs) 0 v (omega arith) passes in
      (v, rw is refl, reading, passed_text v.now first)

  -- no use of it counts, and none goes without a value
  some_value : (x : MatchedArg) → IsFilled c x a.id.now → 0 < length x.vals.items
  some_value x (inl some) = some
  some_value x (inr (inl counts)) =
      let any = counts.1 in
      let same = keeps any.0 any.1 any.2 any.3 any.4.0 in
      let is_set : any.1.action ≡ Some Set = same.action Set number.action in
      let bad : Set ≡ Count = rw is_set at any.4.1 in
      cc
  some_value x (inr (inr none)) =
      let same = keeps none.0 none.1 none.2 none.3 none.4.0 in
      let least_kept : 1 ≤ least_values none.1 = same.least number.action number.values in
      let whole : none.1.val_delim ≡ None = same.val_delim ∙ number.delimiter in
      elim none.4.1 [
        | inl no_values ↦ absurd (omega arith)
        | inr cut ↦ let bad : false ≡ true = rw whole at cut in cc
      ]

  entry_text : (e : Entry) → groups_of c ≡ [] → e.0.now ≡ a.id.now → EntryPasses c e → HasText least most e.1
  entry_text e no_groups id_is passes =
      let no_group : e.1.is_group ≡ true → ⊥ = λ group. elim (passes.3 group) [
        | inl empty ↦ number.named (sym id_is ∙ empty)
        | inr some ↦ let none : 0 < 0 = rw no_groups at some in omega arith
      ] in
      let all : All (λ v. PassesArg c a.id.now v.now) e.1.vals.items = elim passes.0 [
        | inl group ↦ absurd (no_group group)
        | inr all ↦ subst (λ (id : Text). All (λ v. PassesArg c id v.now) e.1.vals.items) id_is all
      ] in
      let reading : e.1.reading ≡ WithoutMinus = elim passes.4 [
        | inl group ↦ absurd (no_group group)
        | inr reads ↦ reading_is e.1.reading (subst (λ (id : Text). HasReading c id e.1.reading) id_is reads)
      ] in
      let filled : IsFilled c e.1 a.id.now = elim passes.1 [
        | inl group ↦ absurd (no_group group.0)
        | inr filled ↦ subst (IsFilled c e.1) id_is filled
      ] in
      first_text e.1 e.1.vals.items refl (some_value e.1 filled) all reading

has_matched : (xs : List Entry) (id : Text) → HasIn xs id
    → is_some (option_map (λ e. e.1) (find (λ e. bytes_eq e.0.now id) xs)) ≡ true
has_matched [] id has = absurd (omega (arith, has.1))
has_matched (x ∷ xs) id has = go (bytes_eq x.0.now id) refl has (has_matched xs id)
  where
    go : (same : Bool) → bytes_eq x.0.now id ≡ same → HasIn (x ∷ xs) id
        → (HasIn xs id → is_some (option_map (λ e. e.1) (find (λ e. bytes_eq e.0.now id) xs)) ≡ true)
        → is_some (option_map (λ e. e.1) (find (λ e. bytes_eq e.0.now id) (x ∷ xs))) ≡ true
    go true is has rest = rw is refl
    go false is (zero, below, named) rest = absurd (true≢false (sym (named x) ∙ is))
    go false is (suc i, below, named) rest = rw is (rest (i, omega arith, named))

text_read : (least most : ℕ) (f : Found) (id : Text) (x : MatchedArg) → matched_of f id ≡ Some x → HasText least most x
    → HoldsText least most f id
text_read least most f id x is text = (text.0.now, rw (is, text.1, text.2) refl, text.3)

-- ---- of the command that the words were read by

-- the text of the option or argument in place k, whose id no other has
module _ (least most : ℕ) (old : Command) (m : ArgMatches) (p : IsParsedFrom old m)
    (rules : List Rule) (described : IsDescribed old rules)
    (k : ℕ) (a : Arg) (below : k < length (args_of old)) (at : slice_index_or (args_of old) k a ≡ a)
    (only : is_only_at k a.id.now rules ≡ true) (number : IsNumberArg least most a) where
  kept_here : KeepsRules p.built a
  kept_here j x high there same =
      let alone = λ (i : ℕ) (e : Arg) (low : i < length (args_of old))
      (named : bytes_eq (slice_index_or (args_of old) i e).id.now (slice_index_or (args_of old) k a).id.now ≡ true).
      only_place (args_of old) k i e a.id.now (rw described.rules_are only) low (rw at at named) in
      let own = subst (λ y. IsAuto y → ⊥) (sym at) number.own in
      subst (λ y. SameRules y x) at (same_rules_by_id old m p k a below alone own j x high there (rw at same))

  has_entry : is_some (matched_of (found_of m) a.id.now) ≡ true
  has_entry = elim number.given [
    | inl required ↦
        let used = required_present old m p described.plain described.globals described.negates k a below
        (rw at required) in
        present_has_entry (found_of m) a.id.now (rw at at used)
    | inr default ↦
        has_matched (found_of m).entries.items a.id.now
        (rw at at (default_present old m p described.globals k a below (rw at default)))
  ]

  pub one_signed : HoldsText least most (found_of m) a.id.now
  one_signed = go (matched_of (found_of m) a.id.now) refl has_entry
    where
      go : (o : Option MatchedArg) → matched_of (found_of m) a.id.now ≡ o
          → is_some (matched_of (found_of m) a.id.now) ≡ true → HoldsText least most (found_of m) a.id.now
      go None is some = let bad : false ≡ true = rw is at some in cc
      go (Some x) is some =
          let parsed = p.parsed (p.from.globals ∙ described.globals) in
          let entry = entry_by_id (EntryPasses p.built) (found_of m).entries.items a.id.now x parsed.values is in
          let no_groups = (p.from.plain described.plain).1 in
          let id_is = (bytes_eq-Decides entry.0.0.now a.id.now).0 entry.2 in
          let text = entry_text least most p.built a number kept_here entry.0 no_groups id_is entry.3 in
          text_read least most (found_of m) a.id.now x is (subst (HasText least most) entry.1 text)
