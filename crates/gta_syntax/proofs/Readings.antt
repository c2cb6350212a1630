-- The specification and the refusals, read from left to right and said by whole lines, are the same.
use Rattle.std.proofs.Common.{◌≡◌, ℕ, true, false, cond, ◌||◌, List, [], ◌∷◌, refl, sym, subst, ◌∙◌, rules, ◌≢◌}
use Rattle.std.specs.Prelude.{Option, Some, None, Result, Ok, Err, IfOk, IsErrOf}
use Rattle.std.specs.List.{list_any}
use Rattle.outcome_kit.specs.Outcome.{Carries, Tells}
use Rattle.gta_text.specs.Text.{Numbered, Found, BadByte, read_lines}
use Rattle.gta_syntax.specs.declared.fault.SpecFault.{SpecFault}
use Rattle.gta_syntax.specs.declared.fault.SpecFault.TheVariants.{Byte, Version, Grammar, Number, NoRows, Memory}
use Rattle.gta_spec.specs.Parts.{KindTree, PartTree, SpecTree, spec_tree}
use Rattle.gta_syntax.specs.declared.reading.Read.{Read}
use Rattle.gta_spec.specs.Symbols.{symbols}
use Rattle.gta_spec.specs.Grammar.{IsPart}
use Rattle.gta_syntax.specs.Rules.{part_at}
use Rattle.gta_spec.specs.SpecText.{version_in, has_past, AreParts, none, some, SpecText}
use Rattle.gta_syntax.specs.Refusals.{ReadTree, fault_in, first_past, parts_from, read_tree, spec_of, the_part}
use Rattle.gta_syntax.specs.Refusals.{with_lines, with_numbers, with_part, with_parts, with_rows}
use Rattle.gta_syntax.specs.Refusals.{with_text, with_version}
use Rattle.gta_syntax.specs.Refused.{IsFirstOutside, IsFirstPast, IsRefused}
use Rattle.gta_syntax.specs.ByGrammar.{GivesTexts, GivesRefusals}
use Rattle.gta_spec.specs.WellFormed.{IsWellFormed}
use Rattle.gta_spec.proofs.WellRead.{is_well_formed}
use Rattle.gta_syntax.proofs.Sound.{part_takes}
use Rattle.gta_syntax.proofs.Complete.{part_again}
use Rattle.gta_syntax.proofs.PartLoops.{past_here, past_later}

-- parts

pub parts_again : {version : ℕ} {source : List ℕ} {lines : List Numbered} {parts : List PartTree}
    → AreParts version source lines parts
    → parts_from version source lines ≡ Ok parts
unfolding parts_from
parts_again none = refl
parts_again (some d ds) = rw (part_again d, parts_again ds) refl

not_read : (version : ℕ) (source : List ℕ) (line : Numbered)
    → ((kind : KindTree) → IsPart version kind (symbols version source line.tokens) → ⊥)
    → part_at version (symbols version source line.tokens) ≡ None
not_read version source line off = elim (part_at version (symbols version source line.tokens)) as
    (λ read. part_at version (symbols version source line.tokens) ≡ read → read ≡ None) [
      | None ↦ (λ e. refl)
      | Some kind ↦
          (λ e. absurd (off kind ((part_takes version (symbols version source line.tokens)).holds kind e)))
    ] refl

outside_again : {version : ℕ} {source : List ℕ} {lines : List Numbered} {n : ℕ} → IsFirstOutside version source lines n
    → parts_from version source lines ≡ Err (Grammar n)
unfolding parts_from
outside_again {version = version} {source = source} (IsFirstOutside.here {line = line} off) = rw
    (not_read version source line off) refl
outside_again (IsFirstOutside.later d more) = rw (part_again d, outside_again more) refl

-- what the parts of some lines are, by what reading them gives
abbrev Reads : ℕ → List ℕ → List Numbered → Result (List PartTree) SpecFault → Type 0
Reads version source lines (Ok parts) = AreParts version source lines parts
Reads version source lines (Err (Byte l p)) = ⊥
Reads version source lines (Err (Version l)) = ⊥
Reads version source lines (Err (Grammar n)) = IsFirstOutside version source lines n
Reads version source lines (Err (Number n)) = ⊥
Reads version source lines (Err NoRows) = ⊥
Reads version source lines (Err Memory) = ⊥

reads_more : (version : ℕ) (source : List ℕ) (line : Numbered) (lines : List Numbered) (kind : KindTree)
    → IsPart version kind (symbols version source line.tokens)
    → (rest : Result (List PartTree) SpecFault) → Reads version source lines rest
    → Reads version source (line ∷ lines) (with_part (the_part line.number (Some kind)) rest)
reads_more version source line lines kind d (Ok parts) ds = some d ds
reads_more version source line lines kind d (Err (Byte l p)) ds = ds
reads_more version source line lines kind d (Err (Version l)) ds = ds
reads_more version source line lines kind d (Err (Grammar n)) ds = IsFirstOutside.later d ds
reads_more version source line lines kind d (Err (Number n)) ds = ds
reads_more version source line lines kind d (Err NoRows) ds = ds
reads_more version source line lines kind d (Err Memory) ds = ds

reads_line : (version : ℕ) (source : List ℕ) (line : Numbered) (lines : List Numbered) (read : Option KindTree)
    → part_at version (symbols version source line.tokens) ≡ read
    → (rest : Result (List PartTree) SpecFault) → Reads version source lines rest
    → Reads version source (line ∷ lines) (with_part (the_part line.number read) rest)
reads_line version source line lines None is rest ds = IsFirstOutside.here
    (λ kind d. let e : Some kind ≡ None = sym (part_again d) ∙ is in absurd cc)
reads_line version source line lines (Some kind) is rest ds = reads_more version source line lines kind
    ((part_takes version (symbols version source line.tokens)).holds kind is) rest ds

reads : (version : ℕ) (source : List ℕ) (lines : List Numbered)
    → Reads version source lines (parts_from version source lines)
unfolding parts_from
reads version source [] = none
reads version source (line ∷ lines) = reads_line version source line lines
    (part_at version (symbols version source line.tokens)) refl
    (parts_from version source lines) (reads version source lines)

-- numbers

past_again : {version : ℕ} {source : List ℕ} {lines : List Numbered} {n : ℕ} → IsFirstPast version source lines n
    → first_past version source lines ≡ Some n
past_again (IsFirstPast.here on) = past_here _ _ _ _ on
past_again (IsFirstPast.later off more) = past_later _ _ _ _ off ∙ past_again more

none_past_again : (version : ℕ) (source : List ℕ) (lines : List Numbered)
    → list_any (λ line. has_past version source line.tokens) lines ≡ false → first_past version source lines ≡ None
unfolding first_past
none_past_again version source [] off = refl
none_past_again version source (line ∷ lines) off = elim (has_past version source line.tokens) as
    (λ b. (b || list_any (λ line. has_past version source line.tokens) lines) ≡ false
    → cond b (Some line.number) (first_past version source lines) ≡ None)
    [ true ↦ (λ e. absurd cc) | false ↦ (λ e. none_past_again version source lines e) ] off

-- what the numbers of some lines are, by what looking for one past the bound gives
abbrev Past : ℕ → List ℕ → List Numbered → Option ℕ → Type 0
Past version source lines None = list_any (λ line. has_past version source line.tokens) lines ≡ false
Past version source lines (Some n) = IsFirstPast version source lines n

past_line : (version : ℕ) (source : List ℕ) (line : Numbered) (lines : List Numbered)
    → has_past version source line.tokens ≡ false
    → (rest : Option ℕ) → Past version source lines rest → Past version source (line ∷ lines) rest
past_line version source line lines off None p = rw off p
past_line version source line lines off (Some n) p = IsFirstPast.later off p

past : (version : ℕ) (source : List ℕ) (lines : List Numbered)
    → Past version source lines (first_past version source lines)
unfolding first_past
past version source [] = refl
past version source (line ∷ lines) = elim (has_past version source line.tokens) as
    (λ b. has_past version source line.tokens ≡ b
    → Past version source (line ∷ lines) (cond b (Some line.number) (first_past version source lines))) [
      | true ↦ (λ e. IsFirstPast.here e)
      | false ↦
          (λ e. past_line version source line lines e (first_past version source lines) (past version source lines))
    ] refl

-- the whole

pub spec_again : {bytes : List ℕ} {spec : SpecTree} {place : ℕ} → SpecText bytes spec place
    → spec_of bytes ≡ Ok (record { spec = spec; rows_at = place })
unfolding spec_of
spec_again {bytes = bytes} {spec = spec} {place = place} text =
    rw (text.lines, text.version, parts_again text.parts, none_past_again spec.version bytes text.others text.numbers)
    refl

pub refused_again : {bytes : List ℕ} {fault : SpecFault} → IsRefused bytes fault → spec_of bytes ≡ Err fault
unfolding spec_of
refused_again (IsRefused.byte e) = rw e refl
refused_again (IsRefused.no_line e) = rw e refl
refused_again (IsRefused.version e off) = rw (e, off) refl
refused_again (IsRefused.grammar e on more) = rw (e, on, outside_again more) refl
refused_again (IsRefused.number e on ds more) = rw (e, on, parts_again ds, past_again more) refl
refused_again {bytes = bytes} (IsRefused.no_rows {others = others} {version = version} e on ds off) = rw
    (e, on, parts_again ds, none_past_again version bytes others off) refl

-- what an answer says of the bytes
abbrev pub Says : List ℕ → Result ReadTree SpecFault → Type 0
Says bytes (Ok read) = SpecText bytes read.spec read.rows_at
Says bytes (Err fault) = IsRefused bytes fault

module _ (bytes : List ℕ) (first : Numbered) (others : List Numbered) (rows : Option ℕ)
    (lines : read_lines bytes ≡ Ok (record { lines = first ∷ others; rows_at = rows })) where
  says_numbers : (version : ℕ) → version_in bytes first.tokens ≡ Some version → (parts : List PartTree)
      → AreParts version bytes others parts → (read : Option ℕ) → Past version bytes others read
      → Says bytes (with_numbers read (record { version = version; parts = parts }) rows)
  says_numbers version on parts ds (Some n) p = IsRefused.number lines on ds p
  says_numbers version on parts ds None p = says_rows rows refl
    where
      says_rows : (place : Option ℕ) → rows ≡ place
          → Says bytes (with_rows (record { version = version; parts = parts }) place)
      says_rows None is = IsRefused.no_rows (rw is at lines) on ds p
      says_rows (Some place) is = record {
        first = first;
        others = others;
        lines = rw is at lines;
        version = on;
        parts = ds;
        numbers = p;
      }

  says_parts : (version : ℕ) → version_in bytes first.tokens ≡ Some version
      → (read : Result (List PartTree) SpecFault) → Reads version bytes others read
      → Says bytes (with_parts version bytes others rows read)
  says_parts version on (Ok parts) ds = says_numbers version on parts ds (first_past version bytes others)
      (past version bytes others)
  says_parts version on (Err (Byte l p)) ds = absurd ds
  says_parts version on (Err (Version l)) ds = absurd ds
  says_parts version on (Err (Grammar n)) ds = IsRefused.grammar lines on ds
  says_parts version on (Err (Number n)) ds = absurd ds
  says_parts version on (Err NoRows) ds = absurd ds
  says_parts version on (Err Memory) ds = absurd ds

  says_version : (named : Option ℕ) → version_in bytes first.tokens ≡ named
      → Says bytes (with_version bytes first.number others rows named)
  says_version None off = IsRefused.version lines off
  says_version (Some version) on = says_parts version on (parts_from version bytes others) (reads version bytes others)

says_lines : (bytes : List ℕ) (lines : List Numbered) (rows : Option ℕ)
    → read_lines bytes ≡ Ok (record { lines = lines; rows_at = rows }) → Says bytes (with_lines bytes lines rows)
says_lines bytes [] rows e = IsRefused.no_line e
says_lines bytes (first ∷ others) rows e = says_version bytes first others rows e
    (version_in bytes first.tokens) refl

says_text : (bytes : List ℕ) (read : Result Found BadByte) → read_lines bytes ≡ read → Says bytes (with_text bytes read)
says_text bytes (Err bad) e = IsRefused.byte e
says_text bytes (Ok found) e = says_lines bytes found.lines found.rows_at e

pub says : (bytes : List ℕ) → Says bytes (spec_of bytes)
unfolding spec_of
says bytes = says_text bytes (read_lines bytes) refl

read_as : (bytes : List ℕ) (spec : SpecTree) (place : ℕ)
    → spec_of bytes ≡ Ok (record { spec = spec; rows_at = place }) → SpecText bytes spec place
read_as bytes spec place e = let P : Result ReadTree SpecFault → Type 0 = Says bytes in subst P e (says bytes)

refused_as : (bytes : List ℕ) (fault : SpecFault) → spec_of bytes ≡ Err fault → IsRefused bytes fault
refused_as bytes fault e = let P : Result ReadTree SpecFault → Type 0 = Says bytes in subst P e (says bytes)

pub gives_texts : GivesTexts
gives_texts bytes spec place = (read_as bytes spec place, spec_again)

pub gives_refusals : GivesRefusals
gives_refusals bytes fault = (refused_as bytes fault, refused_again)

-- what was answered

pub found : (bytes : List ℕ) (result : Result Read SpecFault) → Tells fault_in read_tree (spec_of bytes) result
    → IfOk result (λ read. SpecText bytes (spec_tree read.spec) read.rows_at)
found bytes (Ok read) e = read_as bytes (spec_tree read.spec) read.rows_at e
found bytes (Err fault) e = search rules

pub fits : (bytes : List ℕ) (result : Result Read SpecFault) → Tells fault_in read_tree (spec_of bytes) result
    → IfOk result (λ read. IsWellFormed (spec_tree read.spec))
fits bytes (Ok read) e = is_well_formed bytes (spec_tree read.spec) read.rows_at (found bytes (Ok read) e)
fits bytes (Err fault) e = search rules

refused_by : (bytes : List ℕ) (fault : SpecFault) → Carries (spec_of bytes) (fault_in fault) → fault ≢ Memory
    → IsRefused bytes fault
refused_by bytes (Byte l p) e other = refused_as bytes _ e
refused_by bytes (Version l) e other = refused_as bytes _ e
refused_by bytes (Grammar l) e other = refused_as bytes _ e
refused_by bytes (Number l) e other = refused_as bytes _ e
refused_by bytes NoRows e other = refused_as bytes _ e
refused_by bytes Memory e other = absurd (other refl)

pub refused : (bytes : List ℕ) (result : Result Read SpecFault) → Tells fault_in read_tree (spec_of bytes) result
    → (fault : SpecFault) → IsErrOf result fault → fault ≢ Memory → IsRefused bytes fault
refused bytes result e fault is other =
    let P : Result Read SpecFault → Type 0 = λ r. Tells fault_in read_tree (spec_of bytes) r in
    refused_by bytes fault (subst P is e) other

pub only : (bytes : List ℕ) (result : Result Read SpecFault) → Tells fault_in read_tree (spec_of bytes) result
    → (spec : SpecTree) (place : ℕ) → SpecText bytes spec place
    → Tells fault_in read_tree (Ok (record { spec = spec; rows_at = place })) result
only bytes result e spec place text =
    let P : Result ReadTree SpecFault → Type 0 = λ r. Tells fault_in read_tree r result in
    subst P (spec_again text) e

pub refuses : (bytes : List ℕ) (result : Result Read SpecFault) → Tells fault_in read_tree (spec_of bytes) result
    → (fault : SpecFault) → IsRefused bytes fault
    → Tells fault_in read_tree (Err fault) result
refuses bytes result e fault stands =
    let P : Result ReadTree SpecFault → Type 0 = λ r. Tells fault_in read_tree r result in
    subst P (refused_again stands) e
