-- What the description of a command tells of the command: its arguments, and that none excludes another.
use Rattle.std.proofs.Common.{◌≡◌, ◌⊎◌, ◌∙◌, ◌<◌, ◌≤◌, ◌&&◌, ℕ, Bool, true, false, not, zero, suc, refl, sym, ap}
use Rattle.std.proofs.Common.{subst, inl, inr, arith, List, [], ◌∷◌, map, length, Option, Some, None, is_some, codes}
use Rattle.std.proofs.Common.{true≢false}
use Rattle.std.specs.Prelude.{pos}
use Rattle.std.specs.Borrow.{Bor}
use Rattle.std.specs.List.{All, list_all, slice_index_or}
use Rattle.std.specs.Str.{bytes_eq}
use Rattle.std.proofs.lemmas.Slice.Eq.{bytes_eq-Decides}
use Rattle.std.proofs.lemmas.List.{get_or_default, get_or-map, length-map}
use Rattle.clap.specs.Built.{IsAuto, IsPlain, IsPlainArg}
use Rattle.clap.specs.Facts.{WantsDefault, args_of, least_values, unwrap_or_range}
use Rattle.clap.specs.Simple.{App, app_of}
use Rattle.clap.specs.Walk.{Rule, Text, is_free_arg, is_simple_arg, rule_of, texts}
use Rattle.clap.specs.Texts.{items_of}
use Rattle.clap.specs.declared.builder.action.ArgAction.TheVariants.{Set}
use Rattle.clap.specs.declared.builder.arg.Arg.{Arg}
use Rattle.clap.specs.declared.builder.command.Command.{Command}
use Rattle.clap.specs.declared.builder.command.Command.TheViews.{out-Command}
use Rattle.clap.specs.declared.builder.value_parser.ValueParser.TheVariants.{Signed}
use Rattle.clap.proofs.SimpleLemmas.{is_false, is_nil, plain_fields}
use Rattle.clap.proofs.WalkLemmas.{both}

-- ---- the tests of a description

abbrev pub is_simple_rule : Rule → Bool
is_simple_rule r = r.is_simple

abbrev pub is_free_rule : Rule → Bool
is_free_rule r = r.is_free

-- no argument has a rule on another, and no group or subcommand has one
pub record IsUnruled (app : App) : Type 0 where
  pub plain : app.top.is_plain ≡ true
  pub simple : list_all is_simple_rule app.top.rules ≡ true
  pub free : list_all is_free_rule app.top.rules ≡ true
  pub negates : app.top.subcommand_negates_reqs ≡ false

-- no rule but the one in place k has this id
abbrev pub is_only_at : ℕ → Text → List Rule → Bool
is_only_at k id [] = true
is_only_at zero id (r ∷ rules) = list_all (λ other. not (bytes_eq other.id id)) rules
is_only_at (suc k) id (r ∷ rules) = not (bytes_eq r.id id) && is_only_at k id rules

-- the rule of an option or an argument that takes one number from least to most
pub record IsNumberRule (least most : ℕ) (r : Rule) : Type 0 where
  pub action : r.action ≡ Some Set
  pub range : r.range ≡ None
  pub parser : r.parser ≡ Some (Signed (pos least) (pos most))
  pub simple : r.is_simple ≡ true
  pub named : bytes_eq r.id [] ≡ false
  pub not_help : bytes_eq r.id (codes "help") ≡ false
  pub not_version : bytes_eq r.id (codes "version") ≡ false
  pub given : (r.required ≡ true) ⊎ (0 < length r.defaults)

-- ---- the command

-- a command with these rules, in which no argument excludes another
pub record IsDescribed (c : Command) (rules : List Rule) : Type 0 where
  pub rules_are : map rule_of (args_of c) ≡ rules
  pub plain : IsPlain c
  pub globals : (out-Command c).has_globals ≡ false
  pub negates : (out-Command c).subcommand_negates_reqs ≡ false

plain_arg : (a : Arg) → is_simple_arg a ≡ true → is_free_arg a ≡ true → IsPlainArg a
plain_arg a simple free =
    let overrides = both _ _ simple in
    let ifs = both _ _ overrides.1 in
    let groups = both _ _ ifs.1 in
    let exclusive = both _ _ free in
    let conflicts = both _ _ exclusive.1 in
    (is_false _ exclusive.0, is_nil _ conflicts.0, is_nil _ overrides.0, is_nil _ groups.0)

plain_args : (args : List Arg) → list_all is_simple_rule (map rule_of args) ≡ true
    → list_all is_free_rule (map rule_of args) ≡ true → All IsPlainArg args
plain_args [] simple free k d below = absurd (omega arith)
plain_args (a ∷ args) simple free zero d below = plain_arg a (both _ _ simple).0 (both _ _ free).0
plain_args (a ∷ args) simple free (suc k) d below =
    plain_args args (both _ _ simple).1 (both _ _ free).1 k d (omega arith)

pub described : (c : Command) (app : App) → app_of c ≡ app → IsUnruled app → IsDescribed c app.top.rules
described c app is unruled =
    let rules_are : map rule_of (args_of c) ≡ app.top.rules = ap (λ (a : App). a.top.rules) is in
    let fields = plain_fields c (ap (λ (a : App). a.top.is_plain) is ∙ unruled.plain) in
    let simple = ap (list_all is_simple_rule) rules_are ∙ unruled.simple in
    let free = ap (list_all is_free_rule) rules_are ∙ unruled.free in
    record {
      rules_are = rules_are;
      plain = (plain_args (args_of c) simple free, fields.groups);
      globals = fields.globals;
      negates = ap (λ (a : App). a.top.subcommand_negates_reqs) is ∙ unruled.negates;
    }

-- ---- one argument of it

pub arg_at : (args : List Arg) (rules : List Rule) (k : ℕ) (r : Rule) → map rule_of args ≡ rules → k < length rules
    → slice_index_or rules k r ≡ r
    → (a : Arg) × (k < length args) × (slice_index_or args k a ≡ a) × (rule_of a ≡ r)
arg_at [] rules k r same below at =
    let none : k < length (map rule_of []) = rw (← same) at below in
    absurd (omega arith)
arg_at (x ∷ xs) rules k r same below at =
    let count : length (map rule_of (x ∷ xs)) ≡ length rules = ap length same in
    let in_place : k < length (x ∷ xs) = omega (arith, length-map (x ∷ xs) rule_of) in (
      slice_index_or (x ∷ xs) k x,
      in_place,
      get_or_default (x ∷ xs) k (slice_index_or (x ∷ xs) k x) x in_place,
      sym (get_or-map rule_of (x ∷ xs) k x r in_place) ∙ (ap (λ l. slice_index_or l k r) same ∙ at),
    )

none_named : (args : List Arg) (id : Text) (j : ℕ) (e : Arg)
    → list_all (λ (other : Rule). not (bytes_eq other.id id)) (map rule_of args) ≡ true
    → j < length args → bytes_eq (slice_index_or args j e).id.now id ≡ true → ⊥
none_named [] id j e others below same = absurd (omega arith)
none_named (a ∷ args) id zero e others below same = true≢false (sym same ∙ is_false _ (both _ _ others).0)
none_named (a ∷ args) id (suc j) e others below same = none_named args id j e (both _ _ others).1 (omega arith) same

pub only_place : (args : List Arg) (k j : ℕ) (e : Arg) (id : Text) → is_only_at k id (map rule_of args) ≡ true
    → j < length args → bytes_eq (slice_index_or args j e).id.now id ≡ true → j ≡ k
only_place [] k j e id only below same = absurd (omega arith)
only_place (a ∷ args) zero zero e id only below same = refl
only_place (a ∷ args) zero (suc j) e id only below same = absurd (none_named args id j e only (omega arith) same)
only_place (a ∷ args) (suc k) zero e id only below same =
    absurd (true≢false (sym same ∙ is_false _ (both _ _ only).0))
only_place (a ∷ args) (suc k) (suc j) e id only below same =
    ap suc (only_place args k j e id (both _ _ only).1 (omega arith) same)

-- an argument that takes one number from least to most, where it was given one or has one by default
pub record IsNumberArg (least most : ℕ) (a : Arg) : Type 0 where
  pub action : a.action ≡ Some Set
  pub delimiter : a.val_delim ≡ None
  pub values : 1 ≤ least_values a
  pub parser : a.value_parser ≡ Some (Signed (pos least) (pos most))
  pub named : a.id.now ≡ [] → ⊥
  pub own : IsAuto a → ⊥
  pub given : (a.required ≡ true) ⊎ WantsDefault a

count_of_texts : (xs : List (Bor Text)) → 0 < length (texts xs) → 0 < length xs
count_of_texts [] some = some
count_of_texts (x ∷ xs) some = omega arith

no_delimiter : (o : Option ℕ) → not (is_some o) ≡ true → o ≡ None
no_delimiter None e = refl
no_delimiter (Some x) e = absurd (true≢false (sym e))

simple_fields : (a : Arg) → is_simple_arg a ≡ true → (a.default_vals_ifs.items ≡ []) × (a.val_delim ≡ None)
simple_fields a simple =
    let ifs = both _ _ (both _ _ simple).1 in
    let delimiter = both _ _ (both _ _ ifs.1).1 in
    (is_nil _ ifs.0, no_delimiter _ delimiter.0)

differs : (a b : Text) → bytes_eq a b ≡ false → a ≡ b → ⊥
differs a b apart same = true≢false (sym ((bytes_eq-Decides a b).1 same) ∙ apart)

-- the argument of a rule for a number, where it is required or has a default
pub number_arg : (least most : ℕ) (r : Rule) (a : Arg) → rule_of a ≡ r → IsNumberRule least most r
    → IsNumberArg least most a
number_arg least most r a is rule =
    let id_is : a.id.now ≡ r.id = ap (λ (r : Rule). r.id) is in
    let defaults_are : texts (items_of a.default_vals) ≡ r.defaults = ap (λ (r : Rule). r.defaults) is in
    let range_is : a.num_vals ≡ None = ap (λ (r : Rule). r.range) is ∙ rule.range in
    let simple = simple_fields a (ap (λ (r : Rule). r.is_simple) is ∙ rule.simple) in
    record {
      action = ap (λ (r : Rule). r.action) is ∙ rule.action;
      delimiter = simple.1;
      values = subst (λ range. 1 ≤ (unwrap_or_range range).start_inclusive) (sym range_is) (omega arith);
      parser = ap (λ (r : Rule). r.parser) is ∙ rule.parser;
      named = λ empty. differs r.id [] rule.named (sym id_is ∙ empty);
      own = λ auto. elim auto [
        | inl help ↦ differs r.id (codes "help") rule.not_help (sym id_is ∙ help)
        | inr version ↦ differs r.id (codes "version") rule.not_version (sym id_is ∙ version)
      ];
      given = elim rule.given [
        | inl required ↦ inl (ap (λ (r : Rule). r.required) is ∙ required)
        | inr defaults ↦ inr (simple.0, count_of_texts (items_of a.default_vals) (rw defaults_are defaults))
      ];
    }
