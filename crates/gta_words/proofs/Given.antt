-- The numbers that each of our commands holds where the words have no fault.
use Rattle.std.proofs.Common.{◌≡◌, ◌∙◌, ℕ, false, refl, sym, ap, inl, inr, arith, List, [], Some, None, codes}
use Rattle.std.proofs.Common.{if◌then◌else◌}
use Rattle.std.specs.Str.{bytes_eq}
use Rattle.clap.specs.Built.{IsParsedFrom}
use Rattle.clap.specs.Matches.{found_of}
use Rattle.clap.specs.Simple.{App, app_of, matches_of}
use Rattle.clap.specs.Faults.{fault_of}
use Rattle.clap.specs.Walk.{Row, Text, is_empty, rows_of}
use Rattle.clap.specs.declared.builder.command.Command.{Command as Parser}
use Rattle.clap.specs.declared.parser.matches.ArgMatches.{ArgMatches}
use Rattle.gta_words.specs.Commands.{drill_app, leaf_option, number_argument, number_option, rows_argument, run_app}
use Rattle.gta_words.specs.Commands.{seed_argument, workers_option}
use Rattle.gta_words.specs.Reading.{HasNumber}
use Rattle.gta_words.specs.Words.{taken}
use Rattle.gta_words.specs.declared.words.Command.{Command}
use Rattle.gta_words.specs.declared.words.TheConstants.{LEAF_LIMIT, DRILL_LIMIT, SEED_LIMIT, WORKER_LIMIT}
use Rattle.gta_words.proofs.Described.{IsNumberRule, IsUnruled}
use Rattle.gta_words.proofs.Numbers.{number_given}

option_rule : (name : Text) (least most default : ℕ) → bytes_eq name [] ≡ false → bytes_eq name (codes "help") ≡ false
    → bytes_eq name (codes "version") ≡ false → IsNumberRule least most (number_option name least most default)
option_rule name least most default named not_help not_version = record {
  action = refl;
  range = refl;
  parser = refl;
  simple = refl;
  named = named;
  not_help = not_help;
  not_version = not_version;
  given = inr (omega arith);
}

argument_rule : (name : Text) (least most : ℕ) → bytes_eq name [] ≡ false → bytes_eq name (codes "help") ≡ false
    → bytes_eq name (codes "version") ≡ false → IsNumberRule least most (number_argument name least most)
argument_rule name least most named not_help not_version = record {
  action = refl;
  range = refl;
  parser = refl;
  simple = refl;
  named = named;
  not_help = not_help;
  not_version = not_version;
  given = inl refl;
}

run_unruled : IsUnruled run_app
run_unruled = record { plain = refl; simple = refl; free = refl; negates = refl }

drill_unruled : IsUnruled drill_app
drill_unruled = record { plain = refl; simple = refl; free = refl; negates = refl }

workers_rule : IsNumberRule 1 WORKER_LIMIT workers_option
workers_rule = option_rule _ _ _ _ refl refl refl

leaf_rule : IsNumberRule 1 LEAF_LIMIT leaf_option
leaf_rule = option_rule _ _ _ _ refl refl refl

seed_rule : IsNumberRule 0 SEED_LIMIT seed_argument
seed_rule = argument_rule _ _ _ refl refl refl

rows_rule : IsNumberRule 1 DRILL_LIMIT rows_argument
rows_rule = argument_rule _ _ _ refl refl refl

-- the matches hold both options
pub record HasOptions (rows : List Row) : Type 0 where
  pub workers : HasNumber 1 WORKER_LIMIT (codes "workers") rows
  pub leaf : HasNumber 1 LEAF_LIMIT (codes "leaf") rows

-- and the matches of a drill the two arguments
pub record HasDrill (rows : List Row) : Type 0 where
  pub seed : HasNumber 0 SEED_LIMIT (codes "SEED") rows
  pub rows_there : HasNumber 1 DRILL_LIMIT (codes "ROWS") rows
  pub options : HasOptions rows

module _ (c : Parser) (m : ArgMatches) (parsed : IsParsedFrom c m) where
  pub run_numbers : app_of c ≡ run_app → HasOptions (rows_of (found_of m))
  run_numbers is = record {
    workers = number_given c m run_app 0 _ _ _ parsed is run_unruled (omega arith) refl refl workers_rule;
    leaf = number_given c m run_app 1 _ _ _ parsed is run_unruled (omega arith) refl refl leaf_rule;
  }

  pub drill_numbers : app_of c ≡ drill_app → HasDrill (rows_of (found_of m))
  drill_numbers is = record {
    seed = number_given c m drill_app 2 _ _ _ parsed is drill_unruled (omega arith) refl refl seed_rule;
    rows_there = number_given c m drill_app 3 _ _ _ parsed is drill_unruled (omega arith) refl refl rows_rule;
    options = record {
      workers = number_given c m drill_app 0 _ _ _ parsed is drill_unruled (omega arith) refl refl workers_rule;
      leaf = number_given c m drill_app 1 _ _ _ parsed is drill_unruled (omega arith) refl refl leaf_rule;
    };
  }

-- a command by the matches of words without a fault is the command that they give
pub taken_by : (c : Parser) (app : App) (by : List Row → Command) (words : List Text) (rows : List Row)
    (command : Command)
    → app_of c ≡ app → fault_of (app_of c) words ≡ [] → rows ≡ matches_of (app_of c) words → by rows ≡ command
    → taken app by words ≡ Some command
taken_by c app by words rows command is none same made =
    ap (λ a. taken a by words) (sym is)
    ∙ (ap (λ kinds. if is_empty kinds then Some (by (matches_of (app_of c) words)) else None) none
    ∙ (ap (λ found. Some (by found)) (sym same) ∙ ap Some made))
