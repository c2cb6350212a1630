-- What each command takes after its name, as `clap` describes commands.
-- An option is written `--NAME N` or `--NAME=N`. An argument is known by its place.
use Rattle.std.specs.Prelude.{ℕ, [], ◌∷◌, Some, true, pos, codes}
use Rattle.std.specs.Fmt.{decimal}
use Rattle.clap.specs.Words.{App, Rule, Text, new_app, new_rule, with_rule}
use Rattle.clap.specs.Simple.{on_top}
use Rattle.clap.specs.declared.builder.action.ArgAction.TheVariants.{Set}
use Rattle.clap.specs.declared.builder.value_parser.ValueParser.TheVariants.{Signed}
use Rattle.gta_words.specs.declared.words.TheConstants.{WORKERS, LEAF, WORKER_LIMIT, LEAF_LIMIT}
use Rattle.gta_words.specs.declared.words.TheConstants.{DRILL_LIMIT, SEED_LIMIT}

-- the option of this name: a number from least to most, which is default where the words have none
abbrev pub number_option : Text → ℕ → ℕ → ℕ → Rule
number_option name least most default = record (new_rule name) {
  long = Some name;
  action = Some Set;
  parser = Some (Signed (pos least) (pos most));
  defaults = decimal default ∷ [];
}

-- a required argument, a number from least to most
abbrev pub number_argument : Text → ℕ → ℕ → Rule
number_argument name least most = record (new_rule name) {
  action = Some Set;
  parser = Some (Signed (pos least) (pos most));
  required = true;
}

-- a command of this name that takes nothing, and that knows no flag for help or the version
abbrev pub bare_app : Text → App
bare_app name = on_top (λ top. record top {
  no_binary_name = true;
  disable_help_flag = true;
  disable_version_flag = true;
}) (new_app name)

abbrev pub workers_option : Rule
workers_option = number_option (codes "workers") 1 WORKER_LIMIT WORKERS

abbrev pub leaf_option : Rule
leaf_option = number_option (codes "leaf") 1 LEAF_LIMIT LEAF

abbrev pub seed_argument : Rule
seed_argument = number_argument (codes "SEED") 0 SEED_LIMIT

abbrev pub rows_argument : Rule
rows_argument = number_argument (codes "ROWS") 1 DRILL_LIMIT

-- the command of this name that takes both options
abbrev pub app_with_options : Text → App
app_with_options name = with_rule (with_rule (bare_app name) workers_option) leaf_option

abbrev pub run_app : App
run_app = app_with_options (codes "run")

abbrev pub show_app : App
show_app = bare_app (codes "show")

abbrev pub list_app : App
list_app = bare_app (codes "list")

-- both options, and the two arguments in this order
abbrev pub drill_app : App
drill_app = with_rule (with_rule (app_with_options (codes "drill")) seed_argument) rows_argument
