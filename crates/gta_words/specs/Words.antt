-- Which words are a command.
use Rattle.std.specs.Prelude.{ℕ, ◌≤◌, List, [], ◌∷◌, Option, Some, None, if◌then◌else◌, codes}
use Rattle.std.specs.Str.{bytes_eq}
use Rattle.clap.specs.Words.{App, Row, Text, fault_of, matches_of}
use Rattle.clap.specs.Walk.{is_empty}
use Rattle.gta_words.specs.Commands.{drill_app, list_app, run_app, show_app}
use Rattle.gta_words.specs.Reading.{number_under}
use Rattle.gta_words.specs.declared.words.Command.{Command}
use Rattle.gta_words.specs.declared.words.Command.TheVariants.{Run, Show, List as ListKept, Drill}
use Rattle.gta_words.specs.declared.words.TheConstants.{WORKER_LIMIT, LEAF_LIMIT, DRILL_LIMIT}

-- the commands with the numbers of the matches
abbrev pub run_by : List Row → Command
run_by rows = Run (number_under (codes "workers") rows) (number_under (codes "leaf") rows)

abbrev pub drill_by : List Row → Command
drill_by rows = Drill (number_under (codes "SEED") rows) (number_under (codes "ROWS") rows)
    (number_under (codes "workers") rows) (number_under (codes "leaf") rows)

-- the command by the app's matches of the words, or none where `clap` finds a fault in them
abbrev pub taken : App → (List Row → Command) → List Text → Option Command
taken app by words =
    if is_empty (fault_of app words) then Some (by (matches_of app words)) else None

-- the command of this name, by the words after it
unfoldable pub named_command : Text → List Text → Option Command
named_command name words =
    if bytes_eq name (codes "run") then taken run_app run_by words
    else (if bytes_eq name (codes "show") then taken show_app (λ _. Show) words
    else (if bytes_eq name (codes "list") then taken list_app (λ _. ListKept) words
    else (if bytes_eq name (codes "drill") then taken drill_app drill_by words
    else None)))

-- the command of the words, or none
abbrev pub command_of : List Text → Option Command
command_of [] = None
command_of (name ∷ words) = named_command name words

-- as many workers, and as many rows a leaf, as a run may have
abbrev pub IsWithinLimits : ℕ → ℕ → Type 0
IsWithinLimits workers leaf =
    (1 ≤ workers) × (workers ≤ WORKER_LIMIT) × (1 ≤ leaf) × (leaf ≤ LEAF_LIMIT)

-- the numbers of a command lie within their limits
abbrev pub IsWithinOptions : Command → Type 0
IsWithinOptions (Run workers leaf) = IsWithinLimits workers leaf
IsWithinOptions Show = Unit {0}
IsWithinOptions ListKept = Unit {0}
IsWithinOptions (Drill seed rows workers leaf) =
    (1 ≤ rows) × (rows ≤ DRILL_LIMIT) × IsWithinLimits workers leaf
