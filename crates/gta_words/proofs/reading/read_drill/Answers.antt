-- Each number is there, and within its range.
use Rattle.std.proofs.Common.{arith, refl}
use Rattle.clap.specs.Words.{found_of, rows_of}
use Rattle.gta_words.specs.Words.{drill_by}
use Rattle.gta_words.specs.Commands.{drill_app}
use Rattle.gta_words.specs.declared.words.TheConstants.{SEED_LIMIT}
use Rattle.gta_words.proofs.Given.{drill_numbers, taken_by}
use Rattle.gta_words.proofs.Numbers.{number_in, number_wider}
use Rattle.gta_words.proofs.reading.read_drill.Goals as goal

pub number-requires : goal.number-requires
number-requires c =
    let has = drill_numbers _ c.in_ok-matches.matches c.in_ok-matches.ensures.parsed c.in_ok-drill_command.ensures in
    record { held = number_wider _ _ SEED_LIMIT _ _ (omega arith) has.seed }

pub number-requires-2 : goal.number-requires-2
number-requires-2 c =
    let has = drill_numbers _ c.in_ok-matches.matches c.in_ok-matches.ensures.parsed c.in_ok-drill_command.ensures in
    record { held = number_wider _ _ SEED_LIMIT _ _ (omega arith) has.rows_there }

pub number-requires-3 : goal.number-requires-3
number-requires-3 c =
    let has = drill_numbers _ c.in_ok-matches.matches c.in_ok-matches.ensures.parsed c.in_ok-drill_command.ensures in
    record { held = number_wider _ _ SEED_LIMIT _ _ (omega arith) has.options.workers }

pub number-requires-4 : goal.number-requires-4
number-requires-4 c =
    let has = drill_numbers _ c.in_ok-matches.matches c.in_ok-matches.ensures.parsed c.in_ok-drill_command.ensures in
    record { held = number_wider _ _ SEED_LIMIT _ _ (omega arith) has.options.leaf }

pub returns-clause-command : goal.returns-clause-command
returns-clause-command c =
    taken_by c.in_ok-drill_command.field-0 drill_app drill_by _ (rows_of (found_of c.in_ok-matches.matches)) _
    c.in_ok-drill_command.ensures
    c.in_ok-matches.ensures.no_fault c.in_ok-matches.ensures.rows
    (rw (c.number.ensures, c.number-2.ensures, c.number-3.ensures, c.number-4.ensures) refl)

pub returns-clause-within : goal.returns-clause-within
returns-clause-within c =
    let has = drill_numbers _ c.in_ok-matches.matches c.in_ok-matches.ensures.parsed c.in_ok-drill_command.ensures in
    let rows = number_in _ _ _ _ has.rows_there in
    let workers = number_in _ _ _ _ has.options.workers in
    let leaf = number_in _ _ _ _ has.options.leaf in
    rw (c.number-2.ensures, c.number-3.ensures, c.number-4.ensures)
    (rows.0, rows.1, (workers.0, workers.1, leaf.0, leaf.1))
