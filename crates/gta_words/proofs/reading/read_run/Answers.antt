-- Each number is there, and within its range.
use Rattle.std.proofs.Common.{arith, refl}
use Rattle.clap.specs.Words.{found_of, rows_of}
use Rattle.gta_words.specs.Words.{run_by}
use Rattle.gta_words.specs.Commands.{run_app}
use Rattle.gta_words.specs.declared.words.TheConstants.{SEED_LIMIT}
use Rattle.gta_words.proofs.Given.{run_numbers, taken_by}
use Rattle.gta_words.proofs.Numbers.{number_in, number_wider}
use Rattle.gta_words.proofs.reading.read_run.Goals as goal

pub number-requires : goal.number-requires
number-requires c =
    let has = run_numbers _ c.in_ok-matches.matches c.in_ok-matches.ensures.parsed c.in_ok-run_command.ensures in
    record { held = number_wider _ _ SEED_LIMIT _ _ (omega arith) has.workers }

pub number-requires-2 : goal.number-requires-2
number-requires-2 c =
    let has = run_numbers _ c.in_ok-matches.matches c.in_ok-matches.ensures.parsed c.in_ok-run_command.ensures in
    record { held = number_wider _ _ SEED_LIMIT _ _ (omega arith) has.leaf }

pub returns-clause-command : goal.returns-clause-command
returns-clause-command c =
    taken_by c.in_ok-run_command.field-0 run_app run_by _ (rows_of (found_of c.in_ok-matches.matches)) _
    c.in_ok-run_command.ensures
    c.in_ok-matches.ensures.no_fault c.in_ok-matches.ensures.rows (rw (c.number.ensures, c.number-2.ensures) refl)

pub returns-clause-within : goal.returns-clause-within
returns-clause-within c =
    let has = run_numbers _ c.in_ok-matches.matches c.in_ok-matches.ensures.parsed c.in_ok-run_command.ensures in
    let workers = number_in _ _ _ _ has.workers in
    let leaf = number_in _ _ _ _ has.leaf in
    rw (c.number.ensures, c.number-2.ensures) (workers.0, workers.1, leaf.0, leaf.1)
