-- Rows without a negative value are refused for their tests' keys alone.
use Rattle.gta_checked.specs.PlainRows.{plain_rows}
use Rattle.gta_job.proofs.Keys.{keys-few, keys-many}
use Rattle.gta_job.proofs.rows_job.tests_of.Goals as goal

pub returns-in-Ok-clause-passes : goal.returns-in-Ok-clause-passes
returns-in-Ok-clause-passes c =
    keys-few c.args.job.now.checked (plain_rows c.args.job.now.rows) c.requires.natural c.in-Ok.ensures.tells

pub returns-in-Err-TooManyKeys-clause-passes : goal.returns-in-Err-TooManyKeys-clause-passes
returns-in-Err-TooManyKeys-clause-passes c =
    keys-many c.args.job.now.checked (plain_rows c.args.job.now.rows) c.requires.natural c.in-Err-TooManyKeys.keys
    (rw c.in-Err-TooManyKeys.field-0-is at c.in-Err-TooManyKeys.ensures.tells)
