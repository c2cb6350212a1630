-- Why there is a text or none, before anything is written.
use Rattle.std.specs.Prelude.{◌≡◌, Option, None, Err}
use Rattle.gta_port.specs.declared.reading.ReadEnd.{ReadEnd}
use Rattle.gta_port.specs.declared.reading.ReadEnd.TheVariants as read
use Rattle.gta_words.specs.declared.words.Command.{Command}
use Rattle.gta_words.specs.declared.words.WordsFault.{WordsFault}
use Rattle.gta_words.specs.declared.words.WordsFault.TheVariants as words
use Rattle.report_text.specs.declared.refusal.Refusal.TheVariants.{Input}
use Rattle.gta_job.specs.declared.job.JobEnd.{JobEnd}
use Rattle.gta_job.specs.declared.job.TheConstants.{INPUT_LIMIT}
use Rattle.gta_job.specs.declared.job.JobEnd.TheVariants as job
use Rattle.gta_cli.specs.declared.ending.Ending.{Ending}
use Rattle.gta_cli.specs.declared.ending.Ending.TheVariants.{Usage, Refused, ReadFault, Memory}
use Rattle.gta_cli.specs.Endings.{Stream, ComesTo, Failed, IsReader, IsSteady}

-- what a fault of the words ends with
abbrev pub ending_of_words : WordsFault → Ending
ending_of_words words.Usage = Usage
ending_of_words words.Memory = Memory

-- what the end of a read ends with
abbrev pub ending_of_read : ReadEnd → Ending
ending_of_read read.ReadFault = ReadFault
ending_of_read read.TooLong = Refused (Input INPUT_LIMIT)
ending_of_read read.Memory = Memory

-- what the end of a job ends with
abbrev pub ending_of_job : JobEnd → Ending
ending_of_job (job.Refused refusal) = Refused refusal
ending_of_job job.Memory = Memory

-- why there is no text: each ending has its cause, and no read failed but where it says so
abbrev pub Explains : Option Command → Stream → Ending → Type 0
Explains asked source Usage = (asked ≡ None) × source.same
Explains asked source (Refused refusal) = ComesTo asked source.old (Err refusal) × IsSteady source
Explains asked source ReadFault = IsReader asked × Failed source
Explains asked source Memory = IsSteady source
