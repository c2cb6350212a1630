-- Why an input was not read.
use Rattle.std.proofs.Common.{rules, ◌≡◌, Some, Err, ap}
use Rattle.gta_words.specs.declared.words.Command.{Command}
use Rattle.gta_cli.specs.Causes.{Explains, ending_of_read}
use Rattle.gta_cli.specs.Endings.{IsReader, Stream, stream}
use Rattle.gta_cli.proofs.Inputs.{unread-explained}
use Rattle.gta_cli.proofs.ending.input.Goals as goal

pub returns-in_err-read_all-clause-cause : goal.returns-in_err-read_all-clause-cause
returns-in_err-read_all-clause-cause g c =
    let left = g.S.Source.left in
    let faults = g.S.Source.faults in
    let old = c.args.source.now in
    let new = c.read_all.new.source in
    let read : Stream = stream (left old) (left new) (faults old) (faults new) (new ≡ old) in
    let told : (command : Command) → IsReader (Some command)
    → Explains (Some command) read (ending_of_read c.in_err-read_all.field-0.0) =
    λ command reads. unread-explained command reads read c.in_err-read_all.field-0.0
    (λ same. c.in_err-read_all.ensures.too_long (ap Err same))
    (λ same. c.in_err-read_all.ensures.read_fault (ap Err same))
    (λ same. c.in_err-read_all.ensures.steady_too_long (ap Err same))
    (λ same. c.in_err-read_all.ensures.steady_memory (ap Err same)) in
    search rules
