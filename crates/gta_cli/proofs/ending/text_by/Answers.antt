-- A command that reads its source ends as its input does.
use Rattle.std.proofs.Common.{rules, Some}
use Rattle.gta_cli.specs.Endings.{IsReader}
use Rattle.gta_cli.proofs.ending.text_by.Goals as goal

pub returns-in_err-bytes-in-Run-clause-cause : goal.returns-in_err-bytes-in-Run-clause-cause
returns-in_err-bytes-in-Run-clause-cause g c =
    let reads : IsReader (Some c.args.command) = search rules in
    let cause = c.in_err-bytes-in-Run.ensures.cause c.args.command reads in
    search rules

pub returns-in_err-spec-in-Show-clause-cause : goal.returns-in_err-spec-in-Show-clause-cause
returns-in_err-spec-in-Show-clause-cause g c =
    let reads : IsReader (Some c.args.command) = search rules in
    let cause = c.in_err-spec-in-Show.ensures.cause c.args.command reads in
    search rules

pub returns-in_err-job-in-List-clause-cause : goal.returns-in_err-job-in-List-clause-cause
returns-in_err-job-in-List-clause-cause g c =
    let reads : IsReader (Some c.args.command) = search rules in
    let cause = c.in_err-job-in-List.ensures.cause c.args.command reads in
    search rules
