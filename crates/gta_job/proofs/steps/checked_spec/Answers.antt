-- The specification that is read and checked, or the refusal of its text, or of its names, rules and tables.
use Rattle.std.proofs.Common.{rules, ◌≡◌, None}
use Rattle.gta_syntax.specs.Refusals.{read_tree}
use Rattle.gta_types.specs.ResolvedOf.{resolved-is}
use Rattle.gta_job.specs.Ends.{Ends, end_of_checking, end_of_reading}
use Rattle.gta_job.specs.Outcome.{input_refusal, specification}
use Rattle.gta_job.proofs.Ordered.{check-ends, read-ends, spec-told}
use Rattle.gta_job.proofs.steps.checked_spec.Goals as goal

pub returns-in_err-read-clause-tells : goal.returns-in_err-read-clause-tells
returns-in_err-read-clause-tells c =
    let few : input_refusal c.args.bytes.now ≡ None = c.in_ok-refuse_input.ensures.passes in
    let fault = c.in_err-read.field-0.0 in
    let ends : Ends (specification c.args.bytes.now) (end_of_reading fault) =
    read-ends c.args.bytes.now few fault c.in_err-read.ensures.tells in
    search rules

pub returns-in_err-checked-clause-tells : goal.returns-in_err-checked-clause-tells
returns-in_err-checked-clause-tells c =
    let few : input_refusal c.args.bytes.now ≡ None = c.in_ok-refuse_input.ensures.passes in
    let fault = c.in_err-checked.field-0.0 in
    let ends : Ends (specification c.args.bytes.now) (end_of_checking fault) =
    check-ends c.args.bytes.now few (read_tree c.in_ok-read.read) fault c.in_ok-read.ensures.tells
    c.in_err-checked.ensures.tells in
    search rules

pub returns-clause-tells : goal.returns-clause-tells
returns-clause-tells c =
    let few : input_refusal c.args.bytes.now ≡ None = c.in_ok-refuse_input.ensures.passes in
    spec-told c.args.bytes.now few (read_tree c.in_ok-read.read) c.in_ok-checked.checked c.in_ok-read.ensures.tells
    c.in_ok-checked.ensures.tells

pub returns-clause-resolved : goal.returns-clause-resolved
returns-clause-resolved c = resolved-is c.in_ok-checked.ensures.resolved
