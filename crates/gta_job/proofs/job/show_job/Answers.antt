-- The canonical text of a specification, or its refusal.
use Rattle.std.proofs.Common.{rules, ◌∙◌, List, ℕ, Ok, Result, ap}
use Rattle.gta_canonical.specs.Canonical.{canonical}
use Rattle.gta_syntax.specs.Refusals.{ReadTree}
use Rattle.gta_words.specs.declared.words.Command.TheVariants.{Show}
use Rattle.report_text.specs.declared.refusal.Refusal.{Refusal}
use Rattle.outcome_kit.specs.Outcome.{and_then}
use Rattle.gta_job.specs.Ends.{Ends}
use Rattle.gta_job.specs.Outcome.{outcome, specification}
use Rattle.gta_job.proofs.Ordered.{then-ends}
use Rattle.gta_job.proofs.job.show_job.Goals as goal

abbrev shown : ReadTree → Result (List ℕ) Refusal
shown read = Ok (canonical read.spec)

pub returns-in_err-read : goal.returns-in_err-read
unfolding outcome
returns-in_err-read c =
    let ends : Ends (outcome Show c.args.bytes.now) c.in_err-read.field-0.0 =
    then-ends (specification c.args.bytes.now) shown c.in_err-read.field-0.0 c.in_err-read.ensures.tells in
    search rules

pub returns : goal.returns
unfolding outcome
returns c = record {
  tells = ap (λ step. and_then step shown) c.in_ok-read.ensures.tells ∙ search rules;
}
