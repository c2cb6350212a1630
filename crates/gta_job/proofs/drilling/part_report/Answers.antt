-- The job of a drill is one that its text holds.
use Rattle.std.proofs.Common.{◌≡◌, ◌∙◌, ℕ, Vec, Global, subst}
use Rattle.drill_texts.specs.Drills.{drill_text}
use Rattle.gta_words.specs.declared.words.Command.TheVariants.{Run}
use Rattle.gta_job.specs.Ends.{Tells}
use Rattle.gta_job.specs.Outcome.{outcome, part_outcome}
use Rattle.gta_job.proofs.drilling.part_report.Goals as goal

pub returns : goal.returns
unfolding outcome part_outcome
returns g c =
    let bytes : c.as_slice.result.now ≡ drill_text c.args.drill c.args.seed c.args.rows =
    c.as_slice.ensures.value ∙ c.in_ok-text.ensures.text in
    record {
      tells = subst (λ bytes. Tells (λ (text : Vec ℕ Global). text.items)
          (outcome (Run c.args.workers c.args.leaf) bytes)
          c.answer_job.result) bytes c.answer_job.ensures.tells;
    }
