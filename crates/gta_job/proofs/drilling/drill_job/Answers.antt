-- The heading and the three reports, or the first refusal of the three jobs.
use Rattle.std.proofs.Common.{rules, ◌≡◌, ◌∙◌, ◌++◌, List, ℕ, [], Ok, Result, ap}
use Rattle.drill_texts.specs.Drills.{heading}
use Rattle.drill_texts.specs.declared.drill.Drill.TheVariants.{Best, Greatest, Segments}
use Rattle.gta_words.specs.declared.words.Command.TheVariants.{Drill}
use Rattle.report_text.specs.declared.refusal.Refusal.{Refusal}
use Rattle.outcome_kit.specs.Outcome.{and_then}
use Rattle.gta_job.specs.Ends.{Ends}
use Rattle.gta_job.specs.Outcome.{outcome, part_outcome}
use Rattle.gta_job.proofs.Ordered.{then-ends, then-later}
use Rattle.gta_job.proofs.drilling.drill_job.Goals as goal

module _ (leaf seed rows : ℕ) where
  abbrev after_greatest : List ℕ → List ℕ → Result (List ℕ) Refusal
  after_greatest best greatest =
      and_then (part_outcome leaf seed rows Segments)
      (λ segments. Ok (((heading seed rows ++ best) ++ greatest) ++ segments))

  abbrev after_best : List ℕ → Result (List ℕ) Refusal
  after_best best = and_then (part_outcome leaf seed rows Greatest) (after_greatest best)

pub returns-in_err-best : goal.returns-in_err-best
unfolding outcome
returns-in_err-best g c =
    let end = c.in_err-best.field-0.0 in
    let ends : Ends (outcome (Drill c.args.seed c.args.rows c.args.workers c.args.leaf) []) end =
    then-ends (part_outcome c.args.leaf c.args.seed c.args.rows Best)
    (after_best c.args.leaf c.args.seed c.args.rows) end
    c.in_err-best.ensures.tells in
    search rules

pub returns-in_err-greatest : goal.returns-in_err-greatest
unfolding outcome
returns-in_err-greatest g c =
    let end = c.in_err-greatest.field-0.0 in
    let best = c.in_ok-best.best.items in
    let ends : Ends (outcome (Drill c.args.seed c.args.rows c.args.workers c.args.leaf) []) end =
    then-later (part_outcome c.args.leaf c.args.seed c.args.rows Best) best
    (after_best c.args.leaf c.args.seed c.args.rows) end c.in_ok-best.ensures.tells
    (then-ends (part_outcome c.args.leaf c.args.seed c.args.rows Greatest)
    (after_greatest c.args.leaf c.args.seed c.args.rows best) end c.in_err-greatest.ensures.tells) in
    search rules

pub returns-in_err-segments : goal.returns-in_err-segments
unfolding outcome
returns-in_err-segments g c =
    let end = c.in_err-segments.field-0.0 in
    let best = c.in_ok-best.best.items in
    let greatest = c.in_ok-greatest.greatest.items in
    let ends : Ends (outcome (Drill c.args.seed c.args.rows c.args.workers c.args.leaf) []) end =
    then-later (part_outcome c.args.leaf c.args.seed c.args.rows Best) best
    (after_best c.args.leaf c.args.seed c.args.rows) end c.in_ok-best.ensures.tells
    (then-later (part_outcome c.args.leaf c.args.seed c.args.rows Greatest) greatest
    (after_greatest c.args.leaf c.args.seed c.args.rows best) end c.in_ok-greatest.ensures.tells
    (then-ends (part_outcome c.args.leaf c.args.seed c.args.rows Segments)
    (λ segments. Ok (((heading c.args.seed c.args.rows ++ best) ++ greatest) ++ segments)) end
    c.in_err-segments.ensures.tells)) in
    search rules

pub returns : goal.returns
unfolding outcome
returns g c =
    let best = c.in_ok-best.best.items in
    let greatest = c.in_ok-greatest.greatest.items in
    let segments = c.in_ok-segments.segments.items in
    let front = heading c.args.seed c.args.rows in
    let one : c.extend_from_slice.new.self.items ≡ front ++ best = search rules in
    let two : c.extend_from_slice-2.new.self.items ≡ (front ++ best) ++ greatest = search rules in
    let text : ((front ++ best) ++ greatest) ++ segments ≡ c.extend_from_slice-3.new.self.items = search rules in
    record {
      tells = ap (λ step. and_then step (after_best c.args.leaf c.args.seed c.args.rows)) c.in_ok-best.ensures.tells
          ∙ ap (λ step. and_then step (after_greatest c.args.leaf c.args.seed c.args.rows best))
          c.in_ok-greatest.ensures.tells
          ∙ ap (λ step. and_then step (λ segments.
          Ok (((heading c.args.seed c.args.rows ++ best) ++ greatest) ++ segments))) c.in_ok-segments.ensures.tells
          ∙ ap Ok text;
    }
