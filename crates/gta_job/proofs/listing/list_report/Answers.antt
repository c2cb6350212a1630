-- The marks of each candidate have their labels.
use Rattle.std.proofs.Common.{rules, ◌≡◌, ◌<◌, List, [], length, get_or, sym, ap, subst, ◌∙◌, arith}
use Rattle.std.proofs.lemmas.List.{get_or-map, length-map}
use Rattle.shape_gen.specs.declared.mark.Mark.{Mark}
use Rattle.report_text.specs.Texts.{AreLabelled}
use Rattle.gta_meaning.specs.Listed.{marks_of}
use Rattle.gta_meaning.specs.declared.candidate.Candidate.{Candidate}
use Rattle.gta_job.proofs.listing.list_report.Goals as goal

pub push_candidate_line-requires : goal.push_candidate_line-requires
push_candidate_line-requires c =
    let list = c.args.list.now in
    let i = c.candidates.candidate-index in
    let marks : Candidate → List Mark = λ candidate. candidate.marks.items in
    let within : i < length list = search rules in
    let here : get_or (marks_of list) i [] ≡ c.as_slice.result.now =
    get_or-map marks list i c.candidate-item.result [] within ∙ ap marks (sym c.candidate-item.is)
    ∙ sym c.as_slice.ensures.value in
    record {
      labelled = subst (AreLabelled c.args.labels.now) here
          (c.requires i [] (omega (arith, within, length-map list marks)));
    }
