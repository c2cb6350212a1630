-- The colon and the name are the label's text.
use Rattle.std.proofs.Common.{◌<◌, ◌++◌, length, codes, rules, sym, ap, ◌∙◌, append_assoc}
use Rattle.report_text.proofs.Labels.{label_text-name}
use Rattle.report_text.proofs.candidate.push_label.Goals as goal

pub returns : goal.returns
returns c =
    let text = c.args.text.now.items in
    let name = c.index-labels-label.result in
    let within : c.args.label < length c.args.labels.now = search rules in
    rw (c.in_ok-extend_from_slice-2.ensures.items, c.in_ok-extend_from_slice.ensures.items, c.bytes.ensures)
    (append_assoc text (codes ":") name
    ∙ ap (λ l. text ++ l) (sym (label_text-name c.args.labels.now c.args.label name within c.index-labels-label.is)))
