-- The two totals, and what is behind them.
use Rattle.std.proofs.Common.{rules, ◌≡◌, ◌++◌, ◌∙◌, ap, sym, codes, w64, to_z, of_z, append_assoc}
use Rattle.std.proofs.lemmas.Int.{to_z-of_z}
use Rattle.std.specs.Fmt.{signed_decimal}
use Rattle.report_text.specs.Texts.{third_text}
use Rattle.report_text.proofs.candidate.push_totals.Goals as goal

pub returns : goal.returns
returns c =
    let first : to_z w64 (of_z w64 c.args.totals.now.first) ≡ c.args.totals.now.first =
    to_z-of_z w64 c.args.totals.now.first (search rules) in
    let second : to_z w64 (of_z w64 c.args.totals.now.second) ≡ c.args.totals.now.second =
    to_z-of_z w64 c.args.totals.now.second (search rules) in
    let third : to_z w64 (of_z w64 c.args.totals.now.third) ≡ c.args.totals.now.third =
    to_z-of_z w64 c.args.totals.now.third (search rules) in
    let totals = c.args.totals.now in
    let more = third_text c.args.parts totals.third in
    rw (c.in_ok-push_third.ensures, c.in_ok-extend_from_slice.ensures.items, third)
    (append_assoc c.args.text.now.items c.as_bytes.result.now more
    ∙ ap (λ l. c.args.text.now.items ++ l)
    (rw (c.as_bytes.ensures.value, c.in_ok-two.ensures.ok, first, second)
    (append_assoc (signed_decimal totals.first) (codes " " ++ signed_decimal totals.second) more)))
