use Rattle.std.proofs.Common.{◌≡◌, map}
use Rattle.std.specs.List.{range_with_len}
use Rattle.gta_checked.specs.PlainRows.{plain_rows}
use Rattle.gta_meaning.specs.InRange.{label_count}
use Rattle.fuse_answer.specs.Letters.{letter_at}
use Rattle.fuse_answer.proofs.letters.letters_of.Given as goal

abbrev pub invariant-loop-place : goal.invariant-loop-place
invariant-loop-place g l =
    let checked = l.prepared.job.checked in
    let weight = g.Q.Question.weight l.question checked (plain_rows l.prepared.job.rows) in
    let of_mark = g.Q.Kit.Semiring.of_mark (g.Q.Question.kit l.question) in
    let letter = letter_at of_mark weight l.keys (label_count checked) in
    l.letters.items ≡ map letter (range_with_len 0 l.place)
