use Rattle.std.proofs.Common.{◌≡◌, ◌<◌, IfOk, refl, subst, sym}
use Rattle.monoid_kit.specs.Items.{AllElements}
use Rattle.gta_checked.specs.PlainRows.{plain_rows}
use Rattle.gta_meaning.specs.InRange.{label_count}
use Rattle.fuse_answer.specs.Letters.{letters_of}
use Rattle.fuse_answer.proofs.Kept.{accepted-kept_of}
use Rattle.fuse_answer.proofs.Lawful.{keys-are_elements}
use Rattle.fuse_answer.proofs.dense.dense_sum_by_keys.Goals as goal

pub plan_by_letters-plan-requires-clause-keys_are_elements :
    goal.plan_by_letters-plan-requires-clause-keys_are_elements
plan_by_letters-plan-requires-clause-keys_are_elements g c κs within =
    let checked = c.args.prepared.now.job.checked in
    let rows = plain_rows c.args.prepared.now.job.rows in
    let question = c.args.question.now in
    let size = g.M.Monoid.size c.args.monoid in
    subst (AllElements (λ key. key < size) (λ letter. letter.key)) (sym c.in_ok-letters.ensures.letters)
    (keys-are_elements (g.Q.Kit.Semiring.of_mark (g.Q.Question.kit question)) (g.Q.Question.weight question checked rows)
    c.args.keys.now rows.count (label_count checked) size c.requires.decide.count c.requires.decide.keys_are_elements)

pub returns-clause-sum : goal.returns-clause-sum
returns-clause-sum g c =
    let checked = c.args.prepared.now.job.checked in
    let rows = plain_rows c.args.prepared.now.job.rows in
    let question = c.args.question.now in
    let kit = g.Q.Question.kit question in
    let of_mark = g.Q.Kit.Semiring.of_mark kit in
    let weight = g.Q.Question.weight question checked rows in
    let letters = letters_of of_mark weight c.args.keys.now rows.count (label_count checked) in
    let monoid = c.args.monoid in
    subst (λ v. IfOk c.dense_accepted_sum.result (λ sum. sum ≡ v))
    (accepted-kept_of (g.Q.Kit.Semiring.ring kit) of_mark weight checked rows
    (g.M.Monoid.size monoid) (g.M.Monoid.unit monoid) (g.M.Monoid.mul monoid)
    c.args.keys.now c.args.accept.now c.requires.decide checked.shape (label_count checked) letters refl refl refl)
    (rw (c.plan_by_letters-plan.ensures, c.kit.ensures, c.in_ok-letters.ensures.letters) at c.dense_accepted_sum.ensures.sum)
