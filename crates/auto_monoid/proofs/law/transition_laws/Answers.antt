use Rattle.std.proofs.Common.{ap, length, ◌≤◌, arith}
use Rattle.monoid_kit.specs.Table.{PlainTable}
use Rattle.auto_monoid.specs.declared.monoid.AutoMonoid.{AutoMonoid}
use Rattle.auto_monoid.specs.TransitionOf.{machine, functions}
use Rattle.auto_monoid.proofs.Products.{all_different, all_reached, product_at, word_at_element, state_of_word}
use Rattle.auto_monoid.proofs.All.{are_all, are_not_too_many}
use Rattle.auto_monoid.proofs.law.transition_laws.Goals as goal

-- there are as many functions as the table has elements
functions-few : (monoid : AutoMonoid) → length (functions monoid) ≤ 64
functions-few monoid =
    (let same = ap (λ (t : PlainTable). t.size) monoid.multiplied in
    let few = monoid.table.lawful.table.few in
    omega arith)

pub returns-clause-few : goal.returns-clause-few
returns-clause-few c =
    let monoid = c.args.monoid.now in
    are_not_too_many (machine monoid) (functions monoid) monoid.numbered (functions-few monoid)

pub returns-clause-complete : goal.returns-clause-complete
returns-clause-complete c =
    let monoid = c.args.monoid.now in
    are_all (machine monoid) (functions monoid) monoid.numbered (functions-few monoid)

pub returns-clause-different : goal.returns-clause-different
returns-clause-different c =
    let monoid = c.args.monoid.now in
    all_different (machine monoid) monoid.is_auto (functions monoid) monoid.numbered

pub returns-clause-reached : goal.returns-clause-reached
returns-clause-reached c =
    let monoid = c.args.monoid.now in
    all_reached (machine monoid) monoid.is_auto (functions monoid) monoid.numbered

pub returns-clause-products : goal.returns-clause-products
returns-clause-products c =
    let monoid = c.args.monoid.now in
    product_at (machine monoid) monoid.is_auto (functions monoid) monoid.numbered

pub returns-clause-words : goal.returns-clause-words
returns-clause-words c =
    let monoid = c.args.monoid.now in
    word_at_element (machine monoid) monoid.is_auto (functions monoid) monoid.numbered

pub returns-clause-states : goal.returns-clause-states
returns-clause-states c =
    let monoid = c.args.monoid.now in
    state_of_word (machine monoid) monoid.is_auto (functions monoid) monoid.numbered
