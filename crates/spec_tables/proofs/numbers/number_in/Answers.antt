use Rattle.std.proofs.Common.{◌≡◌, take, arith}
use Rattle.std.proofs.lemmas.List.{take_all}
use Rattle.spec_tables.specs.Tables.{number_of}
use Rattle.spec_tables.proofs.NumberOf.{number_at}
use Rattle.spec_tables.proofs.Rows.{number_of-within}
use Rattle.spec_tables.proofs.numbers.number_in.Goals as goal

pub returns-then-eq-clause-number : goal.returns-then-eq-clause-number
returns-then-eq-clause-number c =
    let hit = rw (c.bytes.ensures, c.bytes-in-loop-number.ensures) at c.if-eq.ensures in
    number_at c.args.names.now c.args.name.now c.loop-number.number c.index-names-number.result
    c.loop-number.invariant c.loop-number-test.true c.index-names-number.is hit

pub returns-clause-within : goal.returns-clause-within
returns-clause-within c = λ known.
    let whole : take c.loop-number.number c.args.names.now ≡ c.args.names.now =
    take_all c.loop-number.number c.args.names.now c.loop-number-test.false in
    let past : number_of c.args.names.now c.args.name.now ≡ c.loop-number.number = rw whole at
    c.loop-number.invariant in
    let below = number_of-within c.args.names.now c.args.name.now known in
    omega arith
