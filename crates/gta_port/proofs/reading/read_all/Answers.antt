use Rattle.std.proofs.Common.{arith, ◌+◌}
use Rattle.std.proofs.lemmas.Grind.{common_steps}
use Rattle.gta_port.proofs.KnownBytes.{some_more_taken}
use Rattle.gta_port.proofs.reading.read_all.Goals as goal

pub returns-in_err-extend_from_slice-clause-memory :
    goal.returns-in_err-extend_from_slice-clause-memory
returns-in_err-extend_from_slice-clause-memory g c =
    λ _. some_more_taken _ _ _ _ _ c.in-Ok.n (c.args.limit + 1) c.loop-block.invariant.taken
    c.in-Ok.ensures.bytes.0 (grind (arith, common_steps))
