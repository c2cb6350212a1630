use Rattle.std.proofs.Common.{arith}
use Rattle.std.proofs.lemmas.Grind.{common_steps}
use Rattle.gta_port.proofs.KnownBytes.{front_grows}
use Rattle.gta_port.proofs.writing.write_all_of.Goals as goal

pub loop-gone-preserved : goal.loop-gone-preserved
loop-gone-preserved g c = record {
  within = grind (arith, common_steps);
  front = front_grows _ _ _ _ _ _ c.loop-gone.invariant.front c.in-Ok.ensures.bytes;
  steady = grind (arith, common_steps);
}
