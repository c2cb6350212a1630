use Rattle.std.proofs.Common.{refl, sym}
use Rattle.gta_types.specs.Index.{unknown_in}
use Rattle.gta_types.proofs.uses.unknown.Goals as goal

pub returns-then-is_known : goal.returns-then-is_known
unfolding unknown_in
returns-then-is_known c = rw (sym c.if-is_known.ensures) refl

pub returns-else-is_known : goal.returns-else-is_known
unfolding unknown_in
returns-else-is_known c = rw (sym c.if-is_known.ensures) refl
