use Rattle.std.proofs.Common.{refl}
use Rattle.gta_types.specs.Index.{known_at}
use Rattle.gta_types.proofs.names.Names.new.Goals as goal

pub returns : goal.returns
unfolding known_at
returns c = λ s x. rw c.new.ensures.empty refl
