use Rattle.std.proofs.Common.{refl, sym}
use Rattle.gta_types.specs.Index.{unknown_in}
use Rattle.gta_types.proofs.uses.unknown_inner.Goals as goal

pub returns-then-has_inner : goal.returns-then-has_inner
unfolding unknown_in
returns-then-has_inner c = λ of same. rw (same, sym c.if-has_inner.ensures) refl

pub returns-else-has_inner : goal.returns-else-has_inner
unfolding unknown_in
returns-else-has_inner c = λ of same. rw (same, sym c.if-has_inner.ensures) refl
