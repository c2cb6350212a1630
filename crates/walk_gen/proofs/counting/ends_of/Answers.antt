use Rattle.std.proofs.Common.{◌≡◌, List, Bool, take, subst, arith}
use Rattle.std.proofs.lemmas.List.{take_all}
use Rattle.walk_gen.specs.Walks.{at_end, is_end}
use Rattle.walk_gen.specs.Extents.{HaveExtents}
use Rattle.walk_gen.proofs.counting.ends_of.Goals as goal

pub returns : goal.returns
returns c =
    let all : take c.loop-state.state c.args.ends.now ≡ c.args.ends.now = take_all _ _ (omega arith) in
    subst (λ (ends : List Bool). HaveExtents (at_end (is_end ends)) c.loop-state.extents) all c.loop-state.invariant.1
