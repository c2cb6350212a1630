use Rattle.std.proofs.Common.{◌≡◌, None, [], ◌∷◌, take}
use Rattle.std.specs.List.{flat_map}
use Rattle.gta_types.specs.Names.{use_of_atom}
use Rattle.gta_types.specs.Index.{unknown_in}
use Rattle.gta_types.proofs.uses.in_cond.Given as goal

abbrev pub invariant-loop-atom : goal.invariant-loop-atom
invariant-loop-atom l =
    unknown_in l.names (flat_map (λ atom. use_of_atom l.line atom ∷ []) (take l.atom-index l.cond)) ≡ None
