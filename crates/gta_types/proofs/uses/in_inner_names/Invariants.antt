use Rattle.std.proofs.Common.{◌≡◌, ℕ, List, None, [], ◌∷◌, take}
use Rattle.std.specs.List.{flat_map}
use Rattle.gta_types.specs.Names.{use_as, Within}
use Rattle.gta_types.specs.Index.{known_at, unknown_in}
use Rattle.gta_types.proofs.uses.in_inner_names.Given as goal

abbrev pub invariant-loop-name : goal.invariant-loop-name
invariant-loop-name l =
    (home : List ℕ) → known_at l.names 0 home ≡ l.of
    → unknown_in l.names (flat_map (λ name. use_as l.line (Within l.kind home) name ∷ [])
    (take l.name-index l.used)) ≡ None
