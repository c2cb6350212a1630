use Rattle.std.proofs.Common.{◌≡◌, ℕ, List, None, take}
use Rattle.std.specs.List.{flat_map}
use Rattle.gta_spec.specs.Parts.{pick_tree}
use Rattle.gta_types.specs.Names.{uses_of_pick, Within}
use Rattle.gta_types.specs.Index.{known_at, unknown_in}
use Rattle.gta_types.proofs.uses.in_picks.Given as goal

abbrev pub invariant-loop-pick : goal.invariant-loop-pick
invariant-loop-pick l =
    (home : List ℕ) → known_at l.names 0 home ≡ l.of
    → unknown_in l.names (flat_map (λ pick. uses_of_pick l.line (Within l.kind home) (pick_tree pick))
    (take l.pick-index l.picks)) ≡ None
