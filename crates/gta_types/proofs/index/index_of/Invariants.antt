use Rattle.std.proofs.Common.{◌≡◌, map, take, option_map}
use Rattle.gta_types.specs.Names.{declared_twice}
use Rattle.gta_types.specs.Index.{declaration, declared_place, place, IsIndex}
use Rattle.gta_types.proofs.index.index_of.Given as goal

abbrev pub invariant-loop-d : goal.invariant-loop-d
invariant-loop-d l =
    record {
      known : IsIndex l.names (map declaration (take l.d-index l.all));
      first_twice : option_map place l.twice
          ≡ option_map declared_place (declared_twice (map declaration (take l.d-index l.all)));
    }
