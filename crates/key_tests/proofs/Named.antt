-- Tests are as many as what is seen of them.
use Rattle.std.proofs.Common.{◌≡◌, List, length, map, sym}
use Rattle.std.proofs.lemmas.List.{length-map}
use Rattle.gta_checked.specs.declared.resolved.Test.{Test}
use Rattle.gta_checked.specs.Plain.{plain_test}

pub as_many : (tests : List Test) → length tests ≡ length (map plain_test tests)
as_many tests = sym (length-map tests plain_test)
