use Rattle.std.proofs.Common.{◌≡◌, map, take}
use Rattle.best_k.specs.RunEntries.{listed}
use Rattle.best_k.proofs.run_entry.listed.Given as goal

abbrev pub invariant-listing : goal.invariant-listing
invariant-listing g l = l.entries.items ≡ map listed (take l.entry-index l.entry-items)
