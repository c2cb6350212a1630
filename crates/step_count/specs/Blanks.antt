-- Blank ledgers, from which counters are made.
use Rattle.std.specs.Prelude.{◌≡◌, ℕ, ◌<◌}
use Rattle.std.specs.declared.sync.ledger.Blank.{Blank}

-- a blank of the ledger of this name and so many parts, and there are some
pub record IsBlankOf (name parts : ℕ) (blank : Blank) : Type 0 where
  pub same_name : blank.name ≡ name
  pub same_parts : blank.parts ≡ parts
  pub some_part : 0 < blank.parts
