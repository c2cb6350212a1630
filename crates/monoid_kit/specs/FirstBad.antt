-- The first law of a monoid that a table breaks.
use Rattle.std.specs.Prelude.{ℕ, ◌==◌, not, Bool, true, false}
use Rattle.std.specs.Prelude.{List, [], ◌∷◌, Option, Some, None, option_map, Result, Ok}
use Rattle.std.specs.Option.{option_or}
use Rattle.std.specs.List.{find, range_with_len}
use Rattle.outcome_kit.specs.Outcome.{unless}
use Rattle.monoid_kit.specs.declared.checks.TableFault.{TableFault}
use Rattle.monoid_kit.specs.declared.checks.TableFault.TheVariants.{UnitFails, NotAssociative, Memory}
use Rattle.monoid_kit.specs.Items.{pairs}
use Rattle.monoid_kit.specs.Table.{PlainTable, table_mul}

-- the elements, ascending
abbrev pub elements : PlainTable → List ℕ
elements t = range_with_len 0 t.size

-- the unit changes the element, as the left or else as the right factor
abbrev pub unit_fails : PlainTable → ℕ → Bool → Bool
unit_fails t x true = not (table_mul t t.unit x == x)
unit_fails t x false = not (table_mul t x t.unit == x)

-- the first element that the unit changes, and whether it does so as the left factor
abbrev pub first_unit_failure : PlainTable → Option (ℕ × Bool)
first_unit_failure t = find (λ p. unit_fails t p.0 p.1) (pairs (elements t) (true ∷ false ∷ []))

-- (a b) c isn't a (b c)
abbrev pub is_not_associative : PlainTable → ℕ → ℕ → ℕ → Bool
is_not_associative t a b c = not (table_mul t (table_mul t a b) c == table_mul t a (table_mul t b c))

-- the first triple, in lexicographic order, that isn't associative
abbrev pub first_triple : PlainTable → Option (ℕ × (ℕ × ℕ))
first_triple t =
    find (λ p. is_not_associative t p.0 p.1.0 p.1.1)
    (pairs (elements t) (pairs (elements t) (elements t)))

-- the first failure of the unit; only where there is none, the first triple that isn't associative
abbrev pub first_bad : PlainTable → Option TableFault
first_bad t =
    option_or (option_map (λ p. UnitFails p.0 p.1) (first_unit_failure t))
    (option_map (λ p. NotAssociative p.0 p.1.0 p.1.1) (first_triple t))

-- the table, unless it breaks a law
abbrev pub lawful_outcome : PlainTable → Result PlainTable TableFault
lawful_outcome t = unless (first_bad t) (Ok t)

-- the law that an end tells of; want of memory is none
abbrev pub fault_in : TableFault → Option TableFault
fault_in Memory = None
fault_in fault = Some fault
