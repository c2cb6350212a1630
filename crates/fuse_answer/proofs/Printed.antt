-- The entries of a good sum by ranks have totals within the bound.
use Rattle.std.proofs.Common.{◌≤◌, List, [], ◌∷◌, All, map, arith}
use Rattle.std.proofs.lemmas.List.Elements.{All-cons, All-nil}
use Rattle.semiring_kit.specs.declared.weight.Lex.{Lex}
use Rattle.semiring_kit.specs.Lex.{lex_reach, lexes}
use Rattle.semiring_kit.specs.Semiring.{weight_bound}
use Rattle.best_k.specs.declared.entry.Entry.{Entry}
use Rattle.best_k.specs.declared.run_entry.RunEntry.{RunEntry}
use Rattle.best_k.specs.RunEntries.{listed, run_reach}
use Rattle.first_k.specs.FirstK.{reach_of}

abbrev pub IsNear : Entry Lex → Type 0
IsNear entry = lex_reach entry.total ≤ weight_bound

pub listed-near : (entries : List (RunEntry Lex)) → reach_of (run_reach lexes) entries ≤ weight_bound
    → All IsNear (map listed entries)
listed-near [] within = All-nil IsNear
listed-near (entry ∷ entries) within =
    All-cons IsNear (listed entry) (map listed entries) (omega (arith, within))
    (listed-near entries (omega (arith, within)))
