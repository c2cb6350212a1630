-- What lines are known to keep when their names are looked up and resolved.
use Rattle.std.specs.Prelude.{◌≡◌, ℕ, ◌+◌, ◌≤◌, false, List, [], ◌∷◌}
use Rattle.gta_text.specs.declared.numbers.TheConstants.{NUMBER_BOUND}
use Rattle.gta_spec.specs.declared.parts.TermPart.{TermPart}
use Rattle.gta_spec.specs.Parts.{CaseTree, KindTree, Measure, PartTree}
use Rattle.gta_spec.specs.WellFormed.{EachFits}
use Rattle.spec_rules.specs.SpecRules.{is_kept_past}
use Rattle.gta_types.specs.Resolved.{factor_of}

-- parts on ascending lines, the first not before line `low`
abbrev pub Ascend : ℕ → List PartTree → Type 0
Ascend low [] = Unit {0}
Ascend low (part ∷ parts) = (low ≤ part.line) × Ascend (part.line + 1) parts

-- the factor of a term is a number
abbrev pub IsFactorReady : TermPart → Type 0
IsFactorReady term = factor_of term.number ≤ NUMBER_BOUND

abbrev pub IsCaseReady : CaseTree → Type 0
IsCaseReady case = EachFits IsFactorReady case.form

abbrev pub AreCasesReady : KindTree → Type 0
AreCasesReady (Measure part) = EachFits IsCaseReady part.cases
AreCasesReady _ = Unit {0}

pub record IsReady (kind : KindTree) : Type 0 where
  pub cases : AreCasesReady kind
  pub kept : is_kept_past kind ≡ false
