-- The greatest of three numbers each: a sum is the greater one, and a product adds them.
use Rattle.std.specs.Prelude.{Option}
use Rattle.semiring_kit.specs.declared.weight.Lex.{Lex}
use Rattle.semiring_kit.specs.Semiring.{SemiringOn, IsSemiring}
use Rattle.semiring_kit.specs.Chosen.{chosen_plus, greater_by}
use Rattle.semiring_kit.specs.ChosenLaws.{chosen_plus-IsSemiring, greater_by-IsChoice}
use Rattle.semiring_kit.specs.Lex.{lex_order, lex_plus, lex_reach, no_lex, lexes}
use Rattle.semiring_kit.specs.LexLaws.{lexes-IsWeight}

-- None is no weight, below each weight
abbrev pub rank_plus : SemiringOn (Option Lex)
rank_plus = chosen_plus no_lex lex_plus (greater_by lex_order) lex_reach

pub rank_plus-IsSemiring : IsSemiring rank_plus
rank_plus-IsSemiring = chosen_plus-IsSemiring (greater_by-IsChoice lexes lexes-IsWeight)
