use Rattle.std.proofs.Common.{ap, w64, ◌∙◌}
use Rattle.std.proofs.lemmas.Int.{to_z-of_z}
use Rattle.lane_rows.specs.MaxLanes.{lifted_max}
use Rattle.lane_rows.proofs.MaxLanes.{absent-machine, present-machine}
use Rattle.lane_rows.proofs.MinLanes.{opposite-IsWithin, opposites-IsWithin, lifted-min_plus, unlifted-min_plus}
use Rattle.lane_rows.proofs.min_plus.MinPlusLanes.lift.Goals as goal

pub returns-then-by-eq-ABSENT-clause-values : goal.returns-then-by-eq-ABSENT-clause-values
returns-then-by-eq-ABSENT-clause-values c =
    unlifted-min_plus c.args.by c.args.into.now c.args.from.now
    (absent-machine c.args.by c.ranges.by c.if-by-eq-ABSENT.true)
    c.requires.same_length

pub returns-clause-values : goal.returns-clause-values
returns-clause-values c =
    lifted-min_plus c.args.by c.args.into.now c.args.from.now c.lift_max.new.into
    (present-machine c.args.by c.if-by-eq-ABSENT.false)
    (opposite-IsWithin c.args.by c.requires.by_is_good.good)
    (opposites-IsWithin c.args.from.now c.requires.from_is_good)
    (c.lift_max.ensures
    ∙ ap (λ by. lifted_max by c.args.into.now c.args.from.now) (to_z-of_z w64 c.args.by c.ranges.by))
