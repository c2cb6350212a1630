use Rattle.std.proofs.Common.{ap, w64, ◌∙◌}
use Rattle.std.proofs.lemmas.Int.{to_z-of_z}
use Rattle.lane_rows.specs.MaxLanes.{lifted_max}
use Rattle.lane_rows.proofs.MaxLanes.{absent-machine, present-machine, good-IsWithin, goods-IsWithin, lifted-max_plus}
use Rattle.lane_rows.proofs.MaxLanes.{unlifted-max_plus}
use Rattle.lane_rows.proofs.max_plus.MaxPlusLanes.lift.Goals as goal

pub returns-then-by-eq-ABSENT-clause-values : goal.returns-then-by-eq-ABSENT-clause-values
returns-then-by-eq-ABSENT-clause-values c =
    unlifted-max_plus c.args.by c.args.into.now c.args.from.now
    (absent-machine c.args.by c.ranges.by c.if-by-eq-ABSENT.true)
    c.requires.same_length

pub returns-clause-values : goal.returns-clause-values
returns-clause-values c =
    lifted-max_plus c.args.by c.args.into.now c.args.from.now c.lift_max.new.into
    (present-machine c.args.by c.if-by-eq-ABSENT.false)
    (good-IsWithin c.args.by c.requires.by_is_good.good)
    (goods-IsWithin c.args.from.now c.requires.from_is_good)
    (c.lift_max.ensures
    ∙ ap (λ by. lifted_max by c.args.into.now c.args.from.now) (to_z-of_z w64 c.args.by c.ranges.by))
