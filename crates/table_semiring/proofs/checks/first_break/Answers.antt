use Rattle.std.proofs.Common.{sym, below_more, ◌∙◌, arith}
use Rattle.table_semiring.specs.declared.laws.TheConstants.{LAWS}
use Rattle.table_semiring.specs.FirstBreak.{is_broken, places}
use Rattle.table_semiring.specs.TableOf.{plain_raw}
use Rattle.table_semiring.proofs.Finds.{find-flat_map_range_at, find-flat_map_range_nowhere}
use Rattle.table_semiring.proofs.checks.first_break.Goals as goal

pub returns-in-Some : goal.returns-in-Some
returns-in-Some c =
    let t = plain_raw c.args.raw.now in
    sym (find-flat_map_range_at (is_broken t) (places t) LAWS c.loop-law.law c.in-Some.at
    c.loop-law-test.true c.loop-law.invariant (sym c.in-Some.ensures))

pub loop-law-preserved : goal.loop-law-preserved
loop-law-preserved c = below_more _ _ c.loop-law.invariant (sym c.first_of_law.ensures ∙ c.in_default.is)

pub returns : goal.returns
returns c =
    let t = plain_raw c.args.raw.now in
    sym (find-flat_map_range_nowhere (is_broken t) (places t) LAWS (λ k below. c.loop-law.invariant k (omega arith)))
