-- One more candidate.
use Rattle.semiring_kit.specs.Semiring.{IsGood}
use Rattle.semiring_kit.proofs.Sums.{add_is_good}
use Rattle.std.proofs.Common.{sym, subst}
use Rattle.list_tests.proofs.best_lists.sum_of_candidates.Goals as goal

pub candidates-preserved : goal.candidates-preserved
candidates-preserved g c =
    let ring = g.S.Semiring.ring c.args.kit.now in
    subst (IsGood ring) (sym c.in_ok-sum-2.ensures)
    (add_is_good (g.met.S.Semiring.laws c.args.kit.now) c.candidates.sum c.in_ok-next.next
    c.candidates.invariant c.in_ok-next.ensures)
