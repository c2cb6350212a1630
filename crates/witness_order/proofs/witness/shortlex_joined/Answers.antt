-- Of one length, both are walked: the first parts, and then the second ones.
use Rattle.std.proofs.Common.{◌≡◌, ◌+◌, length, rules, refl}
use Rattle.std.specs.Ordering.{nat_cmp}
use Rattle.std.specs.declared.cmp.Ordering.TheVariants.{Equal}
use Rattle.std.proofs.lemmas.Iterator.{YieldsList-from_slice}
use Rattle.std.proofs.lemmas.Iterator.Consumers.{YieldsList-from_chain}
use Rattle.std.proofs.lemmas.Iterator.Search.{cmp_from_yields_List}
use Rattle.witness_order.specs.Shortlex.{mark_order}
use Rattle.witness_order.proofs.JoinedLists.{shortlex_even}
use Rattle.witness_order.proofs.witness.shortlex_joined.Goals as goal

pub returns-in-Equal : goal.returns-in-Equal
returns-in-Equal c =
    let even : nat_cmp (length c.args.a.now + length c.args.b.now) (length c.args.c.now + length c.args.d.now) ≡
    Equal = search rules in
    shortlex_even mark_order c.args.a.now c.args.b.now c.args.c.now c.args.d.now _ even
    (cmp_from_yields_List (λ x y. y ≡ x) _ mark_order _ c.cmp-in-Equal.ensures.ran
    (YieldsList-from_chain (YieldsList-from_slice c.args.a.now cc) (YieldsList-from_slice c.args.b.now cc) (cc) (cc))
    (λ it e. YieldsList-from_chain (YieldsList-from_slice c.args.c.now cc) (YieldsList-from_slice c.args.d.now cc)
    (cc) (cc))
    (λ x y. refl))
