use Rattle.std.proofs.Common.{◌≡◌, ◌<◌, All, length, sym, subst}
use Rattle.auto_monoid.specs.TransitionOf.{machine, functions}
use Rattle.auto_monoid.proofs.Products.{all_functions}
use Rattle.auto_monoid.proofs.monoid.AutoMonoid.state_after.Goals as goal

pub at-requires : goal.at-requires
at-requires c =
    let monoid = c.args.self.now in
    let is_function = all_functions (machine monoid) monoid.is_auto (functions monoid) monoid.numbered
    c.args.element c.index.result.now c.requires.is_element in
    let whole = subst (λ f. length f ≡ (machine monoid).states) (sym c.index.ensures) is_function.whole in
    subst (λ n. (machine monoid).start < n) (sym whole) monoid.is_auto.start_is_state

pub returns-clause-is_state : goal.returns-clause-is_state
returns-clause-is_state c =
    let monoid = c.args.self.now in
    let is_function = all_functions (machine monoid) monoid.is_auto (functions monoid) monoid.numbered
    c.args.element c.index.result.now c.requires.is_element in
    let whole = subst (λ f. length f ≡ (machine monoid).states) (sym c.index.ensures) is_function.whole in
    let inside = subst (λ n. (machine monoid).start < n) (sym whole) monoid.is_auto.start_is_state in
    let below = subst (λ f. All (λ state. state < (machine monoid).states) f) (sym c.index.ensures) is_function.below in
    subst (λ state. state < (machine monoid).states) (sym c.at.ensures) (below (machine monoid).start 0 inside)
