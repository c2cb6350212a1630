use Rattle.std.proofs.Common.{◌+◌, subst, sym, ap, length, map, take, arith}
use Rattle.std.proofs.lemmas.List.{length_push}
use Rattle.fuse_core.specs.Wirings.{wires_on, shifts, all_shifts}
use Rattle.fuse_core.specs.Places.{StandsAt}
use Rattle.fuse_core.proofs.Placed.{stands, each-push, all_shifts-pushed, all_shifts-take, cost-more, cost-part}
use Rattle.fuse_core.proofs.growing.brought.Goals as goal

pub returns-in_err-map-clause-cost : goal.returns-in_err-map-clause-cost
returns-in_err-map-clause-cost g c =
    let wiring = c.args.wiring.now in
    let i = c.loop-wires.wires-index in
    let wires = c.wires-item.result in
    let at = stands wiring i wires c.loop-wires-test.true c.wires-item.is in
    let size = g.M.Maps.size c.args.maps.now in
    cost-part (all_shifts (map wires_on (take (i + 1) wiring))) (all_shifts (map wires_on wiring)) size
    c.args.steps.now c.grown.new.steps
    (all_shifts-take (i + 1) wiring)
    (cost-more (all_shifts (map wires_on (take i wiring))) (shifts wires.growths.items)
    (all_shifts (map wires_on (take (i + 1) wiring))) size
    c.args.steps.now c.loop-wires.steps c.grown.new.steps (all_shifts-pushed wiring i wires at)
    c.loop-wires.invariant.cost
    (rw c.deref.ensures.value at c.in_err-map.ensures.cost))

pub returns-in_err-push-clause-cost : goal.returns-in_err-push-clause-cost
returns-in_err-push-clause-cost g c =
    let wiring = c.args.wiring.now in
    let i = c.loop-wires.wires-index in
    let wires = c.wires-item.result in
    let at = stands wiring i wires c.loop-wires-test.true c.wires-item.is in
    let size = g.M.Maps.size c.args.maps.now in
    cost-part (all_shifts (map wires_on (take (i + 1) wiring))) (all_shifts (map wires_on wiring)) size
    c.args.steps.now c.grown.new.steps
    (all_shifts-take (i + 1) wiring)
    (cost-more (all_shifts (map wires_on (take i wiring))) (shifts wires.growths.items)
    (all_shifts (map wires_on (take (i + 1) wiring))) size
    c.args.steps.now c.loop-wires.steps c.grown.new.steps (all_shifts-pushed wiring i wires at)
    c.loop-wires.invariant.cost
    (rw c.deref.ensures.value at c.in_ok-map.ensures.cost))

pub loop-wires-preserved : goal.loop-wires-preserved
loop-wires-preserved g c =
    let fits = g.M.Maps.fits c.args.maps.now in
    let shows = g.M.Maps.shows c.args.maps.now in
    let wiring = c.args.wiring.now in
    let i = c.loop-wires.wires-index in
    let wires = c.wires-item.result in
    let at = stands wiring i wires c.loop-wires-test.true c.wires-item.is in
    let size = g.M.Maps.size c.args.maps.now in
    let before = c.loop-wires.added.items in
    let after = c.push.new.self.items in
    let made = c.in_ok-map.map in
    let pushed = c.in_ok-push.ensures.items in
    record {
      count = let long = ap length pushed in let one_more = length_push before made in let count =
          c.loop-wires.invariant.count in omega (arith, long, one_more, count);
      fit = each-push (λ place m. fits m) before after made c.loop-wires.invariant.fit c.in_ok-map.ensures.fits pushed;
      shows = λ lists added bring ls.
          let so_far = c.loop-wires.invariant.shows lists added bring ls in
          let here : StandsAt wiring (length before) wires = subst (λ n. StandsAt wiring n wires)
          (sym c.loop-wires.invariant.count) at in
          each-push (λ place m. shows (added place) m) before after made so_far
          (subst (λ l. shows l made) (sym (bring (length before) wires here))
          ((rw (c.deref.ensures.value, c.deref-in-loop-wires.ensures.value) at c.in_ok-map.ensures.shows) lists added
          ls so_far))
          pushed;
      cost = cost-more (all_shifts (map wires_on (take i wiring))) (shifts wires.growths.items)
          (all_shifts (map wires_on (take (i + 1) wiring))) size
          c.args.steps.now c.loop-wires.steps c.grown.new.steps (all_shifts-pushed wiring i wires at)
          c.loop-wires.invariant.cost
          (rw c.deref.ensures.value at c.in_ok-map.ensures.cost);
    }
