use Rattle.std.proofs.Common.{◌+◌, ◌*◌, subst, sym, ap, length, map, take, arith}
use Rattle.std.specs.List.{flat_map}
use Rattle.std.proofs.lemmas.List.{length_push}
use Rattle.fuse_core.specs.declared.wiring.Wires.{Wires}
use Rattle.fuse_core.specs.Wirings.{wires_on, source_lists, crossings, all_crossings}
use Rattle.fuse_core.specs.Places.{StandsAt}
use Rattle.fuse_core.proofs.Placed.{stands, same-at, each-push, all_crossings-pushed, all_crossings-take, cost-more}
use Rattle.fuse_core.proofs.Placed.{cost-part}
use Rattle.fuse_core.proofs.joining.joined.Goals as goal

pub returns-in_err-map-clause-cost : goal.returns-in_err-map-clause-cost
returns-in_err-map-clause-cost g c =
    let wiring = c.args.wiring.now in
    let i = c.loop-wires.wires-index in
    let wires = c.wires-item.result in
    let at = stands wiring i wires c.loop-wires-test.true c.wires-item.is in
    let pairs = g.M.Maps.size c.args.maps.now * g.M.Maps.size c.args.maps.now in
    cost-part (all_crossings (map wires_on (take (i + 1) wiring))) (all_crossings (map wires_on wiring)) pairs
    c.args.steps.now c.component_of.new.steps
    (all_crossings-take (i + 1) wiring)
    (cost-more (all_crossings (map wires_on (take i wiring))) (crossings wires.sources.items)
    (all_crossings (map wires_on (take (i + 1) wiring))) pairs
    c.args.steps.now c.loop-wires.steps c.component_of.new.steps (all_crossings-pushed wiring i wires at)
    c.loop-wires.invariant.cost
    (rw c.deref.ensures.value at c.in_err-map.ensures.cost))

pub returns-in_err-push-clause-cost : goal.returns-in_err-push-clause-cost
returns-in_err-push-clause-cost g c =
    let wiring = c.args.wiring.now in
    let i = c.loop-wires.wires-index in
    let wires = c.wires-item.result in
    let at = stands wiring i wires c.loop-wires-test.true c.wires-item.is in
    let pairs = g.M.Maps.size c.args.maps.now * g.M.Maps.size c.args.maps.now in
    cost-part (all_crossings (map wires_on (take (i + 1) wiring))) (all_crossings (map wires_on wiring)) pairs
    c.args.steps.now c.component_of.new.steps
    (all_crossings-take (i + 1) wiring)
    (cost-more (all_crossings (map wires_on (take i wiring))) (crossings wires.sources.items)
    (all_crossings (map wires_on (take (i + 1) wiring))) pairs
    c.args.steps.now c.loop-wires.steps c.component_of.new.steps (all_crossings-pushed wiring i wires at)
    c.loop-wires.invariant.cost
    (rw c.deref.ensures.value at c.in_ok-map.ensures.cost))

pub loop-wires-preserved : goal.loop-wires-preserved
loop-wires-preserved g c =
    let shows = g.M.Maps.shows c.args.maps.now in
    let wiring = c.args.wiring.now in
    let i = c.loop-wires.wires-index in
    let wires = c.wires-item.result in
    let at = stands wiring i wires c.loop-wires-test.true c.wires-item.is in
    let pairs = g.M.Maps.size c.args.maps.now * g.M.Maps.size c.args.maps.now in
    let before = c.loop-wires.made.items in
    let after = c.push.new.self.items in
    let made = c.in_ok-map.map in
    let pushed = c.in_ok-push.ensures.items in
    record {
      count = let long = ap length pushed in let one_more = length_push before made in let count =
          c.loop-wires.invariant.count in omega (arith, long, one_more, count);
      shows = λ earlier later es ls place w m w_at m_at.
          let here : StandsAt wiring (length before) wires = subst (λ n. StandsAt wiring n wires)
          (sym c.loop-wires.invariant.count) at in
          each-push (λ place m. (w : Wires) → StandsAt wiring place w
          → shows (flat_map (source_lists earlier later) w.sources.items) m)
          before after made
          (λ place m m_at w w_at. c.loop-wires.invariant.shows earlier later es ls place w m w_at m_at)
          (λ w w_at. subst (λ v. shows (flat_map (source_lists earlier later) v.sources.items) made)
          (same-at wiring (length before) wires w here w_at)
          ((rw c.deref.ensures.value at c.in_ok-map.ensures.shows) earlier later es ls))
          pushed place m m_at w w_at;
      cost = cost-more (all_crossings (map wires_on (take i wiring))) (crossings wires.sources.items)
          (all_crossings (map wires_on (take (i + 1) wiring))) pairs
          c.args.steps.now c.loop-wires.steps c.component_of.new.steps (all_crossings-pushed wiring i wires at)
          c.loop-wires.invariant.cost
          (rw c.deref.ensures.value at c.in_ok-map.ensures.cost);
    }
