use Rattle.std.proofs.Common.{◌≡◌, ◌++◌, ◌∷◌, subst, sym, ap, ◌∙◌, length, drop, arith}
use Rattle.std.proofs.lemmas.List.{length_push}
use Rattle.fuse_core.specs.declared.wiring.Wires.{Wires}
use Rattle.fuse_core.specs.Wirings.{kept_lists}
use Rattle.fuse_core.specs.Places.{StandsAt}
use Rattle.fuse_core.proofs.Placed.{stands, same-at, each-push, drop-first, drop-rest}
use Rattle.fuse_core.proofs.growing.kept_and_added.Goals as goal

pub kept_with-requires-clause-later_fits : goal.kept_with-requires-clause-later_fits
kept_with-requires-clause-later_fits g c =
    c.requires.later_fit c.loop-wires.wires-index c.take_first-old.result
    (drop-first c.args.later.items c.loop-wires.wires-index c.take_first-old.result c.take_first-old.new.items.items
    (sym c.loop-wires.invariant.later ∙ c.take_first-old.ensures))

pub kept_with-requires-clause-added_fits : goal.kept_with-requires-clause-added_fits
kept_with-requires-clause-added_fits g c =
    c.requires.added_fit c.loop-wires.wires-index c.take_first-new.result
    (drop-first c.args.added.items c.loop-wires.wires-index c.take_first-new.result c.take_first-new.new.items.items
    (sym c.loop-wires.invariant.added ∙ c.take_first-new.ensures))

pub loop-wires-preserved : goal.loop-wires-preserved
loop-wires-preserved g c =
    let shows = g.M.Maps.shows c.args.maps.now in
    let wiring = c.args.wiring.now in
    let i = c.loop-wires.wires-index in
    let wires = c.wires-item.result in
    let at = stands wiring i wires c.loop-wires-test.true c.wires-item.is in
    let before = c.loop-wires.made.items in
    let after = c.push.new.self.items in
    let made = c.in_ok-map.map in
    let pushed = c.in_ok-push.ensures.items in
    let old = c.take_first-old.result in
    let new = c.take_first-new.result in
    let old_split : drop i c.args.later.items ≡ old ∷ c.take_first-old.new.items.items = sym
    c.loop-wires.invariant.later ∙ c.take_first-old.ensures in
    let new_split : drop i c.args.added.items ≡ new ∷ c.take_first-new.new.items.items = sym
    c.loop-wires.invariant.added ∙ c.take_first-new.ensures in
    record {
      later = drop-rest c.args.later.items i old c.take_first-old.new.items.items old_split;
      added = drop-rest c.args.added.items i new c.take_first-new.new.items.items new_split;
      count = let long = ap length pushed in let one_more = length_push before made in let count =
          c.loop-wires.invariant.count in omega (arith, long, one_more, count);
      shows = λ lists brought ls bs place w m w_at m_at.
          each-push (λ place m. (w : Wires) → StandsAt wiring place w
          → shows (kept_lists w.keeps (lists place) ++ brought place) m)
          before after made
          (λ place m m_at w w_at. c.loop-wires.invariant.shows lists brought ls bs place w m w_at m_at)
          (subst (λ n. (w : Wires) → StandsAt wiring n w → shows (kept_lists w.keeps (lists n) ++ brought n) made)
          (sym c.loop-wires.invariant.count)
          (λ w w_at. subst (λ v. shows (kept_lists v.keeps (lists i) ++ brought i) made)
          (same-at wiring i wires w at w_at)
          (c.in_ok-map.ensures (lists i) (brought i)
          (ls i old (drop-first c.args.later.items i old c.take_first-old.new.items.items old_split))
          (bs i new (drop-first c.args.added.items i new c.take_first-new.new.items.items new_split)))))
          pushed place m m_at w w_at;
    }
