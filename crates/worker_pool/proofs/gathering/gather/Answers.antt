use Rattle.std.proofs.Common.{◌≡◌, ◌∙◌, ◌+◌, ◌<◌, ◌≤◌, length, get_or, set, None, MatchOption, ap, sym, subst, arith}
use Rattle.board_core.proofs.PlaceLemmas.{item_is}
use Rattle.interval_kit.specs.Cut.{IsCut}
use Rattle.worker_pool.specs.Slots.{IsGoodSlot, AreLongest, part_of}
use Rattle.worker_pool.specs.Walk.{part_cost, walk, walk_cost}
use Rattle.worker_pool.proofs.Walking.{part_here, starts, next_within, slot_is_good, part_affords, joined_affords}
use Rattle.worker_pool.proofs.Walking.{before_part, skipped, stepped, part_within}
use Rattle.worker_pool.proofs.gathering.gather.Goals as goal
use Rattle.worker_pool.proofs.gathering.gather.Goals.{then-at-lo+in_ok-part+in_ok-joined, else-at-lo}

pub loop-place-init : goal.loop-place-init
loop-place-init g c =
    let cut = subst (λ bs. IsCut (g.F.Fused.rows c.args.plan.now) bs) (sym c.bounds-bounds.ensures.bounds)
    c.requires.cut in
    starts (g.F.Fused.stands c.args.plan.now) (g.F.Fused.leaf_bound c.args.plan.now)
    (g.F.Fused.join_bound c.args.plan.now) c.bounds-bounds.result.now c.args.pieces.items
    (g.F.Fused.rows c.args.plan.now) cut c.requires.pieces c.as_mut_slice-places.result.now c.args.steps.now
    (subst (λ ss. AreLongest c.bounds-bounds.result.now c.args.pieces.items 0 ss)
    (sym c.as_mut_slice-places.ensures.value) c.in_ok-slots.ensures.longest)

pub part_from-requires-clause-ordered : goal.part_from-requires-clause-ordered
part_from-requires-clause-ordered g c = λ κs low.
    let cut = subst (λ bs. IsCut (g.F.Fused.rows c.args.plan.now) bs) (sym c.bounds-bounds.ensures.bounds)
    c.requires.cut in
    (next_within (g.F.Fused.stands c.args.plan.now) (g.F.Fused.leaf_bound c.args.plan.now)
    (g.F.Fused.join_bound c.args.plan.now) c.bounds-bounds.result.now c.args.pieces.items
    (g.F.Fused.rows c.args.plan.now) cut c.requires.pieces c.loop-place.place (omega arith)).0

pub part_from-requires-clause-within : goal.part_from-requires-clause-within
part_from-requires-clause-within g c = λ κs low.
    let cut = subst (λ bs. IsCut (g.F.Fused.rows c.args.plan.now) bs) (sym c.bounds-bounds.ensures.bounds)
    c.requires.cut in
    (next_within (g.F.Fused.stands c.args.plan.now) (g.F.Fused.leaf_bound c.args.plan.now)
    (g.F.Fused.join_bound c.args.plan.now) c.bounds-bounds.result.now c.args.pieces.items
    (g.F.Fused.rows c.args.plan.now) cut c.requires.pieces c.loop-place.place (omega arith)).1

pub part_from-requires-clause-slot : goal.part_from-requires-clause-slot
part_from-requires-clause-slot g c = λ κs low.
    let cut = subst (λ bs. IsCut (g.F.Fused.rows c.args.plan.now) bs) (sym c.bounds-bounds.ensures.bounds)
    c.requires.cut in
    let within : c.loop-place.place + 1 < length c.bounds-bounds.result.now = omega arith in
    let there : c.loop-place.place < length c.loop-place.places =
    omega (
      arith,
      c.loop-place.auto.places,
      ap (λ ss. length ss) c.as_mut_slice-places.ensures.value,
      c.in_ok-slots.ensures.len,
    ) in
    let slot : c.take.result ≡ get_or c.loop-place.places c.loop-place.place None =
    c.take.ensures.value ∙ sym c.index-places-place.is
    ∙ sym (item_is c.loop-place.places c.loop-place.place c.index-places-place.result None there
    c.index-places-place.is) in
    subst (λ s. IsGoodSlot (g.F.Fused.rows c.args.plan.now) (g.F.Fused.stands c.args.plan.now)
    (get_or c.bounds-bounds.result.now c.loop-place.place 0) s) (sym slot)
    (slot_is_good (g.F.Fused.stands c.args.plan.now) (g.F.Fused.leaf_bound c.args.plan.now)
    (g.F.Fused.join_bound c.args.plan.now) c.bounds-bounds.result.now c.args.pieces.items
    (g.F.Fused.rows c.args.plan.now) cut c.requires.pieces c.loop-place.place c.loop-place.at c.loop-place.value
    c.loop-place.places c.args.steps.now c.loop-place.steps within c.loop-place.invariant)

pub returns-in_err-part-clause-cost : goal.returns-in_err-part-clause-cost
returns-in_err-part-clause-cost g c =
    let cut = subst (λ bs. IsCut (g.F.Fused.rows c.args.plan.now) bs) (sym c.bounds-bounds.ensures.bounds)
    c.requires.cut in
    let within : c.loop-place.place + 1 < length c.bounds-bounds.result.now = omega arith in
    let there : c.loop-place.place < length c.loop-place.places =
    omega (
      arith,
      c.loop-place.auto.places,
      ap (λ ss. length ss) c.as_mut_slice-places.ensures.value,
      c.in_ok-slots.ensures.len,
    ) in
    let slot : c.take.result ≡ get_or c.loop-place.places c.loop-place.place None =
    c.take.ensures.value ∙ sym c.index-places-place.is
    ∙ sym (item_is c.loop-place.places c.loop-place.place c.index-places-place.result None there
    c.index-places-place.is) in
    let cost : c.part_from.new.steps ≤ c.loop-place.steps + part_cost (g.F.Fused.leaf_bound c.args.plan.now)
    (part_here (g.F.Fused.stands c.args.plan.now) (g.F.Fused.leaf_bound c.args.plan.now)
    (g.F.Fused.join_bound c.args.plan.now) c.bounds-bounds.result.now c.args.pieces.items c.loop-place.place
    c.loop-place.places) =
    subst (λ s. c.part_from.new.steps ≤ c.loop-place.steps + part_cost (g.F.Fused.leaf_bound c.args.plan.now)
    (part_of (get_or c.bounds-bounds.result.now c.loop-place.place 0)
    (get_or c.bounds-bounds.result.now (c.loop-place.place + 1) 0) s)) slot c.in_err-part.ensures.cost in
    subst (λ bs. c.part_from.new.steps ≤ c.args.steps.now + walk_cost (g.F.Fused.leaf_bound c.args.plan.now)
    (g.F.Fused.join_bound c.args.plan.now) (walk bs c.args.pieces.items)) c.bounds-bounds.ensures.bounds
    (part_affords (g.F.Fused.stands c.args.plan.now) (g.F.Fused.leaf_bound c.args.plan.now)
    (g.F.Fused.join_bound c.args.plan.now) c.bounds-bounds.result.now c.args.pieces.items
    (g.F.Fused.rows c.args.plan.now) cut c.requires.pieces c.loop-place.place c.loop-place.at c.loop-place.value
    c.loop-place.places c.args.steps.now c.loop-place.steps within c.loop-place.invariant c.if-at-lo.true
    c.part_from.new.steps cost)

pub joined-requires-clause-ordered : goal.joined-requires-clause-ordered
joined-requires-clause-ordered g c = λ κs low.
    let cut = subst (λ bs. IsCut (g.F.Fused.rows c.args.plan.now) bs) (sym c.bounds-bounds.ensures.bounds)
    c.requires.cut in
    let within : c.loop-place.place + 1 < length c.bounds-bounds.result.now = omega arith in
    let there : c.loop-place.place < length c.loop-place.places =
    omega (
      arith,
      c.loop-place.auto.places,
      ap (λ ss. length ss) c.as_mut_slice-places.ensures.value,
      c.in_ok-slots.ensures.len,
    ) in
    let slot : c.take.result ≡ get_or c.loop-place.places c.loop-place.place None =
    c.take.ensures.value ∙ sym c.index-places-place.is
    ∙ sym (item_is c.loop-place.places c.loop-place.place c.index-places-place.result None there
    c.index-places-place.is) in
    let hi : c.in_ok-part.part.hi ≡
    (part_here (g.F.Fused.stands c.args.plan.now) (g.F.Fused.leaf_bound c.args.plan.now)
    (g.F.Fused.join_bound c.args.plan.now) c.bounds-bounds.result.now c.args.pieces.items c.loop-place.place
    c.loop-place.places).hi =
    c.in_ok-part.ensures.interval.1
    ∙ ap (λ s. (part_of (get_or c.bounds-bounds.result.now c.loop-place.place 0)
    (get_or c.bounds-bounds.result.now (c.loop-place.place + 1) 0) s).hi) slot in
    let ends = part_within (g.F.Fused.stands c.args.plan.now) (g.F.Fused.leaf_bound c.args.plan.now)
    (g.F.Fused.join_bound c.args.plan.now) c.bounds-bounds.result.now c.args.pieces.items
    (g.F.Fused.rows c.args.plan.now) cut c.requires.pieces c.loop-place.place c.loop-place.at c.loop-place.value
    c.loop-place.places c.args.steps.now c.loop-place.steps within c.loop-place.invariant in
    omega (arith, ends.0, hi, c.in_ok-part.ensures.interval.0)

pub joined-requires-clause-within : goal.joined-requires-clause-within
joined-requires-clause-within g c = λ κs low.
    let cut = subst (λ bs. IsCut (g.F.Fused.rows c.args.plan.now) bs) (sym c.bounds-bounds.ensures.bounds)
    c.requires.cut in
    let within : c.loop-place.place + 1 < length c.bounds-bounds.result.now = omega arith in
    let there : c.loop-place.place < length c.loop-place.places =
    omega (
      arith,
      c.loop-place.auto.places,
      ap (λ ss. length ss) c.as_mut_slice-places.ensures.value,
      c.in_ok-slots.ensures.len,
    ) in
    let slot : c.take.result ≡ get_or c.loop-place.places c.loop-place.place None =
    c.take.ensures.value ∙ sym c.index-places-place.is
    ∙ sym (item_is c.loop-place.places c.loop-place.place c.index-places-place.result None there
    c.index-places-place.is) in
    let hi : c.in_ok-part.part.hi ≡
    (part_here (g.F.Fused.stands c.args.plan.now) (g.F.Fused.leaf_bound c.args.plan.now)
    (g.F.Fused.join_bound c.args.plan.now) c.bounds-bounds.result.now c.args.pieces.items c.loop-place.place
    c.loop-place.places).hi =
    c.in_ok-part.ensures.interval.1
    ∙ ap (λ s. (part_of (get_or c.bounds-bounds.result.now c.loop-place.place 0)
    (get_or c.bounds-bounds.result.now (c.loop-place.place + 1) 0) s).hi) slot in
    let ends = part_within (g.F.Fused.stands c.args.plan.now) (g.F.Fused.leaf_bound c.args.plan.now)
    (g.F.Fused.join_bound c.args.plan.now) c.bounds-bounds.result.now c.args.pieces.items
    (g.F.Fused.rows c.args.plan.now) cut c.requires.pieces c.loop-place.place c.loop-place.at c.loop-place.value
    c.loop-place.places c.args.steps.now c.loop-place.steps within c.loop-place.invariant in
    omega (arith, ends.1, hi)

pub joined-requires-clause-before : goal.joined-requires-clause-before
joined-requires-clause-before g c = λ κs low.
    let cut = subst (λ bs. IsCut (g.F.Fused.rows c.args.plan.now) bs) (sym c.bounds-bounds.ensures.bounds)
    c.requires.cut in
    let within : c.loop-place.place + 1 < length c.bounds-bounds.result.now = omega arith in
    subst (λ lo. MatchOption c.loop-place.value (lo ≡ 0) (g.F.Fused.stands c.args.plan.now 0 lo))
    (sym c.in_ok-part.ensures.interval.0)
    (before_part (g.F.Fused.stands c.args.plan.now) (g.F.Fused.leaf_bound c.args.plan.now)
    (g.F.Fused.join_bound c.args.plan.now) c.bounds-bounds.result.now c.args.pieces.items
    (g.F.Fused.rows c.args.plan.now) cut c.requires.pieces c.loop-place.place c.loop-place.at c.loop-place.value
    c.loop-place.places c.args.steps.now c.loop-place.steps within c.loop-place.invariant c.if-at-lo.true)

pub returns-in_err-joined-clause-cost : goal.returns-in_err-joined-clause-cost
returns-in_err-joined-clause-cost g c =
    let cut = subst (λ bs. IsCut (g.F.Fused.rows c.args.plan.now) bs) (sym c.bounds-bounds.ensures.bounds)
    c.requires.cut in
    let within : c.loop-place.place + 1 < length c.bounds-bounds.result.now = omega arith in
    let there : c.loop-place.place < length c.loop-place.places =
    omega (
      arith,
      c.loop-place.auto.places,
      ap (λ ss. length ss) c.as_mut_slice-places.ensures.value,
      c.in_ok-slots.ensures.len,
    ) in
    let slot : c.take.result ≡ get_or c.loop-place.places c.loop-place.place None =
    c.take.ensures.value ∙ sym c.index-places-place.is
    ∙ sym (item_is c.loop-place.places c.loop-place.place c.index-places-place.result None there
    c.index-places-place.is) in
    let cost : c.part_from.new.steps ≤ c.loop-place.steps + part_cost (g.F.Fused.leaf_bound c.args.plan.now)
    (part_here (g.F.Fused.stands c.args.plan.now) (g.F.Fused.leaf_bound c.args.plan.now)
    (g.F.Fused.join_bound c.args.plan.now) c.bounds-bounds.result.now c.args.pieces.items c.loop-place.place
    c.loop-place.places) =
    subst (λ s. c.part_from.new.steps ≤ c.loop-place.steps + part_cost (g.F.Fused.leaf_bound c.args.plan.now)
    (part_of (get_or c.bounds-bounds.result.now c.loop-place.place 0)
    (get_or c.bounds-bounds.result.now (c.loop-place.place + 1) 0) s)) slot c.in_ok-part.ensures.cost in
    subst (λ bs. c.joined.new.steps ≤ c.args.steps.now + walk_cost (g.F.Fused.leaf_bound c.args.plan.now)
    (g.F.Fused.join_bound c.args.plan.now) (walk bs c.args.pieces.items)) c.bounds-bounds.ensures.bounds
    (joined_affords (g.F.Fused.stands c.args.plan.now) (g.F.Fused.leaf_bound c.args.plan.now)
    (g.F.Fused.join_bound c.args.plan.now) c.bounds-bounds.result.now c.args.pieces.items
    (g.F.Fused.rows c.args.plan.now) cut c.requires.pieces c.loop-place.place c.loop-place.at c.loop-place.value
    c.loop-place.places c.args.steps.now c.loop-place.steps within c.loop-place.invariant c.if-at-lo.true
    c.part_from.new.steps c.joined.new.steps cost c.in_err-joined.ensures.cost)

pub loop-place-preserved : goal.loop-place-preserved
loop-place-preserved g c =
    let cut = subst (λ bs. IsCut (g.F.Fused.rows c.args.plan.now) bs) (sym c.bounds-bounds.ensures.bounds)
    c.requires.cut in
    let within : c.loop-place.place + 1 < length c.bounds-bounds.result.now = omega arith in
    elim c.if-at-lo.branch [
      | then-at-lo+in_ok-part+in_ok-joined w ↦
          let there : c.loop-place.place < length c.loop-place.places =
          omega (
            arith,
            c.loop-place.auto.places,
            ap (λ ss. length ss) c.as_mut_slice-places.ensures.value,
            c.in_ok-slots.ensures.len,
          ) in
          let slot : w.take.result ≡ get_or c.loop-place.places c.loop-place.place None =
          w.take.ensures.value ∙ sym w.index-places-place.is
          ∙ sym (item_is c.loop-place.places c.loop-place.place w.index-places-place.result None there
          w.index-places-place.is) in
          let cost : w.part_from.new.steps ≤ c.loop-place.steps + part_cost (g.F.Fused.leaf_bound c.args.plan.now)
          (part_here (g.F.Fused.stands c.args.plan.now) (g.F.Fused.leaf_bound c.args.plan.now)
          (g.F.Fused.join_bound c.args.plan.now) c.bounds-bounds.result.now c.args.pieces.items
          c.loop-place.place c.loop-place.places) =
          subst (λ s. w.part_from.new.steps ≤ c.loop-place.steps + part_cost (g.F.Fused.leaf_bound c.args.plan.now)
          (part_of (get_or c.bounds-bounds.result.now c.loop-place.place 0)
          (get_or c.bounds-bounds.result.now (c.loop-place.place + 1) 0) s)) slot w.in_ok-part.ensures.cost in
          let hi : w.in_ok-part.part.hi ≡
          (part_here (g.F.Fused.stands c.args.plan.now) (g.F.Fused.leaf_bound c.args.plan.now)
          (g.F.Fused.join_bound c.args.plan.now) c.bounds-bounds.result.now c.args.pieces.items
          c.loop-place.place c.loop-place.places).hi =
          w.in_ok-part.ensures.interval.1
          ∙ ap (λ s. (part_of (get_or c.bounds-bounds.result.now c.loop-place.place 0)
          (get_or c.bounds-bounds.result.now (c.loop-place.place + 1) 0) s).hi) slot in
          rw (w.steps-is, w.places-is, w.at-is, w.value-is)
          (stepped (g.F.Fused.stands c.args.plan.now) (g.F.Fused.leaf_bound c.args.plan.now)
          (g.F.Fused.join_bound c.args.plan.now) c.bounds-bounds.result.now c.args.pieces.items
          (g.F.Fused.rows c.args.plan.now) cut c.requires.pieces c.loop-place.place c.loop-place.at
          c.loop-place.value c.loop-place.places c.args.steps.now c.loop-place.steps within
          c.loop-place.invariant w.if-at-lo.true
          _ w.in_ok-part.part.hi w.part_from.new.steps w.joined.new.steps _
          (ap (λ s. set c.loop-place.places c.loop-place.place s) w.take.ensures.after) hi
          w.in_ok-joined.ensures.stands cost w.in_ok-joined.ensures.cost)
      | else-at-lo w ↦
          rw (w.steps-is, w.places-is, w.at-is, w.value-is)
          (skipped (g.F.Fused.stands c.args.plan.now) (g.F.Fused.leaf_bound c.args.plan.now)
          (g.F.Fused.join_bound c.args.plan.now) c.bounds-bounds.result.now c.args.pieces.items
          (g.F.Fused.rows c.args.plan.now) cut c.requires.pieces c.loop-place.place c.loop-place.at
          c.loop-place.value c.loop-place.places c.args.steps.now c.loop-place.steps within
          c.loop-place.invariant w.if-at-lo.false)
    ]
