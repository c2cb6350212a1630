use Rattle.std.proofs.Common.{arith, ap, ◌∙◌}
use Rattle.std.proofs.lemmas.List.{length_push}
use Rattle.key_map.proofs.Slots.{slots_from-push_some, slots_from-push_none}
use Rattle.key_map.proofs.row.slots_of.Goals as goal
use Rattle.key_map.proofs.row.slots_of.Goals.{in-Some-place+in_ok-push, in_default}

pub loop-place-preserved : goal.loop-place-preserved
loop-place-preserved g c = record {
  kept = elim c.match-place.branch [
    | in-Some-place+in_ok-push w ↦
        slots_from-push_some c.loop-place.yielded c.in-Some.place c.loop-place.slots.items c.match-place.slots.items
        c.loop-place.key w.in-Some-place.elem c.loop-place.invariant.kept c.loop-place.invariant.count
        w.in-Some-place.is
        (ap (λ v. v.items) w.slots-is ∙ w.in_ok-push.ensures.items)
    | in_default w ↦
        slots_from-push_none c.loop-place.yielded c.in-Some.place c.match-place.slots.items
        (ap (λ v. v.items) w.slots-is ∙ c.loop-place.invariant.kept)
        w.in_default.is
  ];
  count = let more = length_push c.loop-place.yielded c.in-Some.place in
      let count = c.loop-place.invariant.count in omega arith;
}
