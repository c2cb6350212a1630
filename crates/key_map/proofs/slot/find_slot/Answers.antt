use Rattle.std.proofs.Common.{rules}
use Rattle.std.proofs.lemmas.List.Sorted.{answers_always}
use Rattle.key_map.specs.Slots.{key_of}
use Rattle.key_map.proofs.Searches.{found_at, absent_at}
use Rattle.key_map.proofs.slot.find_slot.Goals as goal

pub returns-in-Ok-clause-found : goal.returns-in-Ok-clause-found
returns-in-Ok-clause-found g c =
    found_at c.args.slots.now c.args.key c.in-Ok.place c.index-slots-place.result
    (c.in-Ok.ensures.position key_of (answers_always _ _ _ (λ f x r l q. search rules))) c.in-Ok.ensures.bound
    c.index-slots-place.is

pub returns-in-Err-clause-absent : goal.returns-in-Err-clause-absent
returns-in-Err-clause-absent g c =
    absent_at c.args.slots.now c.args.key c.in-Err.field-0 c.requires
    (c.in-Err.ensures.position key_of (answers_always _ _ _ (λ f x r l q. search rules)))
