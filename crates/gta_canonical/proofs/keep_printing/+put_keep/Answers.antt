use Rattle.std.proofs.Common.{◌≡◌, refl}
use Rattle.gta_spec.specs.Parts.{keep_tree}
use Rattle.gta_spec.specs.Keep.{Both, Either}
use Rattle.gta_canonical.specs.Places.{place_of}
use Rattle.gta_canonical.proofs.Fronts.{both_written, either_written}
use Rattle.gta_canonical.proofs.keep_printing.+put_keep.Goals as goal

pub returns-in_ok-put_keep-in-Both-2 : goal.returns-in_ok-put_keep-in-Both-2
returns-in_ok-put_keep-in-Both-2 t c =
    let left = keep_tree c.deref-in-Both.result.now in
    let right = keep_tree c.deref-in-Both-2.result.now in
    let tree : keep_tree c.args.keep.now ≡ Both left right =
    rw (c.in-Both.is, c.deref-in-Both.ensures, c.deref-in-Both-2.ensures) refl in
    rw tree
    (both_written c.put_close.result (place_of c.args.place) c.args.glued c.encloses_both-enclosed.result left right
    c.args.out.now.items _ _ _ _ c.put_close.new.out.items c.encloses_both-enclosed.ensures
    c.in_ok-put_open-in-Both.ensures c.in_ok-put_keep-in-Both.ensures c.in_ok-put_spaced-in-Both.ensures
    c.in_ok-put_keep-in-Both-2.ensures c.put_close.ensures)

pub returns-in_ok-put_keep-in-Either-2 : goal.returns-in_ok-put_keep-in-Either-2
returns-in_ok-put_keep-in-Either-2 t c =
    let left = keep_tree c.deref-in-Either.result.now in
    let right = keep_tree c.deref-in-Either-2.result.now in
    let tree : keep_tree c.args.keep.now ≡ Either left right =
    rw (c.in-Either.is, c.deref-in-Either.ensures, c.deref-in-Either-2.ensures) refl in
    rw tree
    (either_written c.put_close-in-Either.result (place_of c.args.place) c.args.glued
    c.encloses_either-enclosed.result left right c.args.out.now.items _ _ _ _ c.put_close-in-Either.new.out.items
    c.encloses_either-enclosed.ensures
    c.in_ok-put_open-in-Either.ensures c.in_ok-put_keep-in-Either.ensures c.in_ok-put_spaced-in-Either.ensures
    c.in_ok-put_keep-in-Either-2.ensures c.put_close-in-Either.ensures)
