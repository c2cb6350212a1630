use Rattle.std.proofs.Common.{◌<◌, List, ℕ, length, sym, arith}
use Rattle.std.specs.Str.{bytes_eq}
use Rattle.std.proofs.lemmas.List.{length-map}
use Rattle.gta_rows.specs.Fields.{trimmed_fields}
use Rattle.gta_rows.proofs.Places.{place_more, place_here}
use Rattle.gta_rows.proofs.header.place_in.Goals as goal

pub returns-then-is_at : goal.returns-then-is_at
returns-then-is_at c =
    sym (place_here (λ (field : List ℕ). bytes_eq field c.args.text.now)
    (trimmed_fields c.args.header.now) c.loop-place.place
    c.loop-place.invariant (sym c.if-is_at.ensures))

pub loop-place-preserved : goal.loop-place-preserved
loop-place-preserved c =
    let within : c.loop-place.place < length (trimmed_fields c.args.header.now) = rw length-map (omega arith) in
    place_more (λ (field : List ℕ). bytes_eq field c.args.text.now)
    (trimmed_fields c.args.header.now) c.loop-place.place within
    c.loop-place.invariant (sym c.if-is_at.ensures)
