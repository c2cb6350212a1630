use Rattle.std.proofs.Common.{◌∙◌, ◌+◌, ◌<◌, List, ℕ, [], length, sym, ap, arith}
use Rattle.std.specs.Str.{bytes_eq}
use Rattle.std.proofs.lemmas.List.{length-map}
use Rattle.gta_rows.specs.Fields.{trimmed_fields}
use Rattle.gta_rows.proofs.Places.{count_hit, count_miss}
use Rattle.gta_rows.proofs.header.times_in.Goals as goal
use Rattle.gta_rows.proofs.header.times_in.Goals.{then-is_at, else-is_at}

pub loop-place-preserved : goal.loop-place-preserved
loop-place-preserved c =
    let within : c.loop-place.place < length (trimmed_fields c.args.header.now) = rw length-map (omega arith) in
    elim c.if-is_at.branch [
      | then-is_at w ↦ w.times-is ∙ ap (λ (n : ℕ). n + 1) c.loop-place.invariant
          ∙ sym (count_hit (λ (field : List ℕ). bytes_eq field c.args.text.now)
          (trimmed_fields c.args.header.now) c.loop-place.place [] within
          (sym w.if-is_at.ensures))
      | else-is_at w ↦ w.times-is ∙ c.loop-place.invariant
          ∙ sym (count_miss (λ (field : List ℕ). bytes_eq field c.args.text.now)
          (trimmed_fields c.args.header.now) c.loop-place.place [] within
          (sym w.if-is_at.ensures))
    ]
