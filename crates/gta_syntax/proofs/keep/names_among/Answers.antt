use Rattle.std.proofs.Common.{◌<◌, true, false, length, arith, sym}
use Rattle.std.proofs.lemmas.List.{length-drop}
use Rattle.gta_text.specs.declared.token.Token.{Token}
use Rattle.gta_syntax.proofs.KeepLoops.{names_next}
use Rattle.gta_syntax.proofs.keep.names_among.Goals.{then-begins_name, else-begins_name}
use Rattle.gta_syntax.proofs.keep.names_among.Goals as goal

pub loop-preserved : goal.loop-preserved
loop-preserved c =
    let some : 0 < length c.loop.rest.now = omega (arith, c.loop-test.true) in
    elim c.if-begins_name.branch [
      | then-begins_name w ↦
          let step = names_next c.args.source c.loop.rest.now true some (sym w.if-begins_name.ensures) in
          rw c.split_at.ensures.back (record {
            so_far = omega (arith, step, w.names-is);
            left = omega (arith, length-drop {A = Token});
            few = omega (arith, w.names-is);
          })
      | else-begins_name w ↦
          let step = names_next c.args.source c.loop.rest.now false some (sym w.if-begins_name.ensures) in
          rw c.split_at.ensures.back (record {
            so_far = omega (arith, step, w.names-is);
            left = omega (arith, length-drop {A = Token});
            few = omega (arith, w.names-is);
          })
    ]
