use Rattle.std.proofs.Common.{◌≡◌, ◌∷◌, arith, sym, ap, length}
use Rattle.std.proofs.lemmas.Grind.{common_steps}
use Rattle.std.proofs.lemmas.Bool.Decides.{nat_tests}
use Rattle.gta_text.proofs.Skipping.{at_token}
use Rattle.gta_text.proofs.tokens.tokens_of.Goals as goal

pub loop-first-preserved : goal.loop-first-preserved
loop-first-preserved c =
    let front : c.loop-first.rest.now ≡ c.in-Some.first.now ∷ c.in-Some.after.now = grind (arith, common_steps) in
    let so_far = rw front at c.loop-first.invariant.so_far in
    record {
      in_range = omega (arith, ap length front);
      so_far = rw (c.in_ok-push.ensures.items, c.split_at.ensures.back, c.token_at-kind.ensures.token)
          (at_token c.loop-first.tokens.items _ c.loop-first.at c.in-Some.first.now c.in-Some.after.now
          (sym c.if-is_blank.ensures) (grind (arith, nat_tests)) so_far);
    }
