use Rattle.std.proofs.Common.{arith, refl, sym, ◌∙◌}
use Rattle.std.proofs.lemmas.Grind.{common_steps}
use Rattle.gta_text.specs.Text.{first_tokens}
use Rattle.gta_text.proofs.RawLines.{Turn, no_lines, goes_on, ends_here}
use Rattle.gta_text.proofs.lines.first_tokens.Goals as goal

pub loop-rest-init : goal.loop-rest-init
unfolding first_tokens
loop-rest-init c = record {
  in_range = omega arith;
  left = rw (c.split_at.ensures.back, c.mark_length-mark.ensures.mark) refl;
}

pub returns-then-not-is_empty : goal.returns-then-not-is_empty
returns-then-not-is_empty c =
    let turn : Turn c.loop-rest.place c.line_length.result c.loop-rest.rest.now c.split_at-in-loop-rest.result.0.now
    c.split_at-in-loop-rest.result.1.now c.content.result.now c.in_ok-tokens.tokens.items = record {
      some = grind (arith, common_steps);
      len = c.line_length.ensures;
      front = c.split_at-in-loop-rest.ensures.front;
      back = c.split_at-in-loop-rest.ensures.back;
      holds = c.content.ensures.content;
      read = c.in_ok-tokens.ensures;
    } in
    sym (ends_here turn (grind (arith, common_steps))) ∙ c.loop-rest.invariant.left

pub loop-rest-preserved : goal.loop-rest-preserved
loop-rest-preserved c =
    let turn : Turn c.loop-rest.place c.line_length.result c.loop-rest.rest.now c.split_at-in-loop-rest.result.0.now
    c.split_at-in-loop-rest.result.1.now c.content.result.now c.in_ok-tokens.tokens.items = record {
      some = grind (arith, common_steps);
      len = c.line_length.ensures;
      front = c.split_at-in-loop-rest.ensures.front;
      back = c.split_at-in-loop-rest.ensures.back;
      holds = c.content.ensures.content;
      read = c.in_ok-tokens.ensures;
    } in
    record {
      in_range = omega (arith, c.line_length.ensures, c.loop-rest.invariant.in_range);
      left = sym (goes_on turn (grind (arith, common_steps))) ∙ c.loop-rest.invariant.left;
    }

pub returns : goal.returns
returns c = c.new.ensures.items ∙ sym (no_lines _ _ (grind (arith, common_steps))) ∙ c.loop-rest.invariant.left
