use Rattle.std.proofs.Common.{arith, sym, ◌∙◌}
use Rattle.std.proofs.lemmas.Grind.{common_steps}
use Rattle.gta_text.specs.Text.{read_lines}
use Rattle.gta_text.proofs.RawLines.{Turn, no_front, at_end, at_rows, at_bad, at_good}
use Rattle.gta_text.proofs.lines.read_lines.Goals as goal

pub loop-rest-init : goal.loop-rest-init
unfolding read_lines
loop-rest-init c = record {
  in_range = omega arith;
  few = omega arith;
  so_far = record {
    joined = rw (c.new-lines.ensures.items, c.split_at.ensures.back, c.mark_length-mark.ensures.mark)
        (no_front _);
  };
}

pub returns-then-is_rows : goal.returns-then-is_rows
returns-then-is_rows c =
    let turn : Turn c.loop-rest.place c.line_length.result c.loop-rest.rest.now c.split_at-in-loop-rest.result.0.now
    c.split_at-in-loop-rest.result.1.now c.content-content.result.now c.deref.result.now = record {
      some = grind (arith, common_steps);
      len = c.line_length.ensures;
      front = c.split_at-in-loop-rest.ensures.front;
      back = c.split_at-in-loop-rest.ensures.back;
      holds = c.content-content.ensures.content;
      read = c.deref.ensures.value ∙ c.in_ok-tokens.ensures;
    } in
    at_rows turn c.loop-rest.invariant.so_far (sym c.if-is_rows.ensures)

pub returns-in-Some : goal.returns-in-Some
returns-in-Some c =
    let turn : Turn c.loop-rest.place c.line_length.result c.loop-rest.rest.now c.split_at-in-loop-rest.result.0.now
    c.split_at-in-loop-rest.result.1.now c.content-content.result.now c.deref.result.now = record {
      some = grind (arith, common_steps);
      len = c.line_length.ensures;
      front = c.split_at-in-loop-rest.ensures.front;
      back = c.split_at-in-loop-rest.ensures.back;
      holds = c.content-content.ensures.content;
      read = c.deref.ensures.value ∙ c.in_ok-tokens.ensures;
    } in
    at_bad turn c.loop-rest.invariant.so_far c.in-Some.at (sym c.if-is_rows.ensures) (sym c.in-Some.ensures.first)

pub loop-rest-preserved : goal.loop-rest-preserved
loop-rest-preserved c =
    let turn : Turn c.loop-rest.place c.line_length.result c.loop-rest.rest.now c.split_at-in-loop-rest.result.0.now
    c.split_at-in-loop-rest.result.1.now c.content-content.result.now c.deref.result.now = record {
      some = grind (arith, common_steps);
      len = c.line_length.ensures;
      front = c.split_at-in-loop-rest.ensures.front;
      back = c.split_at-in-loop-rest.ensures.back;
      holds = c.content-content.ensures.content;
      read = c.deref.ensures.value ∙ c.in_ok-tokens.ensures;
    } in
    record {
      in_range = omega (arith, c.line_length.ensures, c.loop-rest.invariant.in_range);
      few = omega (arith, c.line_length.ensures, c.loop-rest.invariant.few);
      so_far = rw (c.in_ok-add_line.ensures, ← c.deref.ensures.value)
          (at_good turn c.loop-rest.invariant.so_far (sym c.if-is_rows.ensures) (grind (arith, common_steps)));
    }

pub returns : goal.returns
returns c = at_end c.loop-rest.invariant.so_far (grind (arith, common_steps))
