use Rattle.std.specs.Prelude.{◌≡◌, map, take}
use Rattle.std.specs.List.{list_any}
use Rattle.gta_spec.specs.Parts.{part_tree}
use Rattle.spec_rules.specs.declared.fault.SinglePart.{SinglePart}
use Rattle.spec_rules.specs.SpecRules.{is_single, second_at}
use Rattle.spec_rules.specs.Seen.{has}
use Rattle.spec_rules.proofs.Answered.{NoneBefore}
use Rattle.spec_rules.proofs.parts_once.second_part.Given as goal

abbrev pub invariant-loop-line : goal.invariant-loop-line
invariant-loop-line l = record {
  none : NoneBefore second_at part_tree l.parts l.line-index;
  seen : (part : SinglePart) → has l.seen part ≡ list_any (is_single part) (map part_tree (take l.line-index l.parts));
}
