use Rattle.std.proofs.Common.{◌+◌, ◌<◌, Bool, true, false, List, lit<, sym, ap, ◌∙◌, subst}
use Rattle.shape_gen.specs.declared.mark.Mark.{Mark}
use Rattle.gta_meaning.specs.InRange.{IsInRange}
use Rattle.gta_meaning.proofs.InRange.{in_range-push, in_range-skip}
use Rattle.meaning_tests.proofs.meaning.candidate_of.Goals as goal
use Rattle.meaning_tests.proofs.meaning.candidate_of.Goals.{then-first+in_ok-push, else-first+else-every}
use mir.Val.{bool_byte}

bool_byte-below : (b : Bool) → bool_byte b < 2
bool_byte-below true = lit< tt
bool_byte-below false = lit< tt

pub loop-row-preserved : goal.loop-row-preserved
loop-row-preserved c =
    let HasNext : List Mark → Type 0 = IsInRange (c.loop-row.row + 1) 2 in
    elim c.if-first.branch [
      | then-first+in_ok-push w ↦
          subst HasNext (sym (ap (λ v. v.items) w.marks-is ∙ w.in_ok-push.ensures.items))
          (in_range-push _ _ _ _ c.loop-row.invariant (bool_byte-below _))
      | else-first+else-every w ↦
          subst HasNext (sym (ap (λ v. v.items) w.marks-is)) (in_range-skip _ _ _ c.loop-row.invariant)
    ]
