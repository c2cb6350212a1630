use Rattle.std.proofs.Common.{[], ◌∷◌, ◌++◌, map, ap, sym, ◌∙◌, append_assoc, arith}
use Rattle.std.proofs.lemmas.List.{map-append}
use Rattle.fuse_answer.specs.Ranks.{printed}
use Rattle.worker_pool.proofs.Sharing.{all_gone_over, all_here}
use Rattle.fuse_answer.proofs.Printed.{IsNear}
use Rattle.fuse_answer.proofs.best_ranked.as_printed.Goals as goal

pub signed-requires : goal.signed-requires
signed-requires c =
    let here = c.loop-entry.invariant.rest ∙ ap (λ es. c.loop-entry.yielded ++ es) c.in-Some.ensures.steps.0 in
    all_here IsNear c.args.best c.loop-entry.yielded _ c.in-Some.entry here c.requires

pub loop-entry-preserved : goal.loop-entry-preserved
loop-entry-preserved c =
    let here = c.loop-entry.invariant.rest ∙ ap (λ es. c.loop-entry.yielded ++ es) c.in-Some.ensures.steps.0 in
    record {
      can_next = tt;
      is_finite = tt;
      rest = here ∙ sym (append_assoc c.loop-entry.yielded (c.in-Some.entry ∷ []) _);
      so_far =
          c.in_ok-push.ensures.items
          ∙ ap (λ t. c.loop-entry.all.items ++ record { total = t; witness = c.in-Some.entry.witness } ∷ [])
          c.signed.ensures
          ∙ ap (λ es. es ++ printed c.args.ranks.now c.in-Some.entry ∷ []) c.loop-entry.invariant.so_far
          ∙ sym (map-append (printed c.args.ranks.now) c.loop-entry.yielded (c.in-Some.entry ∷ []));
    }

pub returns : goal.returns
returns c =
    let none = c.in-None.ensures.steps.0 in
    let ok = c.loop-entry.entry-iterator.rest.ok in
    c.of.ensures ∙ c.loop-entry.invariant.so_far
    ∙ ap (map (printed c.args.ranks.now))
    (sym (all_gone_over c.args.best c.loop-entry.yielded _ c.loop-entry.invariant.rest (omega arith)))
