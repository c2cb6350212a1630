use Rattle.std.proofs.lemmas.Result.{IfOk-weaker}
use Rattle.fuse_core.proofs.growing.with_row.Goals as goal

pub returns-clause-shows : goal.returns-clause-shows
returns-clause-shows g c =
    let brought_shows = rw c.deref.ensures.value at c.in_ok-added.ensures.shows in
    IfOk-weaker c.kept_and_added.result _ _
    (λ made shows lists added bring ls. shows lists added ls (brought_shows lists added bring ls))
    c.kept_and_added.ensures.shows
