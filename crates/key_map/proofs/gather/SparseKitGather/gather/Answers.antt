use Rattle.std.proofs.Common.{◌∙◌}
use Rattle.key_map.proofs.Rows.{gathered-take, taken_none, taken_some}
use Rattle.key_map.proofs.Slots.{slots_from-take}
use Rattle.key_map.proofs.gather.SparseKitGather.gather.Goals as goal
use Rattle.key_map.proofs.gather.SparseKitGather.gather.Goals.{in-None, in-Some+in_ok-sum-in-Some}

pub returns-clause-gathered : goal.returns-clause-gathered
returns-clause-gathered g c =
    let laws = g.met.S.Semiring.laws c.args.self.now.kit in
    gathered-take laws c.args.row.now.items c.args.key c.take.result c.take.new.self c.match-take.sum c.args.elem
    c.requires.key_is_in_row c.requires.row_is_good c.requires.elem_is_good
    (rw c.take.ensures.value c.index_mut.ensures.value)
    (elim c.match-take.branch [
      | in-None w ↦ taken_none laws c.take.result c.match-take.sum c.args.elem c.requires.elem_is_good w.in-None.is
          w.sum-is
      | in-Some+in_ok-sum-in-Some w ↦ taken_some laws c.take.result w.in-Some.held c.match-take.sum c.args.elem
          w.in-Some.is (w.sum-is ∙ w.in_ok-sum-in-Some.ensures)
    ])

pub returns-clause-few : goal.returns-clause-few
returns-clause-few g c =
    slots_from-take c.args.row.now.items c.args.key c.take.new.self c.match-take.sum
