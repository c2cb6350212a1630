use Rattle.std.proofs.Common.{◌≡◌, ◌++◌, ◌∷◌, [], subst, ap, sym, ◌∙◌}
use Rattle.std.proofs.lemmas.List.{append-nil}
use Rattle.key_map.specs.Loose.{AreLoose}
use Rattle.key_map.proofs.Gathers.{loose-last_elem, put-behind, put-same}
use Rattle.key_map.proofs.collect.SparseKitCollect.put.Goals as goal
use Rattle.key_map.proofs.collect.SparseKitCollect.put.Goals.{in-None, in-Some+in_ok-elem-in-Some}

pub sum-requires-clause-left_is_good : goal.sum-requires-clause-left_is_good
sum-requires-clause-left_is_good g c =
    let split = rw c.in-Some.is at c.take_last.ensures.items in
    loose-last_elem (g.met.S.Semiring.laws c.args.self.now.kit) c.take_last.new.slots.items c.in-Some.held
    (subst (AreLoose (g.S.Semiring.ring c.args.self.now.kit) (g.M.Monoid.size c.args.self.now.keys)) split
    c.requires.are_loose)

pub returns : goal.returns
returns g c =
    let laws = g.met.S.Semiring.laws c.args.self.now.kit in
    let old = c.args.slots.now.items in
    let front = c.take_last.new.slots.items in
    elim c.match-take_last.branch [
      | in-None w ↦
          let same : old ≡ front = (rw w.in-None.is at c.take_last.ensures.items) ∙ append-nil front in
          put-behind laws old c.push.new.self.items c.args.key c.args.elem c.requires.are_loose c.requires.is_element
          c.requires.is_good
          (c.in_ok-push.ensures.items
          ∙ ap (λ e. front ++ record { key = c.args.key; elem = e } ∷ []) w.elem-is
          ∙ ap (λ l. l ++ record { key = c.args.key; elem = c.args.elem } ∷ []) (sym same))
      | in-Some+in_ok-elem-in-Some w ↦
          put-same laws old front c.push.new.self.items w.in-Some.held c.args.key c.args.elem c.match-take_last.elem
          c.requires.are_loose c.requires.is_element c.requires.is_good
          (rw w.in-Some.is at c.take_last.ensures.items) w.in-Some.ensures.at_key
          (w.elem-is ∙ w.in_ok-elem-in-Some.ensures)
          c.in_ok-push.ensures.items
    ]
