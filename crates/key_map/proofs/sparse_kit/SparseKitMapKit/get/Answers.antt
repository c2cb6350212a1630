use Rattle.std.proofs.Common.{◌≡◌, ◌∙◌}
use Rattle.std.proofs.lemmas.Result.{IfOk-weaker}
use Rattle.key_map.specs.Slots.{value_in}
use Rattle.key_map.proofs.Maps.{given-good, given-ascend, value-found, value-absent}
use Rattle.key_map.proofs.sparse_kit.SparseKitMapKit.get.Goals as goal

pub find_slot-requires : goal.find_slot-requires
find_slot-requires g c =
    given-ascend (g.S.Semiring.ring c.args.self.now.kit) (g.M.Monoid.size c.args.self.now.keys)
    c.args.map.now.items c.deref.result.now c.deref.ensures.value c.requires.fits

pub copy-requires : goal.copy-requires
copy-requires g c =
    given-good (g.S.Semiring.ring c.args.self.now.kit) (g.M.Monoid.size c.args.self.now.keys)
    c.args.map.now.items c.deref.result.now c.deref.ensures.value c.requires.fits c.in-Some.slot.now
    c.in-Some.ensures.found.0

pub returns-in-Some : goal.returns-in-Some
returns-in-Some g c =
    let ring = g.S.Semiring.ring c.args.self.now.kit in
    let found = c.in-Some.ensures.found in
    IfOk-weaker c.copy.result (λ elem. elem ≡ c.in-Some.slot.now.elem)
    (λ elem. elem ≡ value_in ring.zero c.args.map.now.items c.args.key)
    (λ elem is. is ∙ value-found ring (g.M.Monoid.size c.args.self.now.keys) c.args.map.now.items c.deref.result.now
    c.deref.ensures.value c.requires.fits c.in-Some.slot.now c.args.key found.0 found.1)
    c.copy.ensures

pub returns-in-None : goal.returns-in-None
returns-in-None g c =
    let ring = g.S.Semiring.ring c.args.self.now.kit in
    IfOk-weaker c.zero.result (λ elem. elem ≡ ring.zero)
    (λ elem. elem ≡ value_in ring.zero c.args.map.now.items c.args.key)
    (λ elem is. is ∙ value-absent ring (g.M.Monoid.size c.args.self.now.keys) c.args.map.now.items c.deref.result.now
    c.deref.ensures.value c.requires.fits c.args.key c.in-None.ensures.absent)
    c.zero.ensures
