use Rattle.std.proofs.Common.{subst, sym, ap, ◌∙◌}
use Rattle.key_map.specs.Convolution.{convolution}
use Rattle.key_map.specs.Maps.{alone}
use Rattle.lane_rows.specs.Lanes.{LanesAddUp}
use Rattle.lane_rows.specs.Rows.{shown, IsLifted, moved_at}
use Rattle.lane_rows.proofs.Lifts.{shown-is_sound}
use Rattle.lane_rows.proofs.DenseRows.{written-whole, alone-add_up, lifted-shown}
use Rattle.lane_rows.proofs.dense_kit.DenseKitMapKit.with_shifted.Goals as goal

pub lift_key-requires-clause-reaches_add_up : goal.lift_key-requires-clause-reaches_add_up
lift_key-requires-clause-reaches_add_up g c =
    let kit = c.args.self.now.kit in
    let shows = g.S.Lanes.shows kit in
    subst (LanesAddUp (g.S.Semiring.ring kit) shows c.lane_of.result) (sym c.deref.ensures.value)
    (alone-add_up (g.met.S.Semiring.laws kit) (g.S.Lanes.is_lane kit) shows c.lane_of.result c.args.map.now.items
    c.args.key c.args.elem.now
    c.lane_of.ensures.shows c.requires.reaches_add_up)

pub returns-clause-value : goal.returns-clause-value
returns-clause-value g c k =
    let kit = c.args.self.now.kit in
    let keys = c.args.self.now.keys in
    let ring = g.S.Semiring.ring kit in
    let laws = g.met.S.Semiring.laws kit in
    let is_lane = g.S.Lanes.is_lane kit in
    let shows = g.S.Lanes.shows kit in
    let map = c.args.map.now.items in
    let into = c.args.into.items in
    let row = c.deref_mut.result.now in
    let lifted = subst (λ from. IsLifted ring is_lane shows row c.lift_key.new.row
    (moved_at ring (shows c.lane_of.result) (g.M.Monoid.mul keys c.args.key) (g.M.Monoid.size keys)
    (shown ring shows from)))
    c.deref.ensures.value c.in_ok-lift_key.ensures in
    ap (λ lanes. shown ring shows lanes k)
    (written-whole into c.lift_key.new.row c.args.into.len
    (lifted.same_length ∙ c.deref_mut.ensures.len))
    ∙ lifted-shown laws is_lane shows (g.M.Monoid.size keys) (g.M.Monoid.mul keys) (shown ring shows map)
    (λ j. shown-is_sound laws is_lane shows map j c.requires.fits.are_good)
    row c.lift_key.new.row c.lane_of.result c.args.key c.args.elem.now k
    c.lane_of.ensures.shows c.requires.key_is_element c.requires.elem_is_good lifted
    ∙ ap (λ lanes. ring.add (shown ring shows lanes k) (convolution ring (g.M.Monoid.size keys) (g.M.Monoid.mul keys)
    (alone ring c.args.key c.args.elem.now) (shown ring shows map) k)) c.deref_mut.ensures.value
