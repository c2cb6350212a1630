use Rattle.std.proofs.Common.{ℕ, subst, sym, ◌∙◌, arith}
use Rattle.lane_rows.specs.Lanes.{LanesAddUp}
use Rattle.lane_rows.specs.Rows.{shown}
use Rattle.lane_rows.proofs.Lifts.{shown-is_sound}
use Rattle.lane_rows.proofs.DenseRows.{written-whole, read-shown, lifted-read, lanes-add_up, keys-lifted, keys-passed}
use Rattle.lane_rows.proofs.DenseRows.{keys-convolution}
use Rattle.lane_rows.proofs.dense_kit.DenseKitMapKit.convolve.Goals as goal
use Rattle.lane_rows.proofs.dense_kit.DenseKitMapKit.convolve.Goals.{then-not-is_absent+in_ok-lift_key}
use Rattle.lane_rows.proofs.dense_kit.DenseKitMapKit.convolve.Goals.{else-not-is_absent}

pub lift_key-requires-clause-reaches_add_up : goal.lift_key-requires-clause-reaches_add_up
lift_key-requires-clause-reaches_add_up g c =
    let kit = c.args.self.now.kit in
    let ring = g.S.Semiring.ring kit in
    let shows = g.S.Lanes.shows kit in
    let a = c.args.a.now.items in
    let size = c.requires.left_fits.has_size in
    subst (LanesAddUp ring shows c.index-by.result.now) (sym c.deref.ensures.value)
    (lanes-add_up (g.met.S.Semiring.laws kit) (g.S.Lanes.is_lane kit) shows c.index-by.result.now c.args.b.now.items
    (shown ring shows a) c.loop-key.key
    (read-shown ring shows a c.loop-key.key c.index-by.result.now (omega arith) c.index-by.ensures)
    c.requires.reaches_add_up)

pub loop-key-preserved : goal.loop-key-preserved
loop-key-preserved g c =
    let kit = c.args.self.now.kit in
    let keys = c.args.self.now.keys in
    let ring = g.S.Semiring.ring kit in
    let laws = g.met.S.Semiring.laws kit in
    let is_lane = g.S.Lanes.is_lane kit in
    let shows = g.S.Lanes.shows kit in
    let size = g.M.Monoid.size keys in
    let times = g.M.Monoid.mul keys in
    let a = c.args.a.now.items in
    let b = c.args.b.now.items in
    let x = shown ring shows a in
    let y = shown ring shows b in
    let key = c.loop-key.key in
    let row = c.in_ok-row.row.items in
    let mid = c.loop-key.row.items in
    let x_sound = λ (j : ℕ). shown-is_sound laws is_lane shows a j c.requires.left_fits.are_good in
    let y_sound = λ (j : ℕ). shown-is_sound laws is_lane shows b j c.requires.right_fits.are_good in
    let has_size = c.requires.left_fits.has_size in
    let read = read-shown ring shows a key c.index-by.result.now (omega arith) c.index-by.ensures in
    elim c.if-not-is_absent.branch [
      | then-not-is_absent+in_ok-lift_key w ↦
          let step = lifted-read ring is_lane shows w.deref_mut.result.now mid w.lift_key.new.row w.deref.result.now b
          (times key) size
          c.index-by.result.now (x key) w.deref_mut.ensures.value w.deref.ensures.value read w.in_ok-lift_key.ensures in
          let long = w.in_ok-lift_key.ensures.same_length ∙ w.deref_mut.ensures.len in
          rw (w.row-is, written-whole mid w.lift_key.new.row c.loop-key.row.len long)
          (keys-lifted laws is_lane shows size times x y x_sound y_sound row mid w.lift_key.new.row key
          c.in_ok-row.ensures.fits.are_good c.loop-key.invariant step)
      | else-not-is_absent w ↦
          rw w.row-is
          (keys-passed laws is_lane shows size times x y x_sound y_sound row mid key
          c.in_ok-row.ensures.fits.are_good (sym read ∙ c.is_absent.ensures.0 w.if-not-is_absent.false)
          c.loop-key.invariant)
    ]

pub returns-clause-value : goal.returns-clause-value
returns-clause-value g c k =
    let kit = c.args.self.now.kit in
    let keys = c.args.self.now.keys in
    let ring = g.S.Semiring.ring kit in
    let laws = g.met.S.Semiring.laws kit in
    let is_lane = g.S.Lanes.is_lane kit in
    let shows = g.S.Lanes.shows kit in
    let a = c.args.a.now.items in
    let b = c.args.b.now.items in
    keys-convolution laws is_lane shows (g.M.Monoid.size keys) (g.M.Monoid.mul keys) (shown ring shows a)
    (shown ring shows b)
    (λ j. shown-is_sound laws is_lane shows a j c.requires.left_fits.are_good)
    (λ j. shown-is_sound laws is_lane shows b j c.requires.right_fits.are_good)
    c.in_ok-row.row.items c.loop-key.row.items c.loop-key.key k (omega arith) c.in_ok-row.ensures.value
    c.loop-key.invariant
