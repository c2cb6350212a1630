use Rattle.std.proofs.Common.{◌-◌, arith, ap, sym}
use Rattle.board_core.proofs.PlaceLemmas.{apart_rises, all_clear, meets_before, meets_at, item_is}
use Rattle.board_core.proofs.places.lies_clear.Goals as goal
use Rattle.board_core.proofs.places.lies_clear.Goals.{else-at-gt0-via-then-at-gt0+else-lo-hi}
use Rattle.board_core.proofs.places.lies_clear.Goals.{else-at-gt0-via-else-at-gt0}
use Rattle.board_core.proofs.places.lies_clear.Goals.{else-at-len-via-then-at-len+else-lo-hi-2}
use Rattle.board_core.proofs.places.lies_clear.Goals.{else-at-len-via-else-at-len}

pub place-at-requires : goal.place-at-requires
place-at-requires g c = apart_rises g.I.Interval.lo g.I.Interval.hi c.args.intervals.now.items c.requires.apart

pub returns-then-lo-hi : goal.returns-then-lo-hi
returns-then-lo-hi g c =
    let xs = c.args.intervals.now.items in
    let x = c.index.result.now in
    sym (meets_before g.I.Interval.lo g.I.Interval.hi c.args.lo c.args.hi c.requires.nonempty xs c.requires.apart
    c.place-at.result x c.place-at.ensures.index (omega arith)
    (omega (arith, c.if-lo-hi.true, c.hi.ensures, ap g.I.Interval.hi c.index.ensures)))

pub returns-then-lo-hi-2 : goal.returns-then-lo-hi-2
returns-then-lo-hi-2 g c =
    let xs = c.args.intervals.now.items in
    let y = c.index-then-at-len.result.now in
    sym (meets_at g.I.Interval.lo g.I.Interval.hi c.args.lo c.args.hi c.requires.nonempty xs c.requires.apart
    c.place-at.result y c.place-at.ensures.index (omega arith)
    (omega (arith, c.if-lo-hi-2.true, c.lo.ensures, ap g.I.Interval.lo c.index-then-at-len.ensures)))

pub returns : goal.returns
returns g c =
    let xs = c.args.intervals.now.items in
    sym (all_clear g.I.Interval.lo g.I.Interval.hi c.args.lo c.args.hi c.requires.nonempty xs c.requires.apart
    c.place-at.result c.place-at.ensures.index
    (λ d above. elim c.else-at-gt0.branch [
      | else-at-gt0-via-then-at-gt0+else-lo-hi w ↦
          omega (
            arith,
            w.if-lo-hi.false,
            w.hi.ensures,
            ap g.I.Interval.hi (item_is xs (c.place-at.result - 1) w.index.result.now d
                (omega (arith, c.place-at.ensures.bound)) w.index.ensures),
          )
      | else-at-gt0-via-else-at-gt0 w ↦ absurd (omega (arith, w.if-at-gt0.false))
    ])
    (λ d within. elim c.else-at-len.branch [
      | else-at-len-via-then-at-len+else-lo-hi-2 w ↦
          omega (
            arith,
            w.if-lo-hi-2.false,
            w.lo.ensures,
            ap g.I.Interval.lo (item_is xs c.place-at.result w.index-then-at-len.result.now d within
                w.index-then-at-len.ensures),
          )
      | else-at-len-via-else-at-len w ↦ absurd (omega (arith, w.if-at-len.false))
    ]))
