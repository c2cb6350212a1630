use Rattle.std.proofs.Common.{◌+◌, ◌-◌, ◌*◌, ◌≤◌, refl, subst, sym, [], ◌∷◌, length, take, drop, slice_index_or, arith}
use Rattle.std.proofs.lemmas.List.{take_all}
use Rattle.std.specs.List.{flat_map}
use Rattle.monoid_kit.proofs.Items.{IsIn-read}
use Rattle.shape_gen.specs.Candidates.{mark}
use Rattle.fuse_core.specs.declared.wiring.Growth.TheVariants.{Kept, Before}
use Rattle.fuse_core.specs.Wirings.{growth_lists, shifts}
use Rattle.fuse_core.proofs.Placed.{stands, behind-at, behind-all, flat_map-pushed, shifts-pushed, shifts-take}
use Rattle.fuse_core.proofs.Placed.{cost-more, cost-part}
use Rattle.fuse_core.proofs.growing.grown.Goals as goal
use Rattle.fuse_core.proofs.growing.grown.Goals.{in-Before+in_ok-sum-in-Before}
use Rattle.fuse_core.proofs.growing.grown.Goals.{in_default+in_ok-more-in_default+in_ok-sum-in_default}

pub offset_bounds-later-place : goal.offset_bounds-later-place
offset_bounds-later-place g c =
    let growths = c.args.growths.now in
    let i = c.loop-growth.growth-index in
    let growth = Before c.in-Before.label c.in-Before.place in
    let at = behind-at growths i growth (Kept 0) c.loop-growth-test.true c.in-Before.is in
    let within = c.requires.within growth (IsIn-read growths (i + 1) growth at.within at.is) in
    let inside = within.1 in
    omega (arith, inside)

pub bounds-later-place : goal.bounds-later-place
bounds-later-place g c =
    let growths = c.args.growths.now in
    let i = c.loop-growth.growth-index in
    let growth = Before c.in-Before.label c.in-Before.place in
    let at = behind-at growths i growth (Kept 0) c.loop-growth-test.true c.in-Before.is in
    let within = c.requires.within growth (IsIn-read growths (i + 1) growth at.within at.is) in
    within.1

pub with_before-requires-clause-label_in_range : goal.with_before-requires-clause-label_in_range
with_before-requires-clause-label_in_range g c =
    let growths = c.args.growths.now in
    let i = c.loop-growth.growth-index in
    let growth = Before c.in-Before.label c.in-Before.place in
    let at = behind-at growths i growth (Kept 0) c.loop-growth-test.true c.in-Before.is in
    let within = c.requires.within growth (IsIn-read growths (i + 1) growth at.within at.is) in
    within.0

pub with_before-requires-clause-later_fits : goal.with_before-requires-clause-later_fits
with_before-requires-clause-later_fits g c =
    let growths = c.args.growths.now in
    let i = c.loop-growth.growth-index in
    let growth = Before c.in-Before.label c.in-Before.place in
    let at = behind-at growths i growth (Kept 0) c.loop-growth-test.true c.in-Before.is in
    let within = c.requires.within growth (IsIn-read growths (i + 1) growth at.within at.is) in
    c.requires.later_fit c.in-Before.place c.index-later-place.result
    (stands c.args.later.now c.in-Before.place c.index-later-place.result within.1 c.index-later-place.is)

pub with_before-requires-clause-follows : goal.with_before-requires-clause-follows
with_before-requires-clause-follows g c =
    let growths = c.args.growths.now in
    let i = c.loop-growth.growth-index in
    let growth = Before c.in-Before.label c.in-Before.place in
    let at = behind-at growths i growth (Kept 0) c.loop-growth-test.true c.in-Before.is in
    let within = c.requires.within growth (IsIn-read growths (i + 1) growth at.within at.is) in
    c.requires.follow c.in-Before.place c.index-later-place.result c.in-Before.label
    (stands c.args.later.now c.in-Before.place c.index-later-place.result within.1 c.index-later-place.is) within.0

pub returns-in_err-sum-in-Before-clause-cost : goal.returns-in_err-sum-in-Before-clause-cost
returns-in_err-sum-in-Before-clause-cost g c =
    let growths = c.args.growths.now in
    let i = c.loop-growth.growth-index in
    let growth = Before c.in-Before.label c.in-Before.place in
    let at = behind-at growths i growth (Kept 0) c.loop-growth-test.true c.in-Before.is in
    let size = g.M.Maps.size c.args.maps.now in
    let here = c.in_err-sum-in-Before.ensures.cost in
    cost-part (shifts (take (i + 1 + 1) growths)) (shifts growths) size c.args.steps.now c.with_before.new.steps
    (shifts-take (i + 1 + 1) growths)
    (cost-more (shifts (take (i + 1) growths)) 1 (shifts (take (i + 1 + 1) growths)) size c.args.steps.now
    c.loop-growth.steps
    c.with_before.new.steps (shifts-pushed growths (i + 1) growth at) c.loop-growth.invariant.cost
    (omega (arith, here)))

pub growth_of-requires-in_default : goal.growth_of-requires-in_default
growth_of-requires-in_default g c =
    let growths = c.args.growths.now in
    let i = c.loop-growth.growth-index in
    let growth = slice_index_or (take (length growths - 1) (drop 1 growths)) i (Kept 0) in
    let at = behind-at growths i growth (Kept 0) c.loop-growth-test.true refl in
    record {
      row_in_range = c.requires.row_in_range;
      within = c.requires.within growth (IsIn-read growths (i + 1) growth at.within at.is);
      later_fit = c.requires.later_fit;
      added_fit = c.requires.added_fit;
      follow = c.requires.follow;
    }

pub returns-in_err-more-in_default : goal.returns-in_err-more-in_default
returns-in_err-more-in_default g c =
    let growths = c.args.growths.now in
    let i = c.loop-growth.growth-index in
    let growth = slice_index_or (take (length growths - 1) (drop 1 growths)) i (Kept 0) in
    let at = behind-at growths i growth (Kept 0) c.loop-growth-test.true refl in
    let size = g.M.Maps.size c.args.maps.now in
    record {
      fits = grind (arith);
      shows = grind (arith);
      cost = cost-part (shifts (take (i + 1 + 1) growths)) (shifts growths) size c.args.steps.now
          c.growth_of-in_default.new.steps (shifts-take (i + 1 + 1) growths)
          (cost-more (shifts (take (i + 1) growths)) (shifts (growth ∷ [])) (shifts (take (i + 1 + 1) growths)) size
          c.args.steps.now c.loop-growth.steps
          c.growth_of-in_default.new.steps (shifts-pushed growths (i + 1) growth at) c.loop-growth.invariant.cost
          c.in_err-more-in_default.ensures.cost);
    }

pub returns-in_err-sum-in_default : goal.returns-in_err-sum-in_default
returns-in_err-sum-in_default g c =
    let growths = c.args.growths.now in
    let i = c.loop-growth.growth-index in
    let growth = slice_index_or (take (length growths - 1) (drop 1 growths)) i (Kept 0) in
    let at = behind-at growths i growth (Kept 0) c.loop-growth-test.true refl in
    let size = g.M.Maps.size c.args.maps.now in
    record {
      fits = grind (arith);
      shows = grind (arith);
      cost = cost-part (shifts (take (i + 1 + 1) growths)) (shifts growths) size c.args.steps.now
          c.growth_of-in_default.new.steps (shifts-take (i + 1 + 1) growths)
          (cost-more (shifts (take (i + 1) growths)) (shifts (growth ∷ [])) (shifts (take (i + 1 + 1) growths)) size
          c.args.steps.now c.loop-growth.steps
          c.growth_of-in_default.new.steps (shifts-pushed growths (i + 1) growth at) c.loop-growth.invariant.cost
          c.in_ok-more-in_default.ensures.cost);
    }

pub loop-growth-preserved : goal.loop-growth-preserved
loop-growth-preserved g c =
    let shows = g.M.Maps.shows c.args.maps.now in
    let growths = c.args.growths.now in
    let i = c.loop-growth.growth-index in
    let size = g.M.Maps.size c.args.maps.now in
    elim c.match-growth.branch [
      | in-Before+in_ok-sum-in-Before w ↦
          let growth = Before w.in-Before.label w.in-Before.place in
          let at = behind-at growths i growth (Kept 0) c.loop-growth-test.true w.in-Before.is in
          let within = c.requires.within growth (IsIn-read growths (i + 1) growth at.within at.is) in
          let here = w.in_ok-sum-in-Before.ensures.cost in
          record {
            fits = subst (g.M.Maps.fits c.args.maps.now) (sym w.sum-is) w.in_ok-sum-in-Before.ensures.fits;
            shows = λ lists brought ls bs.
                subst (λ m. shows (flat_map (growth_lists c.args.row lists brought) (take (i + 1 + 1) growths)) m)
                (sym w.sum-is)
                (subst (λ l. shows l w.in_ok-sum-in-Before.sum)
                (flat_map-pushed (growth_lists c.args.row lists brought) growths (i + 1) growth at)
                (w.in_ok-sum-in-Before.ensures.shows
                (flat_map (growth_lists c.args.row lists brought) (take (i + 1) growths))
                (lists w.in-Before.place)
                (c.loop-growth.invariant.shows lists brought ls bs)
                (ls w.in-Before.place w.index-later-place.result
                (stands c.args.later.now w.in-Before.place w.index-later-place.result within.1
                w.index-later-place.is))));
            cost = subst (λ n. n ≤ c.args.steps.now + shifts (take (i + 1 + 1) growths) * size) (sym w.steps-is)
                (cost-more (shifts (take (i + 1) growths)) 1 (shifts (take (i + 1 + 1) growths)) size c.args.steps.now
                c.loop-growth.steps
                w.with_before.new.steps (shifts-pushed growths (i + 1) growth at) c.loop-growth.invariant.cost
                (omega (arith, here)));
          }
      | in_default+in_ok-more-in_default+in_ok-sum-in_default w ↦
          let growth = slice_index_or (take (length growths - 1) (drop 1 growths)) i (Kept 0) in
          let at = behind-at growths i growth (Kept 0) c.loop-growth-test.true refl in
          record {
            fits = subst (g.M.Maps.fits c.args.maps.now) (sym w.sum-is) w.in_ok-sum-in_default.ensures.fits;
            shows = λ lists brought ls bs.
                subst (λ m. shows (flat_map (growth_lists c.args.row lists brought) (take (i + 1 + 1) growths)) m)
                (sym w.sum-is)
                (subst (λ l. shows l w.in_ok-sum-in_default.sum)
                (flat_map-pushed (growth_lists c.args.row lists brought) growths (i + 1) growth at)
                (w.in_ok-sum-in_default.ensures.shows
                (flat_map (growth_lists c.args.row lists brought) (take (i + 1) growths))
                (growth_lists c.args.row lists brought growth)
                (c.loop-growth.invariant.shows lists brought ls bs)
                (w.in_ok-more-in_default.ensures.shows lists brought ls bs)));
            cost = subst (λ n. n ≤ c.args.steps.now + shifts (take (i + 1 + 1) growths) * size) (sym w.steps-is)
                (cost-more (shifts (take (i + 1) growths)) (shifts (growth ∷ [])) (shifts (take (i + 1 + 1) growths))
                size c.args.steps.now c.loop-growth.steps
                w.growth_of-in_default.new.steps (shifts-pushed growths (i + 1) growth at) c.loop-growth.invariant.cost
                w.in_ok-more-in_default.ensures.cost);
          }
    ]

pub returns-after-loop-growth-clause-shows : goal.returns-after-loop-growth-clause-shows
returns-after-loop-growth-clause-shows g c = λ lists brought ls bs.
    let growths = c.args.growths.now in
    let i = c.loop-growth.growth-index in
    let some = c.in-len1-up.len_at_least in
    let done = behind-all growths i c.loop-growth-test.false in
    subst (λ gs. g.M.Maps.shows c.args.maps.now (flat_map (growth_lists c.args.row lists brought) gs) c.loop-growth.sum)
    (take_all (i + 1) growths (omega (arith, done)))
    (c.loop-growth.invariant.shows lists brought ls bs)
