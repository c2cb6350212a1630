use Rattle.std.proofs.Common.{◌+◌, ◌*◌, subst, [], ◌∷◌, take, slice_index_or}
use Rattle.std.proofs.lemmas.List.{take_all}
use Rattle.std.specs.List.{flat_map}
use Rattle.monoid_kit.proofs.Items.{IsIn-read}
use Rattle.fuse_core.specs.declared.wiring.Source.TheVariants.{Left}
use Rattle.fuse_core.specs.Wirings.{source_lists, crossings}
use Rattle.fuse_core.proofs.Placed.{stands-default, flat_map-pushed, crossings-pushed, crossings-take, cost-more}
use Rattle.fuse_core.proofs.Placed.{cost-part}
use Rattle.fuse_core.proofs.joining.component_of.Goals as goal

pub source_of-requires-clause-within : goal.source_of-requires-clause-within
source_of-requires-clause-within g c =
    let sources = c.args.sources.now in
    let i = c.loop-source.source-index in
    let at = stands-default sources i (Left 0) c.loop-source-test.true in
    c.requires.within (slice_index_or sources i (Left 0))
    (IsIn-read sources i (slice_index_or sources i (Left 0)) at.within at.is)

pub returns-in_err-more-clause-cost : goal.returns-in_err-more-clause-cost
returns-in_err-more-clause-cost g c =
    let sources = c.args.sources.now in
    let i = c.loop-source.source-index in
    let source = slice_index_or sources i (Left 0) in
    let at = stands-default sources i (Left 0) c.loop-source-test.true in
    let size = g.M.Maps.size c.args.maps.now * g.M.Maps.size c.args.maps.now in
    cost-part (crossings (take (i + 1) sources)) (crossings sources) size c.args.steps.now c.source_of.new.steps
    (crossings-take (i + 1) sources)
    (cost-more (crossings (take i sources)) (crossings (source ∷ [])) (crossings (take (i + 1) sources)) size
    c.args.steps.now c.loop-source.steps
    c.source_of.new.steps (crossings-pushed sources i source at) c.loop-source.invariant.cost
    c.in_err-more.ensures.cost)

pub returns-in_err-sum-2-clause-cost : goal.returns-in_err-sum-2-clause-cost
returns-in_err-sum-2-clause-cost g c =
    let sources = c.args.sources.now in
    let i = c.loop-source.source-index in
    let source = slice_index_or sources i (Left 0) in
    let at = stands-default sources i (Left 0) c.loop-source-test.true in
    let size = g.M.Maps.size c.args.maps.now * g.M.Maps.size c.args.maps.now in
    cost-part (crossings (take (i + 1) sources)) (crossings sources) size c.args.steps.now c.source_of.new.steps
    (crossings-take (i + 1) sources)
    (cost-more (crossings (take i sources)) (crossings (source ∷ [])) (crossings (take (i + 1) sources)) size
    c.args.steps.now c.loop-source.steps
    c.source_of.new.steps (crossings-pushed sources i source at) c.loop-source.invariant.cost c.in_ok-more.ensures.cost)

pub loop-source-preserved : goal.loop-source-preserved
loop-source-preserved g c =
    let shows = g.M.Maps.shows c.args.maps.now in
    let sources = c.args.sources.now in
    let i = c.loop-source.source-index in
    let source = slice_index_or sources i (Left 0) in
    let at = stands-default sources i (Left 0) c.loop-source-test.true in
    let size = g.M.Maps.size c.args.maps.now * g.M.Maps.size c.args.maps.now in
    record {
      fits = c.in_ok-sum-2.ensures.fits;
      shows = λ earlier later es ls.
          subst (λ l. shows l c.in_ok-sum-2.sum) (flat_map-pushed (source_lists earlier later) sources i source at)
          (c.in_ok-sum-2.ensures.shows (flat_map (source_lists earlier later) (take i sources))
          (source_lists earlier later source)
          (c.loop-source.invariant.shows earlier later es ls) (c.in_ok-more.ensures.shows earlier later es ls));
      cost = cost-more (crossings (take i sources)) (crossings (source ∷ [])) (crossings (take (i + 1) sources)) size
          c.args.steps.now c.loop-source.steps
          c.source_of.new.steps (crossings-pushed sources i source at) c.loop-source.invariant.cost
          c.in_ok-more.ensures.cost;
    }

pub returns-clause-shows : goal.returns-clause-shows
returns-clause-shows g c = λ earlier later es ls.
    subst (λ gs. g.M.Maps.shows c.args.maps.now (flat_map (source_lists earlier later) gs) c.loop-source.sum)
    (take_all c.loop-source.source-index c.args.sources.now c.loop-source-test.false)
    (c.loop-source.invariant.shows earlier later es ls)
