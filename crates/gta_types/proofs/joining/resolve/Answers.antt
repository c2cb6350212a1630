use Rattle.std.proofs.Common.{◌≡◌, List, map, length, None, refl, ap, ◌∙◌, arith}
use Rattle.std.proofs.lemmas.List.{length-map}
use Rattle.shape_gen.specs.declared.shape.Shape.{Shape}
use Rattle.gta_spec.specs.declared.parts.ColumnItem.{ColumnItem}
use Rattle.gta_spec.specs.Parts.{spec_tree, part_tree}
use Rattle.gta_checked.specs.declared.resolved.Goal.{Goal}
use Rattle.gta_checked.specs.declared.resolved.Table.{Table}
use Rattle.gta_checked.specs.Plain.{NamedTable, plain_named}
use Rattle.spec_tables.specs.Tables.{named_table, tables_in}
use Rattle.gta_types.specs.declared.drafting.Draft.{Draft}
use Rattle.gta_types.specs.Resolved.{Environment, environment}
use Rattle.gta_types.specs.Lists.{environment_of}
use Rattle.gta_types.proofs.Whole.{is_sound, has_few_names, all_ready, one_shape_there}
use Rattle.gta_types.proofs.Whole.{one_goal_there, within_limits, the_one}
use Rattle.gta_types.proofs.Accepted.{few_tables}
use Rattle.gta_types.proofs.Tables.{names_of-tables, tables_within}
use Rattle.gta_types.proofs.Joined.{IsFresh, shapes_drafted, goals_drafted, is_resolved}
use Rattle.gta_types.proofs.joining.resolve.Goals as goal

pub lists_of-requires : goal.lists_of-requires
lists_of-requires c =
    let parts = map part_tree c.args.spec.now.parts.items in
    let sound = is_sound (spec_tree c.args.spec.now) c.requires.well_formed c.requires.names c.requires.rules in
    let trees = tables_in parts in
    let count = length-map c.args.tables.items plain_named in
    let tree_count = length-map trees (named_table parts) in
    let same = ap (λ (ts : List NamedTable). length ts) c.requires.tables in
    let few = few_tables parts sound.kept in
    record {
      few = rw c.as_slice-parts.ensures.value (has_few_names _ sound);
      few_tables = omega (arith, few, count, tree_count, same);
      within = tables_within parts c.args.tables.items trees c.requires.tables;
      tables = rw c.as_slice-parts.ensures.value (names_of-tables parts c.args.tables.items trees c.requires.tables);
    }

pub draft_parts-requires : goal.draft_parts-requires
draft_parts-requires c =
    let sound = is_sound (spec_tree c.args.spec.now) c.requires.well_formed c.requires.names c.requires.rules in
    rw c.as_slice-parts.ensures.value
    (all_ready (map part_tree c.args.spec.now.parts.items) c.args.spec.now.parts.items sound.facts)

pub index-shape-requires : goal.index-shape-requires
index-shape-requires c =
    let parts = map part_tree c.args.spec.now.parts.items in
    let sound = is_sound (spec_tree c.args.spec.now) c.requires.well_formed c.requires.names c.requires.rules in
    let drafted = rw c.as_slice-parts.ensures.value at c.in_ok-draft_parts.ensures in
    let old : Draft = record {
      measures = c.in_ok-column_measures.field-0;
      tests = c.new.result;
      named = c.new-2.result;
      keep = None;
      shapes = c.new-3.result;
      goals = c.new-4.result;
    } in
    let fresh : IsFresh c.len-columns.result old = record {
      measures = c.in_ok-column_measures.ensures;
      tests = c.new.ensures.items;
      named = c.new-2.ensures.items;
      keep = refl;
      shapes = c.new-3.ensures.items;
      goals = c.new-4.ensures.items;
    } in
    let e = shapes_drafted (environment_of c.in_ok-lists.lists) parts c.len-columns.result old c.draft_parts.new.draft
    fresh drafted in
    let l = ap (λ (xs : List Shape). length xs) e ∙ one_shape_there parts sound in
    omega (arith, l)

pub remove-goal-requires : goal.remove-goal-requires
remove-goal-requires c =
    let parts = map part_tree c.args.spec.now.parts.items in
    let sound = is_sound (spec_tree c.args.spec.now) c.requires.well_formed c.requires.names c.requires.rules in
    let drafted = rw c.as_slice-parts.ensures.value at c.in_ok-draft_parts.ensures in
    let names = rw c.as_slice-parts.ensures.value at c.in_ok-lists.ensures.names in
    let old : Draft = record {
      measures = c.in_ok-column_measures.field-0;
      tests = c.new.result;
      named = c.new-2.result;
      keep = None;
      shapes = c.new-3.result;
      goals = c.new-4.result;
    } in
    let fresh : IsFresh c.len-columns.result old = record {
      measures = c.in_ok-column_measures.ensures;
      tests = c.new.ensures.items;
      named = c.new-2.ensures.items;
      keep = refl;
      shapes = c.new-3.ensures.items;
      goals = c.new-4.ensures.items;
    } in
    let e = goals_drafted (environment_of c.in_ok-lists.lists) parts c.len-columns.result old c.draft_parts.new.draft
    fresh names drafted in
    let l = ap (λ (xs : List Goal). length xs) e ∙ one_goal_there parts sound in
    omega (arith, l)

pub checked_of-requires : goal.checked_of-requires
checked_of-requires c =
    let spec = spec_tree c.args.spec.now in
    let parts = map part_tree c.args.spec.now.parts.items in
    let sound = is_sound spec c.requires.well_formed c.requires.names c.requires.rules in
    let drafted = rw c.as_slice-parts.ensures.value at c.in_ok-draft_parts.ensures in
    let names = rw c.as_slice-parts.ensures.value at c.in_ok-lists.ensures.names in
    let items = rw c.as_slice-parts.ensures.value at c.in_ok-lists.ensures.columns in
    let lists = c.in_ok-lists.lists in
    let tables = ap (λ (ts : List Table). map plain_named ts) c.in_ok-lists.ensures.tables ∙ c.requires.tables in
    let new = c.draft_parts.new.draft in
    let old : Draft = record {
      measures = c.in_ok-column_measures.field-0;
      tests = c.new.result;
      named = c.new-2.result;
      keep = None;
      shapes = c.new-3.result;
      goals = c.new-4.result;
    } in
    let fresh : IsFresh c.len-columns.result old = record {
      measures = c.in_ok-column_measures.ensures;
      tests = c.new.ensures.items;
      named = c.new-2.ensures.items;
      keep = refl;
      shapes = c.new-3.ensures.items;
      goals = c.new-4.ensures.items;
    } in
    let env = environment_of lists in
    let n = length-map lists.columns.items (λ (item : ColumnItem). item.name) in
    let same = ap (λ (e : Environment). length e.columns) names in
    let count : c.len-columns.result ≡ length (environment parts).columns =
    omega (arith, c.len-columns.ensures, n, same) in
    let one_shape = the_one new.shapes.items c.index-shape.result.now
    (ap (λ (xs : List Shape). length xs) (shapes_drafted env parts c.len-columns.result old new fresh drafted)
    ∙ one_shape_there parts sound) c.index-shape.ensures in
    let one_goal = the_one new.goals.items c.remove-goal.result
    (ap (λ (xs : List Goal). length xs) (goals_drafted env parts c.len-columns.result old new fresh names drafted)
    ∙ one_goal_there parts sound) c.remove-goal.ensures.value in
    let whole = is_resolved spec lists c.args.automata.items c.len-columns.result old new c.index-shape.result.now
    c.remove-goal.result names items count tables c.requires.automata fresh drafted one_shape one_goal in
    within_limits spec c.requires.well_formed sound _ whole lists.tables_within c.requires.within

pub returns : goal.returns
returns c =
    let spec = spec_tree c.args.spec.now in
    let parts = map part_tree c.args.spec.now.parts.items in
    let sound = is_sound spec c.requires.well_formed c.requires.names c.requires.rules in
    let drafted = rw c.as_slice-parts.ensures.value at c.in_ok-draft_parts.ensures in
    let names = rw c.as_slice-parts.ensures.value at c.in_ok-lists.ensures.names in
    let items = rw c.as_slice-parts.ensures.value at c.in_ok-lists.ensures.columns in
    let lists = c.in_ok-lists.lists in
    let tables = ap (λ (ts : List Table). map plain_named ts) c.in_ok-lists.ensures.tables ∙ c.requires.tables in
    let new = c.draft_parts.new.draft in
    let old : Draft = record {
      measures = c.in_ok-column_measures.field-0;
      tests = c.new.result;
      named = c.new-2.result;
      keep = None;
      shapes = c.new-3.result;
      goals = c.new-4.result;
    } in
    let fresh : IsFresh c.len-columns.result old = record {
      measures = c.in_ok-column_measures.ensures;
      tests = c.new.ensures.items;
      named = c.new-2.ensures.items;
      keep = refl;
      shapes = c.new-3.ensures.items;
      goals = c.new-4.ensures.items;
    } in
    let env = environment_of lists in
    let n = length-map lists.columns.items (λ (item : ColumnItem). item.name) in
    let same = ap (λ (e : Environment). length e.columns) names in
    let count : c.len-columns.result ≡ length (environment parts).columns =
    omega (arith, c.len-columns.ensures, n, same) in
    let one_shape = the_one new.shapes.items c.index-shape.result.now
    (ap (λ (xs : List Shape). length xs) (shapes_drafted env parts c.len-columns.result old new fresh drafted)
    ∙ one_shape_there parts sound) c.index-shape.ensures in
    let one_goal = the_one new.goals.items c.remove-goal.result
    (ap (λ (xs : List Goal). length xs) (goals_drafted env parts c.len-columns.result old new fresh names drafted)
    ∙ one_goal_there parts sound) c.remove-goal.ensures.value in
    let whole = is_resolved spec lists c.args.automata.items c.len-columns.result old new c.index-shape.result.now
    c.remove-goal.result names items count tables c.requires.automata fresh drafted one_shape one_goal in
    rw c.checked_of.ensures whole
