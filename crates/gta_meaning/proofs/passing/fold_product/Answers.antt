use Rattle.std.proofs.Common.{◌<◌, ℕ, All, map, length, sym, ap, ◌∙◌, subst, arith}
use Rattle.std.proofs.lemmas.List.{length-map}
use Rattle.monoid_kit.specs.TableOf.{plain_table}
use Rattle.gta_checked.specs.Plain.{NamedTable, plain_named, plain_pick}
use Rattle.gta_checked.specs.PlainRows.{plain_rows}
use Rattle.gta_checked.specs.Tables.{no_table}
use Rattle.gta_checked.specs.Within.{IsPickWithin}
use Rattle.gta_meaning.specs.Folds.{folded}
use Rattle.gta_meaning.proofs.Parts.{item-at}
use Rattle.gta_meaning.proofs.passing.fold_product.Goals as goal

pub folded-requires-clause-within : goal.folded-requires-clause-within
folded-requires-clause-within c =
    let checked = c.args.checked.now in
    let items = c.tables.result.now.items in
    let labels = length checked.labels in
    let picks = map plain_pick c.args.picks.now in
    let below : c.args.table < length items =
    omega (arith, c.requires.declared, sym (length-map items plain_named) ∙ ap length c.tables.ensures.tables) in
    let named = item-at plain_named items checked.tables c.tables.ensures.tables c.args.table c.index.result.now
    no_table below c.index.ensures in
    let sized = subst (λ (size : ℕ). All (IsPickWithin (length checked.columns) labels size) picks)
    (ap (λ (table : NamedTable). table.products.size) (sym named)) c.requires.within in (
      labels,
      subst (λ (columns : ℕ). All (IsPickWithin columns labels c.index.result.now.monoid.size) picks)
          (sym c.requires.columns) sized,
    )

pub returns : goal.returns
returns c =
    let checked = c.args.checked.now in
    let items = c.tables.result.now.items in
    let below : c.args.table < length items =
    omega (arith, c.requires.declared, sym (length-map items plain_named) ∙ ap length c.tables.ensures.tables) in
    let named = item-at plain_named items checked.tables c.tables.ensures.tables c.args.table c.index.result.now
    no_table below c.index.ensures in
    c.folded.ensures
    ∙ ap (folded (plain_rows c.args.rows.now) (plain_table c.index.result.now.monoid) (map plain_pick c.args.picks.now))
    c.deref.ensures.value
    ∙ ap (λ (table : NamedTable). folded (plain_rows c.args.rows.now) table.products (map plain_pick c.args.picks.now)
    c.args.candidate.now.marks.items) named
