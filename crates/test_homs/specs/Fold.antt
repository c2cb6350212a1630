-- Tests of a fold in a table.
use Rattle.std.specs.Prelude.{ℕ, ◌==◌, List}
use Rattle.std.specs.List.{list_any}
use Rattle.monoid_kit.specs.Table.{PlainTable}
use Rattle.gta_checked.specs.Plain.{PlainPick}
use Rattle.gta_meaning.specs.Folds.{picked}
use Rattle.monoid_product.specs.Component.{Table}
use Rattle.test_homs.specs.Hom.{Hom}

-- the elements that are picked, with the products of the table; the elements that are listed are accepted
abbrev pub fold_in : PlainTable → List PlainPick → List ℕ → Hom
fold_in table picks accept = record {
  component = Table table;
  letter = λ rows row label. picked rows table.unit picks row label;
  accepts = λ product. list_any (λ element. element == product) accept;
}
