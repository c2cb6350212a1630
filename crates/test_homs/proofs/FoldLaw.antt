-- A fold is decided by the products of its table.
use Rattle.std.proofs.Common.{ℕ, ◌==◌, List, All, sym, ap}
use Rattle.std.specs.List.{list_any}
use Rattle.monoid_kit.specs.Table.{PlainTable, IsLawfulTable}
use Rattle.gta_checked.specs.PlainRows.{PlainRows}
use Rattle.gta_checked.specs.Plain.{PlainPick}
use Rattle.gta_checked.specs.Within.{IsPickWithin}
use Rattle.gta_meaning.specs.Folds.{folded}
use Rattle.gta_meaning.proofs.Products.{folded-product_by, picked-is_element}
use Rattle.test_homs.specs.Fold.{fold_in}
use Rattle.test_homs.specs.Hom.{IsHomOf}

pub fold_in-IsHomOf : (rows : PlainRows) (columns names labels : ℕ) (table : PlainTable) (picks : List PlainPick)
    (accept : List ℕ) → IsLawfulTable table → All (IsPickWithin columns names table.size) picks
    → IsHomOf rows labels (λ marks. list_any (λ element. element == folded rows table picks marks) accept)
    (fold_in table picks accept)
fold_in-IsHomOf rows columns names labels table picks accept lawful within = record {
  monoid = lawful.monoid;
  letters = λ row label.
      picked-is_element rows columns names table.size table.unit row label picks lawful.table.unit_is_element within;
  decides = λ marks in_range.
      ap (λ product. list_any (λ element. element == product) accept)
      (sym (folded-product_by rows columns names table lawful picks within marks));
}
