-- Picked elements, and the product of one mark more.
use Rattle.std.proofs.Common.{◌≡◌, ℕ, suc, ◌+◌, ◌<◌, Bool, true, false, List, [], ◌∷◌, take, length, get_or, All}
use Rattle.std.proofs.Common.{refl, sym, subst, arith}
use Rattle.std.proofs.lemmas.List.Sums.{fold_more}
use Rattle.monoid_kit.specs.Items.{AllElements}
use Rattle.monoid_kit.specs.Product.{product_by}
use Rattle.monoid_kit.specs.Table.{PlainTable, IsLawfulTable, table_mul}
use Rattle.monoid_kit.proofs.Products.{product_from_left-product_by, product_by-is_element}
use Rattle.shape_gen.specs.declared.mark.Mark.{Mark}
use Rattle.gta_checked.specs.PlainRows.{PlainRows}
use Rattle.gta_checked.specs.Plain.{PlainPick}
use Rattle.gta_checked.specs.Within.{IsPickWithin}
use Rattle.gta_meaning.specs.Values.{holds}
use Rattle.gta_meaning.specs.Folds.{picked, folded}

by_test : {A : Type 0} (b : Bool) → (b ≡ true → A) → (b ≡ false → A) → A
by_test true t f = t refl
by_test false t f = f refl

-- what is picked is an element
pub picked-is_element : (rows : PlainRows) (columns labels size unit row label : ℕ) (picks : List PlainPick)
    → unit < size → All (IsPickWithin columns labels size) picks → picked rows unit picks row label < size
picked-is_element rows columns labels size unit row label [] unit_in all = unit_in
picked-is_element rows columns labels size unit row label (pick ∷ picks) unit_in all =
    by_test (holds rows row label pick.cond)
    (λ t. let here : pick.element < size = (all 0 pick (omega arith)).0 in rw t here)
    (λ f. rw f (picked-is_element rows columns labels size unit row label picks unit_in
    (λ k d below. all (suc k) d (omega arith))))

module _ (rows : PlainRows) (columns labels : ℕ) (table : PlainTable) (lawful : IsLawfulTable table)
    (picks : List PlainPick) (within : All (IsPickWithin columns labels table.size) picks) where
  abbrev pub element : Mark → ℕ
  element mark = picked rows table.unit picks mark.row mark.label

  elements : (marks : List Mark) → AllElements (λ a. a < table.size) element marks
  elements marks mark is_in =
      picked-is_element rows columns labels table.size table.unit mark.row mark.label picks
      lawful.table.unit_is_element within

  pub folded-product_by : (marks : List Mark)
      → folded rows table picks marks ≡ product_by table.unit (table_mul table) element marks
  folded-product_by marks = product_from_left-product_by lawful.monoid element marks (elements marks)

  pub folded-is_element : (marks : List Mark) → folded rows table picks marks < table.size
  folded-is_element marks =
      subst (λ a. a < table.size) (sym (folded-product_by marks))
      (product_by-is_element lawful.monoid element marks (elements marks))

pub folded-more : (rows : PlainRows) (table : PlainTable) (picks : List PlainPick) (marks : List Mark) (i : ℕ)
    (d : Mark)
    → i < length marks
    → folded rows table picks (take (i + 1) marks)
    ≡ table_mul table (folded rows table picks (take i marks))
    (picked rows table.unit picks (get_or marks i d).row (get_or marks i d).label)
folded-more rows table picks marks i d below =
    fold_more (λ product mark. table_mul table product (picked rows table.unit picks mark.row mark.label)) table.unit
    marks i d below
