-- Rows of products by number, and the fronts of lists that they are read from.
use Rattle.std.proofs.Common.{◌≡◌, ℕ, ◌+◌, ◌*◌, ◌<◌, Bool, true, false, not, List, [], ◌∷◌, ◌++◌, map, length, get_or}
use Rattle.std.proofs.Common.{take, All, Option, Some, None, option_map, refl, sym, ap, ◌∙◌, subst, arith}
use Rattle.std.specs.Prelude.{is_some, unwrap_or, ◌==◌}
use Rattle.std.specs.List.{find, flat_map, list_all}
use Rattle.std.specs.Str.{bytes_eq}
use Rattle.std.proofs.Common.{drop}
use Rattle.std.proofs.lemmas.List.{append-nil, get_or_default, length-append, length-map, map-append}
use Rattle.std.proofs.lemmas.List.Elements.{All-nil, All-cons, All-append}
use Rattle.std.proofs.lemmas.Option.{none-some, same_Some}
use Rattle.monoid_kit.specs.Table.{IsTable}
use Rattle.spec_tables.specs.Ready.{IsReadyTable}
use Rattle.spec_tables.specs.Checked.{square_of}
use Rattle.std.proofs.lemmas.Grind.{flat_map-append}
use Rattle.gta_spec.specs.declared.parts.Part.{Part}
use Rattle.gta_spec.specs.declared.parts.PartKind.{PartKind}
use Rattle.gta_spec.specs.declared.parts.PartKind.TheVariants as kinds
use Rattle.gta_spec.specs.declared.parts.TablePart.{TablePart}
use Rattle.gta_spec.specs.WellFormed.{EachFits}
use Rattle.gta_spec.specs.Parts.{PartTree, TableTree, part_tree, kind_tree, table_tree}
use Rattle.spec_tables.proofs.Fronts.{map_take_next, split_at, take_next}
use Rattle.spec_tables.specs.Tables.{number_of, is_one_of, only_one, option_list, numbers_in, numbers_if, row_of}
use Rattle.spec_tables.specs.Tables.{products_of, products_by_number, table_parts, tables_in}
use Rattle.spec_tables.specs.Faults.{not_square_at}

by_test : {A : Type 0} (b : Bool) → (b ≡ true → A) → (b ≡ false → A) → A
by_test true t f = t refl
by_test false t f = f refl

-- a name that is one of these has a number below their count
pub number_of-within : (names : List (List ℕ)) (x : List ℕ) → is_one_of names x ≡ true
    → number_of names x < length names
number_of-within [] x known = absurd (let h : false ≡ true = known in cc)
number_of-within (y ∷ ys) x known =
    by_test (bytes_eq y x)
    (λ t. let none : number_of (y ∷ ys) x ≡ 0 = rw t refl in omega arith)
    (λ f. let rest : number_of (y ∷ ys) x ≡ 1 + number_of ys x = rw f refl in
    let in_rest = number_of-within ys x (let h : is_one_of ys x ≡ true = rw f at known in h) in
    omega arith)

-- and any other name has their count as its number
pub number_of-past : (names : List (List ℕ)) (x : List ℕ) → is_one_of names x ≡ false → number_of names x ≡ length names
number_of-past [] x unknown = refl
number_of-past (y ∷ ys) x unknown =
    by_test (bytes_eq y x)
    (λ t. absurd (let h : true ≡ false = rw t at unknown in cc))
    (λ f. let rest : number_of (y ∷ ys) x ≡ 1 + number_of ys x = rw f refl in
    let same = number_of-past ys x (let h : is_one_of ys x ≡ false = rw f at unknown in h) in
    omega arith)

pub is_one_of-number : (names : List (List ℕ)) (x : List ℕ) → number_of names x < length names
    → is_one_of names x ≡ true
is_one_of-number names x below =
    by_test (is_one_of names x) (λ t. t) (λ f. absurd (let past = number_of-past names x f in omega arith))

-- all products are elements, and their numbers are the row
pub numbers_in-whole : (elements products : List (List ℕ)) → length products ≡ length elements
    → list_all (is_one_of elements) products ≡ true
    → numbers_in elements products ≡ Some (map (number_of elements) products)
numbers_in-whole elements products same all =
    let same_length : (length products == length elements) ≡ true = grind (arith, same) in rw (same_length, all) refl

-- one product is no element
pub numbers_in-broken : (elements products : List (List ℕ)) → list_all (is_one_of elements) products ≡ false
    → numbers_in elements products ≡ None
numbers_in-broken elements products broken =
    by_test (length products == length elements) (λ t. rw (t, broken) refl) (λ f. rw f refl)

-- another number of products
pub numbers_in-other : (elements products : List (List ℕ)) → (length products == length elements) ≡ false
    → numbers_in elements products ≡ None
numbers_in-other elements products other = rw other refl

pub only_one-second : {A : Type 0} (front back : List A) (found : Option A) (x : A) → is_some found ≡ true
    → front ≡ option_list found → only_one (front ++ x ∷ back) ≡ None
only_one-second front back None x some is = absurd (let h : false ≡ true = some in cc)
only_one-second front back (Some y) x some is = rw is refl

pub some_mapped : {A B : Type 0} (f : A → B) (found : Option A) → is_some found ≡ true
    → is_some (option_map f found) ≡ true
some_mapped f None some = some
some_mapped f (Some x) some = refl

-- the first item that a test holds of, behind a front of which it holds nowhere
pub find_here : {A : Type 0} (p : A → Bool) (front back : List A) (d : A) → find p front ≡ None → p d ≡ true
    → find p (front ++ d ∷ back) ≡ Some d
find_here p [] back d none here = rw here refl
find_here p (x ∷ front) back d none here =
    by_test (p x)
    (λ t. absurd (let found : Some x ≡ None = rw t at none in cc))
    (λ f. rw f (find_here p front back d (let rest : find p front ≡ None = rw f at none in rest) here))

pub find_nowhere : {A : Type 0} (p : A → Bool) (front : List A) (d : A) → find p front ≡ None → p d ≡ false
    → find p (front ++ d ∷ []) ≡ None
find_nowhere p [] d none here = rw here refl
find_nowhere p (x ∷ front) d none here =
    by_test (p x)
    (λ t. absurd (let found : Some x ≡ None = rw t at none in cc))
    (λ f. rw f (find_nowhere p front d (let rest : find p front ≡ None = rw f at none in rest) here))

pub flat_map_next : {A B : Type 0} (f : A → List B) (xs : List A) (i : ℕ) (d : A) → i < length xs → d ≡ get_or xs i d
    → flat_map f (take (i + 1) xs) ≡ flat_map f (take i xs) ++ f d
flat_map_next f xs i d below is =
    ap (flat_map f) (take_next xs i d below is) ∙ flat_map-append f (take i xs) (d ∷ [])
    ∙ ap (λ ys. flat_map f (take i xs) ++ ys) (append-nil (f d))

-- one element more
module _ (parts : List PartTree) (table : TableTree) (i : ℕ) (element : List ℕ)
    (below : i < length table.elements) (is : element ≡ get_or table.elements i element)
    (square : find (λ e. not (is_some (row_of parts table e))) (take i table.elements) ≡ None) where
  -- it has no row
  pub not_square_here : row_of parts table element ≡ None
      → not_square_at parts table ≡ Some (get_or table.elements i [])
  not_square_here none =
      let bad : not (is_some (row_of parts table element)) ≡ true = rw none refl in
      ap (find (λ e. not (is_some (row_of parts table e)))) (split_at table.elements i element below is)
      ∙ find_here (λ e. not (is_some (row_of parts table e))) (take i table.elements) (drop (i + 1) table.elements)
      element square bad
      ∙ ap Some (is ∙ get_or_default table.elements i element [] below)

  -- it has one
  pub square_further : (row : List ℕ) → row_of parts table element ≡ Some row
      → find (λ e. not (is_some (row_of parts table e))) (take (i + 1) table.elements) ≡ None
  square_further row there =
      let good : not (is_some (row_of parts table element)) ≡ false = rw there refl in
      ap (find (λ e. not (is_some (row_of parts table e)))) (take_next table.elements i element below is)
      ∙ find_nowhere (λ e. not (is_some (row_of parts table e))) (take i table.elements) element square good

  pub cells_further : (row cells : List ℕ) → row_of parts table element ≡ Some row
      → cells ≡ flat_map (λ e. unwrap_or (row_of parts table e) []) (take i table.elements)
      → cells ++ row ≡ flat_map (λ e. unwrap_or (row_of parts table e) []) (take (i + 1) table.elements)
  cells_further row cells there so_far =
      let here : unwrap_or (row_of parts table element) [] ≡ row = rw there refl in
      ap (λ xs. xs ++ row) so_far
      ∙ ap (λ ys. flat_map (λ e. unwrap_or (row_of parts table e) []) (take i table.elements) ++ ys) (sym here)
      ∙ sym (flat_map_next (λ e. unwrap_or (row_of parts table e) []) table.elements i element below is)

-- the rows of a square table

all_within : (elements products : List (List ℕ)) → list_all (is_one_of elements) products ≡ true
    → All (λ cell. cell < length elements) (map (number_of elements) products)
all_within elements [] all = All-nil (λ cell. cell < length elements)
all_within elements (x ∷ xs) all =
    by_test (is_one_of elements x)
    (λ t. All-cons (λ cell. cell < length elements) (number_of elements x) (map (number_of elements) xs)
    (number_of-within elements x t)
    (all_within elements xs (let rest : list_all (is_one_of elements) xs ≡ true = rw t at all in rest)))
    (λ f. absurd (let h : false ≡ true = rw f at all in cc))

numbers_in-row : (elements products : List (List ℕ)) (row : List ℕ) → numbers_in elements products ≡ Some row
    → (length row ≡ length elements) × All (λ cell. cell < length elements) row
numbers_in-row elements products row is =
    by_test (length products == length elements)
    (λ t. by_test (list_all (is_one_of elements) products)
    (λ a. let made : map (number_of elements) products ≡ row = same_Some _ _ (rw (t, a) at is) in
    let long = length-map products (number_of elements) in
    let same : length products ≡ length elements = grind (arith, t) in (
      ap (λ (xs : List ℕ). length xs) (sym made) ∙ long ∙ same,
      subst (All (λ cell. cell < length elements)) made (all_within elements products a),
    ))
    (λ b. absurd (none-some row (let h : None ≡ Some row = rw (t, b) at is in h))))
    (λ f. absurd (none-some row (let h : None ≡ Some row = rw f at is in h)))

pub numbers_if-row : (elements : List (List ℕ)) (products : Option (List (List ℕ))) (row : List ℕ)
    → numbers_if elements products ≡ Some row
    → (length row ≡ length elements) × All (λ cell. cell < length elements) row
numbers_if-row elements None row is = absurd (none-some row is)
numbers_if-row elements (Some products) row is = numbers_in-row elements products row is

module _ (parts : List PartTree) (table : TableTree) where
  whole_rows : (rows : Option (List ℕ)) (element : List ℕ) → row_of parts table element ≡ rows
      → not (is_some (row_of parts table element)) ≡ false
      → (length (unwrap_or rows []) ≡ length table.elements)
      × All (λ cell. cell < length table.elements) (unwrap_or rows [])
  whole_rows None element is square = absurd (let h : true ≡ false = rw is at square in cc)
  whole_rows (Some row) element is square =
      numbers_if-row table.elements (only_one (products_of parts table.name element)) row is

  whole_cells : (elements : List (List ℕ)) → find (λ e. not (is_some (row_of parts table e))) elements ≡ None
      → (length (flat_map (λ e. unwrap_or (row_of parts table e) []) elements) ≡ length elements * length
      table.elements)
      × All (λ cell. cell < length table.elements) (flat_map (λ e. unwrap_or (row_of parts table e) []) elements)
  whole_cells [] square = (omega arith, All-nil (λ cell. cell < length table.elements))
  whole_cells (e ∷ es) square =
      by_test (not (is_some (row_of parts table e)))
      (λ t. absurd (none-some e (let h : Some e ≡ None = rw t at square in sym h)))
      (λ f. let here = whole_rows (row_of parts table e) e refl f in
      let rest = whole_cells es
      (let r : find (λ e. not (is_some (row_of parts table e))) es ≡ None = rw f at square in r) in
      let both = length-append (unwrap_or (row_of parts table e) [])
      (flat_map (λ e. unwrap_or (row_of parts table e) []) es) in (
        omega (arith, here.0, rest.0, both),
        All-append (λ cell. cell < length table.elements) (unwrap_or (row_of parts table e) [])
            (flat_map (λ e. unwrap_or (row_of parts table e) []) es) here.1 rest.1,
      ))

  -- a square table of some elements, and not too many, that has its unit
  pub square-IsTable : (cells : List ℕ) → IsReadyTable table → not_square_at parts table ≡ None
      → cells ≡ (products_by_number parts table).cells → IsTable (square_of table cells)
  square-IsTable cells ready square is =
      let whole = whole_cells table.elements square in
      record {
        some = ready.some;
        few = ready.few;
        whole = ap (λ (xs : List ℕ). length xs) is ∙ whole.0;
        unit_is_element = number_of-within table.elements table.unit ready.unit;
        cells_are_elements = subst (All (λ cell. cell < length table.elements)) (sym is) whole.1;
      }

-- the lines of tables, line by line

pub tables_in-next : (parts : List Part) (i : ℕ) (d : Part) → i < length parts → d ≡ get_or parts i d
    → tables_in (map part_tree (take (i + 1) parts)) ≡ tables_in (map part_tree (take i parts)) ++ table_parts
    (kind_tree d.kind)
tables_in-next parts i d below is =
    let on : PartTree → List TableTree = λ part. table_parts part.kind in
    ap (flat_map on) (map_take_next part_tree parts i d below is)
    ∙ flat_map-append on (map part_tree (take i parts)) (part_tree d ∷ [])
    ∙ ap (λ ts. tables_in (map part_tree (take i parts)) ++ ts) (append-nil (table_parts (kind_tree d.kind)))

each_front : (ts us : List TableTree) → EachFits IsReadyTable (ts ++ us) → EachFits IsReadyTable us
each_front [] us fits = fits
each_front (t ∷ ts) us fits = each_front ts us fits.1

pub table_ready : (parts : List Part) (i : ℕ) (d : Part) (table : TablePart)
    → EachFits IsReadyTable (tables_in (map part_tree parts))
    → i < length parts → d ≡ get_or parts i d → d.kind ≡ kinds.Table table → IsReadyTable (table_tree table)
table_ready parts i d table fits below is is_table =
    let on : PartTree → List TableTree = λ part. table_parts part.kind in
    let split = ap (λ (ps : List Part). tables_in (map part_tree ps)) (split_at parts i d below is)
    ∙ ap (flat_map on) (map-append part_tree (take i parts) (d ∷ drop (i + 1) parts))
    ∙ flat_map-append on (map part_tree (take i parts)) (map part_tree (d ∷ drop (i + 1) parts)) in
    let back = each_front (tables_in (map part_tree (take i parts)))
    (tables_in (map part_tree (d ∷ drop (i + 1) parts)))
    (subst (EachFits IsReadyTable) split fits) in
    let here : EachFits IsReadyTable (table_tree table ∷ tables_in (map part_tree (drop (i + 1) parts))) =
    rw is_table at back in
    here.0

pub no_table_line : (kind : PartKind) → ((table : TablePart) → kind ≡ kinds.Table table → ⊥)
    → table_parts (kind_tree kind) ≡ []
no_table_line (kinds.Columns items) other = refl
no_table_line (kinds.Labels names) other = refl
no_table_line (kinds.Measure part) other = refl
no_table_line (kinds.Table part) other = absurd (other part refl)
no_table_line (kinds.Times part) other = refl
no_table_line (kinds.Automaton part) other = refl
no_table_line (kinds.Step part) other = refl
no_table_line (kinds.Generate shape) other = refl
no_table_line (kinds.Test part) other = refl
no_table_line (kinds.Named name part) other = refl
no_table_line (kinds.Keep part) other = refl
no_table_line (kinds.Aggregate part) other = refl
