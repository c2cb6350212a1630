-- Tables by their numbers, and their elements by the tables' names.
use Rattle.std.proofs.Common.{◌≡◌, ℕ, suc, ◌+◌, ◌<◌, ◌≤◌, List, [], ◌∷◌, map, length, get_or, All}
use Rattle.std.proofs.Common.{refl, sym, ap, ◌∙◌, inl, inr, subst, arith}
use Rattle.std.specs.Str.{bytes_eq}
use Rattle.std.proofs.lemmas.Bool.{cases_Bool}
use Rattle.std.proofs.lemmas.List.{get_or-map, length-map}
use Rattle.std.proofs.lemmas.List.Elements.{All-nil, All-cons}
use Rattle.monoid_kit.specs.declared.table.TheConstants.{GREATEST_TABLE}
use Rattle.gta_spec.specs.Parts.{TableTree, PartTree}
use Rattle.gta_checked.specs.declared.resolved.Table.{Table}
use Rattle.gta_checked.specs.Plain.{NamedTable, plain_named}
use Rattle.gta_checked.specs.Tables.{no_table}
use Rattle.gta_checked.specs.Within.{IsTableWithin, table_size}
use Rattle.spec_tables.specs.Tables.{number_of, named_table}
use Rattle.gta_types.specs.Resolved.{TableNames, table_names, elements_in}
use Rattle.gta_types.specs.Lists.{names_of}

pub one_further : {A : Type 0} (x : A) (xs : List A) (n : ℕ) (d : A) → get_or (x ∷ xs) (1 + n) d ≡ get_or xs n d
one_further x xs n d = ap (λ (k : ℕ). get_or (x ∷ xs) k d) (let e : 1 + n ≡ suc n = omega arith in e)

-- as many elements as the table of the name has
pub table_size-elements : (parts : List PartTree) (trees : List TableTree) (x : List ℕ)
    → table_size (map (named_table parts) trees) (number_of (map (λ table. table.name) (map table_names trees)) x)
    ≡ length (elements_in (map table_names trees) x)
table_size-elements parts [] x = refl
table_size-elements parts (tree ∷ trees) x =
    elim (cases_Bool (bytes_eq tree.name x)) [
      | inl h ↦ rw h refl
      | inr h ↦ (let n = number_of (map (λ (t : TableNames). t.name) (map table_names trees)) x in
          rw h (ap (λ (t : NamedTable). t.products.size)
          (one_further (named_table parts tree) (map (named_table parts) trees) n no_table)
          ∙ table_size-elements parts trees x))
    ]

-- the names of the tables that were made
pub names_of-tables : (parts : List PartTree) (tables : List Table) (trees : List TableTree)
    → map plain_named tables ≡ map (named_table parts) trees → map names_of tables ≡ map table_names trees
names_of-tables parts [] [] is = refl
names_of-tables parts [] (tree ∷ trees) is = absurd (cc)
names_of-tables parts (table ∷ tables) [] is = absurd (cc)
names_of-tables parts (table ∷ tables) (tree ∷ trees) is =
    let here : plain_named table ≡ named_table parts tree = cc in
    let rest : map plain_named tables ≡ map (named_table parts) trees = cc in
    let same : names_of table ≡ table_names tree =
    ap (λ (t : NamedTable). record { name = t.name; elements = t.elements }) here in
    rw (same, names_of-tables parts tables trees rest) refl

-- each table that was made is lawful, and each element has a name
pub tables_within : (parts : List PartTree) (tables : List Table) (trees : List TableTree)
    → map plain_named tables ≡ map (named_table parts) trees → All IsTableWithin (map plain_named tables)
tables_within parts [] trees is = All-nil IsTableWithin
tables_within parts (table ∷ tables) [] is = absurd (cc)
tables_within parts (table ∷ tables) (tree ∷ trees) is =
    let here : plain_named table ≡ named_table parts tree = cc in
    let rest : map plain_named tables ≡ map (named_table parts) trees = cc in
    All-cons IsTableWithin (plain_named table) (map plain_named tables)
    (record {
      named = subst (λ (t : NamedTable). length t.elements ≡ t.products.size) (sym here) refl;
      lawful = table.monoid.lawful;
    })
    (tables_within parts tables trees rest)

-- the elements of the table that a name has the number of
pub elements_in-at : (tables : List Table) (x : List ℕ) (i : ℕ) (d : Table)
    → i ≡ number_of (map (λ (table : Table). table.name) tables) x → i < length tables → d ≡ get_or tables i d
    → d.elements.items ≡ elements_in (map names_of tables) x
elements_in-at [] x i d number below is = absurd (omega arith)
elements_in-at (table ∷ tables) x i d number below is =
    elim (cases_Bool (bytes_eq table.name x)) [
      | inl h ↦ (let first : i ≡ 0 = rw h at number in
          let same : d ≡ table = rw first at is in
          rw h (ap (λ (t : Table). t.elements.items) same))
      | inr h ↦ (let next : i ≡ 1 + number_of (map (λ (t : Table). t.name) tables) x = rw h at number in
          let back : d ≡ get_or tables (number_of (map (λ (t : Table). t.name) tables) x) d =
          rw next at is ∙ one_further table tables (number_of (map (λ (t : Table). t.name) tables) x) d in
          rw h (elements_in-at tables x (number_of (map (λ (t : Table). t.name) tables) x) d refl
          (omega arith) back))
    ]

pub elements_in-past : (tables : List Table) (x : List ℕ)
    → length tables ≤ number_of (map (λ (table : Table). table.name) tables) x
    → [] ≡ elements_in (map names_of tables) x
elements_in-past [] x past = refl
elements_in-past (table ∷ tables) x past =
    elim (cases_Bool (bytes_eq table.name x)) [
      | inl h ↦ (let first : length (table ∷ tables) ≤ 0 = rw h at past in absurd (omega arith))
      | inr h ↦ (let next : length (table ∷ tables)
          ≤ 1 + number_of (map (λ (t : Table). t.name) tables) x = rw h at past in
          rw h (elements_in-past tables x (omega arith)))
    ]

-- a table within the limits has few elements
pub few_elements : (tables : List Table) (i : ℕ) (d : Table) → All IsTableWithin (map plain_named tables)
    → i < length tables → d ≡ get_or tables i d → length d.elements.items ≤ GREATEST_TABLE
few_elements tables i d within below is =
    let count = length-map tables plain_named in
    let at : IsTableWithin (get_or (map plain_named tables) i (plain_named d)) =
    within i (plain_named d) (omega (arith, count)) in
    let here : IsTableWithin (plain_named d) =
    subst IsTableWithin (get_or-map plain_named tables i d (plain_named d) below ∙ ap plain_named (sym is)) at in
    omega (arith, here.named, here.lawful.table.few)
