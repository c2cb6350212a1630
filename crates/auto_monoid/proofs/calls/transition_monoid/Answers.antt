use Rattle.std.proofs.Common.{◌≡◌, All, sym, ap, subst, ◌∙◌}
use Rattle.monoid_kit.specs.Monoid.{IsMonoid}
use Rattle.monoid_kit.specs.Table.{PlainTable, IsTable, table_mul}
use Rattle.monoid_kit.specs.TableOf.{plain_raw}
use Rattle.auto_monoid.specs.AutoOf.{plain_auto}
use Rattle.auto_monoid.specs.Functions.{IsFunction}
use Rattle.auto_monoid.specs.MonoidOf.{product_table}
use Rattle.auto_monoid.proofs.Products.{all_functions, product_table-IsTable, product_table-IsMonoid}
use Rattle.auto_monoid.proofs.Products.{no_fault}
use Rattle.auto_monoid.proofs.All.{are_not_too_many}
use Rattle.auto_monoid.proofs.calls.transition_monoid.Goals as goal

pub table_of-requires-clause-functions : goal.table_of-requires-clause-functions
table_of-requires-clause-functions c =
    let a = plain_auto c.args.auto in
    subst (All (IsFunction a.states)) (sym c.deref-2.ensures.value)
    (all_functions a c.requires.auto c.in_ok-functions.functions.items c.in_ok-functions.ensures.numbered)

pub check_table-requires : goal.check_table-requires
check_table-requires c =
    let a = plain_auto c.args.auto in
    let fs = c.in_ok-functions.functions.items in
    let is : plain_raw c.in-Ok-table_of.table ≡ product_table fs =
    c.in-Ok-table_of.ensures ∙ ap product_table c.deref-2.ensures.value in
    record {
      table =
          subst IsTable (sym is)
          (product_table-IsTable a c.requires.auto fs c.in_ok-functions.ensures.numbered c.in_ok-functions.ensures.few);
    }

pub want_of_memory-requires : goal.want_of_memory-requires
want_of_memory-requires c =
    let a = plain_auto c.args.auto in
    let fs = c.in_ok-functions.functions.items in
    let is : plain_raw c.in-Ok-table_of.table ≡ product_table fs =
    c.in-Ok-table_of.ensures ∙ ap product_table c.deref-2.ensures.value in
    let monoid =
    subst (λ (t : PlainTable). IsMonoid t.size t.unit (table_mul t)) (sym is)
    (product_table-IsMonoid a c.requires.auto fs c.in_ok-functions.ensures.numbered) in
    no_fault (plain_raw c.in-Ok-table_of.table) c.in-Err.fault (c.in-Err.ensures.exact.1 monoid) c.in-Err.ensures.tells

pub returns-in-Ok-check_table-clause-few : goal.returns-in-Ok-check_table-clause-few
returns-in-Ok-check_table-clause-few c =
    are_not_too_many (plain_auto c.args.auto) c.in_ok-functions.functions.items
    c.in_ok-functions.ensures.numbered c.in_ok-functions.ensures.few
