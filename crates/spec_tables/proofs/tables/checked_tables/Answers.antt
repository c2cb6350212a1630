use Rattle.std.proofs.Common.{Option, Ok, ◌+◌, ◌≡◌, ◌++◌, ◌∷◌, [], List, Some, map, take, sym, ap, ◌∙◌}
use Rattle.std.proofs.lemmas.List.{append-nil, map-append, take_all}
use Rattle.std.proofs.lemmas.Option.{none-some}
use Rattle.std.specs.List.{filter_map}
use Rattle.outcome_kit.specs.Outcome.{unless}
use Rattle.gta_spec.specs.Parts.{TableTree, part_tree, table_tree}
use Rattle.gta_checked.specs.Plain.{NamedTable, plain_named}
use Rattle.spec_tables.specs.declared.fault.TablesFault.{TablesFault}
use Rattle.spec_tables.specs.Checked.{earlier}
use Rattle.spec_tables.specs.Tables.{named_table, tables_in}
use Rattle.spec_tables.specs.Faults.{fault_of, first_told, tables_fault}
use Rattle.spec_tables.proofs.Rows.{table_ready, tables_in-next, no_table_line}
use Rattle.spec_tables.proofs.Told.{first_told-none, first_told-push, faults-same, faults-more, told-ends}
use Rattle.spec_tables.proofs.tables.checked_tables.Goals as goal
use Rattle.spec_tables.proofs.tables.checked_tables.Goals.{in-Table+in_ok-made+in-Ok+in_ok-push-in-Ok}
use Rattle.spec_tables.proofs.tables.checked_tables.Goals.{in-Table+in_ok-made+in-Err, in_default}

pub loop-part-init : goal.loop-part-init
loop-part-init c = record
    { told = sym first_told-none; tables = λ none. ap (map plain_named) c.new-tables.ensures.items }

pub checked_table-requires : goal.checked_table-requires
checked_table-requires c = record {
  ready = table_ready c.args.parts.now c.loop-part.part-index c.part-item.result c.in-Table.table c.requires.ready
      c.loop-part-test.true c.part-item.is c.in-Table.is;
}

pub loop-part-preserved : goal.loop-part-preserved
loop-part-preserved c =
    let all = map part_tree c.args.parts.now in
    let i = c.loop-part.part-index in
    let so_far = tables_in (map part_tree (take i c.args.parts.now)) in
    let next = tables_in-next c.args.parts.now i c.part-item.result c.loop-part-test.true c.part-item.is in
    elim c.match-part.branch [
      | in-Table+in_ok-made+in-Ok+in_ok-push-in-Ok w ↦ (
          let table = table_tree w.in-Table.table in
          let more : tables_in (map part_tree (take (i + 1) c.args.parts.now)) ≡ so_far ++ table ∷ [] =
          rw w.in-Table.is at next in
          let checked = rw w.in-Ok.is at w.in_ok-made.ensures in
          record {
            told = w.first-is ∙ c.loop-part.invariant.told
                ∙ ap first_told (sym (faults-same (fault_of all) so_far table checked.0))
                ∙ ap (λ (ts : List TableTree). first_told (filter_map (fault_of all) ts)) (sym more);
            tables = λ none.
                rw (w.tables-is, w.in_ok-push-in-Ok.ensures.items)
                (map-append plain_named c.loop-part.tables.items (w.in-Ok.made ∷ [])
                ∙ ap (λ (xs : List NamedTable). xs ++ plain_named w.in-Ok.made ∷ [])
                (c.loop-part.invariant.tables (sym w.first-is ∙ none))
                ∙ ap (λ (x : NamedTable). map (named_table all) so_far ++ x ∷ []) checked.1
                ∙ sym (map-append (named_table all) so_far (table ∷ []))
                ∙ ap (map (named_table all)) (sym more));
          })
      | in-Table+in_ok-made+in-Err w ↦ (
          let table = table_tree w.in-Table.table in
          let more : tables_in (map part_tree (take (i + 1) c.args.parts.now)) ≡ so_far ++ table ∷ [] =
          rw w.in-Table.is at next in
          let checked = rw w.in-Err.is at w.in_ok-made.ensures in
          let faults = filter_map (fault_of all) so_far in
          record {
            told = w.first-is
                ∙ ap Some (w.earlier.ensures
                ∙ ap (λ (o : Option TablesFault). earlier o w.in-Err.fault) c.loop-part.invariant.told)
                ∙ sym (first_told-push faults w.in-Err.fault)
                ∙ ap first_told (sym (faults-more (fault_of all) so_far table w.in-Err.fault checked))
                ∙ ap (λ (ts : List TableTree). first_told (filter_map (fault_of all) ts)) (sym more);
            tables = λ none. absurd (none-some _ (sym none ∙ w.first-is));
          })
      | in_default w ↦ (
          let more : tables_in (map part_tree (take (i + 1) c.args.parts.now)) ≡ so_far =
          next ∙ ap (λ (ts : List TableTree). so_far ++ ts)
          (no_table_line c.part-item.result.kind w.in_default.not-Table) ∙ append-nil so_far in
          record {
            told = w.first-is ∙ c.loop-part.invariant.told
                ∙ ap (λ (ts : List TableTree). first_told (filter_map (fault_of all) ts)) (sym more);
            tables = λ none.
                rw w.tables-is (c.loop-part.invariant.tables (sym w.first-is ∙ none)
                ∙ ap (map (named_table all)) (sym more));
          })
    ]

pub returns-in-Some : goal.returns-in-Some
unfolding tables_fault
returns-in-Some c =
    let parts = map part_tree c.args.parts.now in
    let whole : take c.loop-part.part-index c.args.parts.now ≡ c.args.parts.now =
    take_all c.loop-part.part-index c.args.parts.now c.loop-part-test.false in
    let told = rw whole at c.loop-part.invariant.told in
    record {
      tells = told-ends (tables_fault parts) (Ok (map (named_table parts) (tables_in parts))) c.in-Some.fault
          (sym told ∙ c.in-Some.is);
    }

pub returns-in-None : goal.returns-in-None
unfolding tables_fault
returns-in-None c =
    let parts = map part_tree c.args.parts.now in
    let whole : take c.loop-part.part-index c.args.parts.now ≡ c.args.parts.now =
    take_all c.loop-part.part-index c.args.parts.now c.loop-part-test.false in
    let told = rw whole at c.loop-part.invariant.told in
    let tables = rw whole at c.loop-part.invariant.tables c.in-None.is in
    let made = map (named_table parts) (tables_in parts) in
    record {
      tells = ap (λ (o : Option TablesFault). unless o (Ok made)) (sym told ∙ c.in-None.is) ∙ ap Ok (sym tables);
    }
