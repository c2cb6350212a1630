use Rattle.std.proofs.Common.{sym, ◌∙◌}
use Rattle.monoid_kit.specs.TableOf.{plain_raw}
use Rattle.monoid_kit.proofs.Tables.{first_bad-IsMonoid, IsMonoid-first_bad, table_mul-IsMonoid}
use Rattle.monoid_kit.proofs.checks.check_table.Goals as goal

pub returns-in-Some-clause-exact : goal.returns-in-Some-clause-exact
returns-in-Some-clause-exact c =
    let t = plain_raw c.args.table.now in
    (first_bad-IsMonoid t c.requires.table, IsMonoid-first_bad t c.requires.table)

pub returns-in-Some-triple-clause-exact : goal.returns-in-Some-triple-clause-exact
returns-in-Some-triple-clause-exact c =
    let t = plain_raw c.args.table.now in
    (first_bad-IsMonoid t c.requires.table, IsMonoid-first_bad t c.requires.table)

pub of-requires : goal.of-requires
of-requires c =
    let t = plain_raw c.args.table.now in
    record {
      lawful = record {
        table = c.requires.table;
        monoid = table_mul-IsMonoid t c.requires.table (sym c.unit_failure.ensures ∙ c.in_default.is)
            (sym c.triple.ensures ∙ c.in_default-triple.is);
      };
    }

pub returns-in-Err-clause-exact : goal.returns-in-Err-clause-exact
returns-in-Err-clause-exact c =
    let t = plain_raw c.args.table.now in
    (first_bad-IsMonoid t c.requires.table, IsMonoid-first_bad t c.requires.table)
