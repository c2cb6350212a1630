use Rattle.std.proofs.Common.{sym, ◌∙◌}
use Rattle.table_semiring.specs.TableOf.{plain_raw}
use Rattle.table_semiring.proofs.Lawful.{first_break-IsSemiring, IsSemiring-first_break}
use Rattle.table_semiring.proofs.checks.check_semiring.Goals as goal

pub returns-in-Some-clause-exact : goal.returns-in-Some-clause-exact
returns-in-Some-clause-exact c =
    let t = plain_raw c.args.raw.now in
    (first_break-IsSemiring t c.requires.table, IsSemiring-first_break t c.requires.table)

pub of-requires : goal.of-requires
of-requires c =
    let t = plain_raw c.args.raw.now in
    record {
      lawful = record {
        table = c.requires.table;
        semiring = first_break-IsSemiring t c.requires.table (sym c.first_break.ensures ∙ c.in_default.is);
      };
    }

pub returns-in-Err-clause-exact : goal.returns-in-Err-clause-exact
returns-in-Err-clause-exact c =
    let t = plain_raw c.args.raw.now in
    (first_break-IsSemiring t c.requires.table, IsSemiring-first_break t c.requires.table)
