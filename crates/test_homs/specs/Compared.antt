-- Tests that compare a sum of natural numbers with a bound.
use Rattle.std.specs.Prelude.{◌+◌, min, ℤ, pos, nat_abs}
use Rattle.gta_spec.specs.declared.parts.Cmp.{Cmp}
use Rattle.gta_checked.specs.Plain.{PlainChecked}
use Rattle.gta_meaning.specs.Values.{compares}
use Rattle.monoid_product.specs.Component.{Capped}
use Rattle.test_homs.specs.declared.added.Added.{Added}
use Rattle.test_homs.specs.Added.{added_at}
use Rattle.test_homs.specs.Hom.{Hom}

-- numbers, or one past the bound where they are past it, with sums that stop there too; accepted are those that
-- compare with the bound as written
abbrev pub compared : PlainChecked → Added → Cmp → ℤ → Hom
compared checked added cmp number = record {
  component = Capped (nat_abs number);
  letter = λ rows row label. min (nat_abs (added_at checked rows added row label)) (nat_abs number + 1);
  accepts = λ sum. compares cmp (pos sum) number;
}
