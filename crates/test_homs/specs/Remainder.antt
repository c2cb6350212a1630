-- Tests of the remainder of a sum.
use Rattle.std.specs.Prelude.{ℕ, pos, nat_abs, ◌==◌}
use Rattle.std.specs.Int.{int_rem_euclid}
use Rattle.gta_checked.specs.Plain.{PlainChecked}
use Rattle.monoid_product.specs.Component.{Modular}
use Rattle.test_homs.specs.declared.added.Added.{Added}
use Rattle.test_homs.specs.Added.{added_at}
use Rattle.test_homs.specs.Hom.{Hom}

-- the remainders of numbers, with the remainders of their sums; the residue is accepted
abbrev pub remainder : PlainChecked → Added → ℕ → ℕ → Hom
remainder checked added modulus residue = record {
  component = Modular modulus;
  letter = λ rows row label. nat_abs (int_rem_euclid (added_at checked rows added row label) (pos modulus));
  accepts = λ sum. sum == residue;
}
