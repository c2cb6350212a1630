use Rattle.auto_monoid.proofs.All.{too_many-AreMany, few-AreFew}
use Rattle.auto_monoid.proofs.law.too_many_law.Goals as goal

pub returns-clause-many : goal.returns-clause-many
returns-clause-many c a auto many = too_many-AreMany a many

pub returns-clause-few : goal.returns-clause-few
returns-clause-few c a auto few = few-AreFew a auto few
