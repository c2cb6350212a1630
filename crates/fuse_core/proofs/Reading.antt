-- Reading what a result that is there holds.
use Rattle.std.proofs.Common.{Result, Ok, Err, IfOk}

pub if_ok-both : {A B : Type 0} (P Q R : A → Type 0) → ((a : A) → P a → Q a → R a) → (result : Result A B)
    → IfOk result P → IfOk result Q → IfOk result R
if_ok-both P Q R both (Ok a) p q = both a p q
if_ok-both P Q R both (Err e) p q = p
