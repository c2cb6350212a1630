use Rattle.std.proofs.Common.{◌≡◌, ◌≤◌, ◌/◌, length, drop}
use Rattle.monoid_product.specs.ComponentOf.{plain_components}
use Rattle.monoid_product.specs.Product.{key_count}
use Rattle.monoid_product.proofs.Suffixes.{product_from}
use Rattle.monoid_product.proofs.keys.product_key.Given as goal

-- the key so far is the product of what both keys show of the components from k on
abbrev pub invariant-loop-k : goal.invariant-loop-k
invariant-loop-k l = record {
  in_range : l.k ≤ length l.parts;
  later : l.later ≡ key_count (plain_components (drop l.k l.parts));
  a_rest : l.a_rest ≡ l.a / l.later;
  b_rest : l.b_rest ≡ l.b / l.later;
  key : l.key ≡ product_from l.parts l.a l.b l.k;
}

abbrev pub decreases-loop-k : goal.decreases-loop-k
decreases-loop-k l = l.k
