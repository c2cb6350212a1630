use Rattle.monoid_product.proofs.Suffixes.{RestAfter}
use Rattle.monoid_product.proofs.keys.digit_of.Given as goal

-- the rest is the key of the components from k on, whose digits are those of the whole key
abbrev pub invariant-loop-k : goal.invariant-loop-k
invariant-loop-k l = RestAfter l.parts l.k l.place l.key l.later l.rest
