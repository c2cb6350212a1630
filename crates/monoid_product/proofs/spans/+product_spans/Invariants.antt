use Rattle.std.proofs.Common.{length}
use Rattle.monoid_product.proofs.spans.+product_spans.Given as goal

abbrev pub decreases-product_spans : goal.decreases-product_spans
decreases-product_spans l = length l.parts.now
