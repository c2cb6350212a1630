use Rattle.std.proofs.Common.{◌-◌, ◌≡◌, ap, ◌∙◌, arith}
use Rattle.monoid_product.proofs.Suffixes.{TakesOneMore, takes_one_more, product_from, product_from-all}
use Rattle.monoid_product.proofs.keys.product_key.Goals as goal

one_more : (c : goal.After-mul)
    → TakesOneMore c.args.parts.now c.args.a c.args.b (c.loop-k.k - 1) c.loop-k.later c.loop-k.a_rest c.loop-k.b_rest
    c.loop-k.key c.size-size.result c.mul.result
one_more c =
    takes_one_more c.args.parts.now (c.loop-k.k - 1) c.loop-k.k c.index-parts-k.result (omega arith)
    c.index-parts-k.is (omega arith) c.args.a c.args.b c.loop-k.later c.loop-k.a_rest c.loop-k.b_rest c.loop-k.key
    c.size-size.result c.mul.result c.loop-k.invariant.later c.loop-k.invariant.a_rest c.loop-k.invariant.b_rest
    c.loop-k.invariant.key c.size-size.ensures c.mul.ensures

pub overflow_mul-key : goal.overflow_mul-key
overflow_mul-key c = omega (arith, (one_more c).digit_within, c.requires.within)

pub overflow_add-key : goal.overflow_add-key
overflow_add-key c = omega (arith, (one_more c).key_within, c.requires.within)

pub overflow_mul-later : goal.overflow_mul-later
overflow_mul-later c = omega (arith, (one_more c).later_within, c.requires.within)

pub loop-k-preserved : goal.loop-k-preserved
loop-k-preserved c =
    let more = one_more c in
    record {
      in_range = omega arith;
      later = more.later_is;
      a_rest = more.a_rest_is;
      b_rest = more.b_rest_is;
      key = more.key_is;
    }

pub returns : goal.returns
returns c =
    let at_end : c.loop-k.k ≡ 0 = omega arith in
    c.loop-k.invariant.key ∙ ap (product_from c.args.parts.now c.args.a c.args.b) at_end
    ∙ product_from-all c.args.parts.now c.args.a c.args.b c.requires.left_is_key c.requires.right_is_key
