use Rattle.std.proofs.Common.{◌<◌, ◌^◌, lit<, arith}
use Rattle.monoid_product.proofs.Suffixes.{keys_of-more_within, keys_of-within}
use Rattle.monoid_product.proofs.keys.key_count.Goals as goal

pub overflow_mul-keys : goal.overflow_mul-keys
overflow_mul-keys c =
    let le = keys_of-more_within c.args.parts.now c.loop-part.part-index c.part-item.result c.loop-part-test.true
    c.part-item.is
    c.loop-part.keys c.loop-part.invariant in
    let all = keys_of-within 8 c.args.parts.now c.requires.few in
    let small : 8192 ^ 8 < 2 ^ 128 = lit< tt in
    rw c.size.ensures (omega arith)
