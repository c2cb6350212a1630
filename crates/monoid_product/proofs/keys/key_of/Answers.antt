use Rattle.std.proofs.Common.{get_or, drop, ◌+◌, arith}
use Rattle.monoid_product.specs.ComponentOf.{plain_components}
use Rattle.monoid_product.specs.Product.{key_of}
use Rattle.monoid_product.proofs.Digits.{key_of-is_key}
use Rattle.monoid_product.proofs.Suffixes.{AreDigits-length, key_of-more, horner-within, keys_of, keys_of-some, size_of}
use Rattle.monoid_product.proofs.keys.key_of.Goals as goal

pub bounds-digits-k : goal.bounds-digits-k
bounds-digits-k c =
    (let same = AreDigits-length c.args.parts.now c.args.digits.now c.requires.are_digits in omega arith)

pub overflow_mul-key : goal.overflow_mul-key
overflow_mul-key c =
    let same = AreDigits-length c.args.parts.now c.args.digits.now c.requires.are_digits in
    let more = key_of-more c.args.parts.now c.loop-k.k c.index-parts-k.result c.loop-k-test.true c.index-parts-k.is
    c.args.digits.now (omega arith) c.loop-k.key c.loop-k.invariant in
    let after = drop (c.loop-k.k + 1) c.args.parts.now in
    let le = horner-within c.loop-k.key (size_of c.index-parts-k.result) (get_or c.args.digits.now c.loop-k.k 0)
    (keys_of after) (key_of (plain_components after) (drop (c.loop-k.k + 1) c.args.digits.now)) _
    (keys_of-some after) more in
    let below = key_of-is_key (plain_components c.args.parts.now) c.args.digits.now c.requires.are_digits in
    let within = c.requires.within in
    rw c.size.ensures (omega arith)

pub overflow_add-key : goal.overflow_add-key
overflow_add-key c =
    let same = AreDigits-length c.args.parts.now c.args.digits.now c.requires.are_digits in
    let more = key_of-more c.args.parts.now c.loop-k.k c.index-parts-k.result c.loop-k-test.true c.index-parts-k.is
    c.args.digits.now (omega arith) c.loop-k.key c.loop-k.invariant in
    let after = drop (c.loop-k.k + 1) c.args.parts.now in
    let le = horner-within c.loop-k.key (size_of c.index-parts-k.result) (get_or c.args.digits.now c.loop-k.k 0)
    (keys_of after) (key_of (plain_components after) (drop (c.loop-k.k + 1) c.args.digits.now)) _
    (keys_of-some after) more in
    let below = key_of-is_key (plain_components c.args.parts.now) c.args.digits.now c.requires.are_digits in
    let within = c.requires.within in
    rw c.size.ensures (omega arith)

pub loop-k-preserved : goal.loop-k-preserved
loop-k-preserved c =
    let same = AreDigits-length c.args.parts.now c.args.digits.now c.requires.are_digits in
    rw c.size.ensures
    (key_of-more c.args.parts.now c.loop-k.k c.index-parts-k.result c.loop-k-test.true c.index-parts-k.is
    c.args.digits.now (omega arith) c.loop-k.key c.loop-k.invariant)
