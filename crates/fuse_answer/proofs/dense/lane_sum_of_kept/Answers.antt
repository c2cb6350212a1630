use Rattle.fuse_answer.proofs.dense.lane_sum_of_kept.Goals as goal

pub dense_sum_by_keys-requires-clause-decide : goal.dense_sum_by_keys-requires-clause-decide
dense_sum_by_keys-requires-clause-decide g c κs within =
    rw (c.in_ok-monoid.ensures, c.product-2.ensures, c.letters.ensures, c.accept.ensures) (record {
      count = c.args.prepared.now.prepared.count;
      keys_are_elements = c.args.prepared.now.prepared.keys;
      one_a_key = c.args.prepared.now.prepared.accept;
      decides = c.args.prepared.now.prepared.decides;
    })
