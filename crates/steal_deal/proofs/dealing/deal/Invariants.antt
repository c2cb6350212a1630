use Rattle.std.proofs.Common.{◌≡◌}
use Rattle.steal_deal.specs.Hands.{BlocksSeen, parent_hand}
use Rattle.steal_deal.proofs.Hands.{first_hands}
use Rattle.steal_deal.proofs.dealing.deal.Given as goal

abbrev pub invariant-loop : goal.invariant-loop
invariant-loop l =
    let blocks : BlocksSeen = record
    { table = l.blocks-inside.table.shared.table_id; partition = l.blocks-inside.partition } in
    record {
      last : l.last ≡ parent_hand blocks l.counter;
      hands : l.hands.items ≡ first_hands blocks l.counter;
    }
