-- Seats and hands given out one by one, and pockets put together.
use Rattle.std.proofs.Common.{◌≡◌, ℕ, ◌+◌, ◌-◌, ◌<◌, List, [], ◌∷◌, ◌++◌, length, get_or, refl, ap, sym, subst, ◌∙◌}
use Rattle.std.proofs.Common.{arith, length-append, append-nil}
use Rattle.std.specs.List.{All}
use Rattle.std.proofs.lemmas.List.FromFn.{get_or-map-range_with_len, length-map-range_with_len}
use Rattle.std.proofs.Math.Seq.{get_or-append_seam}
use Rattle.atomic_table.specs.Seated.{TableId}
use Rattle.steal_deal.specs.Hands.{HandSeen, BlocksSeen, new_hand, new_hands}
use Rattle.board_table.specs.Seen.{SeatSeen, new_seat}
use Rattle.worker_pool.specs.Jobs.{MayShare, IsJob}

-- what a loop has gone over, when nothing is left
pub all_gone_over : {X : Type 0} (xs ys zs : List X) → xs ≡ ys ++ zs → length zs ≡ 0 → xs ≡ ys
all_gone_over xs ys [] e none = e ∙ append-nil ys
all_gone_over xs ys (z ∷ zs) e none = absurd (omega arith)

module _ {X : Type 0} (P : X → Type 0) where
  -- what holds of each element holds of the one at which a loop stands
  pub all_here : (xs ys zs : List X) (y : X) → xs ≡ ys ++ y ∷ zs → All P xs → P y
  all_here xs ys zs y e all =
      let long : length xs ≡ length ys + length (y ∷ zs) = ap (λ l. length l) e ∙ length-append ys (y ∷ zs) in
      subst (λ x. P x) (ap (λ l. get_or l (length ys) y) e ∙ get_or-append_seam ys y zs y)
      (all (length ys) y (omega arith))

hands_counted : (blocks : BlocksSeen) (items : List HandSeen) → items ≡ new_hands blocks
    → length items ≡ blocks.partition.workers
hands_counted blocks items are = ap (λ l. length l) are
    ∙ length-map-range_with_len (new_hand blocks) 0 blocks.partition.workers

module _ (blocks : BlocksSeen) (items yielded : List HandSeen) (are : items ≡ new_hands blocks) where
  pub next_below : (more : List HandSeen) (hand : HandSeen) → items ≡ yielded ++ hand ∷ more
      → length yielded < blocks.partition.workers
  next_below more hand e =
      let long : length items ≡ length yielded + length (hand ∷ more) = ap (λ l. length l) e
      ∙ length-append yielded (hand ∷ more) in
      omega (arith, hands_counted blocks items are)

  pub all_given : (more : List HandSeen) → items ≡ yielded ++ more → length more ≡ 0
      → length yielded ≡ blocks.partition.workers
  all_given more e none =
      let long : length items ≡ length yielded + length more = ap (λ l. length l) e ∙ length-append yielded more in
      omega (arith, hands_counted blocks items are)

  pub next_is : (more : List HandSeen) (hand : HandSeen) → items ≡ yielded ++ hand ∷ more
      → hand ≡ new_hand blocks (length yielded)
  next_is more hand e =
      let below = next_below more hand e in
      sym (get_or-append_seam yielded hand more hand)
      ∙ sym (ap (λ l. get_or l (length yielded) hand) e)
      ∙ ap (λ l. get_or l (length yielded) hand) are
      ∙ get_or-map-range_with_len (new_hand blocks) 0 blocks.partition.workers (length yielded) (length yielded) hand
      (omega arith) (omega arith)

module _ {F : Type 0} (board : TableId) (plan : F) (spare : ℕ) (seat : SeatSeen F)
    (shares : MayShare board plan spare seat) where
  pub still_shares : (old : SeatSeen F) → old ≡ record seat { spare = seat.spare - 1 } → (spare' : ℕ)
      → spare - 1 ≡ spare' → MayShare board plan spare' old
  still_shares old is spare' one_less = subst (λ s. MayShare board plan spare' s) (sym is) (record {
    ready = record { table = shares.ready.table; room = shares.ready.room; turn = shares.ready.turn };
    plan_is = shares.plan_is;
    none_claimed = shares.none_claimed;
    spare_is = ap (λ n. n - 1) shares.spare_is ∙ one_less;
  })

  pub is_job : {W : Type 0} (blocks : BlocksSeen) (new : SeatSeen F) (hand : HandSeen) (k worker : ℕ)
      → new ≡ new_seat seat → hand ≡ new_hand blocks k → k + 1 ≡ worker
      → IsJob {W = W} board plan blocks (record { seat = new; hand = hand; worker = worker })
  is_job {W} blocks new hand k worker seat_is hand_is next =
      subst (λ s. IsJob {W = W} board plan blocks (record { seat = s; hand = hand; worker = worker })) (sym seat_is)
      (subst (λ h. IsJob {W = W} board plan blocks (record { seat = new_seat seat; hand = h; worker = worker }))
      (sym hand_is)
      (record {
        ready = record { table = shares.ready.table; room = shares.ready.room; turn = refl };
        plan_is = shares.plan_is;
        none_claimed = refl;
        hand = record { table = refl; partition = refl };
        number = next;
        none_taken = refl;
        none_met = refl;
      }))
