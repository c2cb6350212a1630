-- The hands of a deal, one after the other.
use Rattle.std.proofs.Common.{◌≡◌, ℕ, ◌+◌, ◌-◌, ◌<◌, List, [], ◌∷◌, ◌++◌, All, map, sym, refl, ap, ◌∙◌, subst, arith}
use Rattle.std.specs.List.{range_with_len}
use Rattle.std.proofs.lemmas.List.FromFn.{map-range_with_len_more, length-map-range_with_len, get_or-map-range_with_len}
use Rattle.steal_deal.specs.Views.{fresh}
use Rattle.steal_deal.specs.Hands.{BlocksSeen, HandSeen, IsDealtWith, new_hand, new_hands, parent_hand}

-- the first hands
abbrev pub first_hands : BlocksSeen → ℕ → List HandSeen
first_hands blocks n = map (new_hand blocks) (range_with_len 0 n)

module _ (blocks : BlocksSeen) (n : ℕ) (last : HandSeen) (is_last : last ≡ parent_hand blocks n) where
  pub next_is_parent : (seen : BlocksSeen) (next : HandSeen) → blocks ≡ seen
      → next ≡ parent_hand seen (last.view.number + 1) → next ≡ parent_hand blocks (n + 1)
  next_is_parent seen next same is_next = is_next ∙ λ i. parent_hand (sym same i) ((is_last i).view.number + 1)

  pub one_more_hand : (seen : BlocksSeen) (hand : HandSeen) (hands hands' : List HandSeen) → blocks ≡ seen
      → hand ≡ new_hand seen last.view.number
      → hands ≡ first_hands blocks n → hands' ≡ hands ++ hand ∷ [] → hands' ≡ first_hands blocks (n + 1)
  one_more_hand seen hand hands hands' same is_hand are more =
      let kept : hand ≡ new_hand blocks n = is_hand ∙ λ i. new_hand (sym same i) (is_last i).view.number in
      more ∙ ((λ i. are i ++ kept i ∷ []) ∙ sym (map-range_with_len_more (new_hand blocks) 0 n n (omega arith)))

  pub all_hands : (seen : BlocksSeen) (hands hands' : List HandSeen) → blocks ≡ seen → n + 1 ≡ blocks.partition.workers
      → hands ≡ first_hands blocks n → hands' ≡ hands ++ last ∷ [] → hands' ≡ new_hands seen
  all_hands seen hands hands' same whole are more =
      let none_left : blocks.partition.workers - 1 - n ≡ 0 = omega arith in
      let kept : last ≡ new_hand blocks n = is_last
      ∙ λ i. record { table = blocks.table; view = fresh blocks.partition n (none_left i) } in
      let row = map-range_with_len_more (new_hand blocks) 0 n n (omega arith) in
      more ∙ ((λ i. are i ++ kept i ∷ []) ∙ (sym row ∙ (ap (first_hands blocks) whole ∙ ap new_hands same)))

-- each hand was dealt with its blocks
pub new_hands_are_dealt : (blocks : BlocksSeen) (hands : List HandSeen) → hands ≡ new_hands blocks
    → All (IsDealtWith blocks) hands
new_hands_are_dealt blocks hands are = subst (λ (l : List HandSeen). All (IsDealtWith blocks) l) (sym are)
    (λ k d below.
    let in_range : k < blocks.partition.workers = let row = length-map-range_with_len (new_hand blocks) 0
    blocks.partition.workers in omega arith in
    let hand = get_or-map-range_with_len (new_hand blocks) 0 blocks.partition.workers k k d in_range (omega arith) in
    subst (IsDealtWith blocks) (sym hand) record { table = refl; partition = refl })
