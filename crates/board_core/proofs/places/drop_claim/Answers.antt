use Rattle.std.proofs.Common.{◌≡◌, ◌+◌, ◌<◌, ◌∙◌, Option, ap, arith, subst}
use Rattle.std.specs.Prelude.{OnSome, remove}
use Rattle.std.specs.VecDeque.{deque_len}
use Rattle.board_core.specs.declared.taken.Claim.{Claim}
use Rattle.board_core.proofs.PlaceLemmas.{claim_within, remove_claim}
use Rattle.board_core.proofs.places.drop_claim.Goals as goal

stands : (c : goal.After-remove-claim) → c.place-at.result < deque_len c.args.claims.now
stands c =
    let filled = c.args.claims.now.ok in
    omega (
      arith,
      c.place-at.ensures.index,
      claim_within c.args.claim c.args.claims.now.items c.requires.rises
          c.requires.is_open,
    )

-- what the remove says where it finds a claim
found : (c : goal.After-remove-claim) (P : Type 0) → OnSome c.remove-claim.result P → P
found c P told =
    let O : Option Claim → Type 0 = λ o. OnSome o P in
    subst O (c.remove-claim.ensures.succeeds c.args.claim (stands c)) told

pub returns-clause-items : goal.returns-clause-items
returns-clause-items c =
    found c (c.remove-claim.new.self.items ≡ remove c.args.claims.now.items c.place-at.result)
    c.remove-claim.ensures.items
    ∙ ap (λ i. remove c.args.claims.now.items i) c.place-at.ensures.index
    ∙ remove_claim c.args.claim c.args.claims.now.items c.requires.rises c.requires.is_open

pub returns-clause-len : goal.returns-clause-len
returns-clause-len c = found c (deque_len c.remove-claim.new.self + 1 ≡ deque_len c.args.claims.now)
    c.remove-claim.ensures.len
