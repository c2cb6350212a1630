-- What a call's steps make of its seat: it tries for the turn, has the board, and gives the turn up.
use Rattle.std.proofs.Common.{◌≡◌, ◌≢◌, ℕ, zero, suc, ◌≤◌, ◌==◌, ⊎_elim, Bool, true, false, cond, List, [], ◌∷◌, ap}
use Rattle.std.proofs.Common.{sym, refl, subst, ◌∙◌, arith}
use Rattle.std.specs.Prelude.{Some, None, MatchOption}
use mathlib.Core.Option.{some, some-injective, some-ne-none}
use lib.ListN.{get_elem?}
use prog.Atomic.{either}
use Rattle.atomic_table.specs.Seated.{TableId}
use Rattle.atomic_table.specs.Table.{Step, Allows, rest, opening}
use Rattle.board_core.specs.Board.{PlainBoard, empty}
use Rattle.board_core.proofs.Keeps.{sound_empty}
use Rattle.board_table.specs.declared.view.Place.{Place}
use Rattle.board_table.specs.declared.view.View.{View}
use Rattle.board_table.specs.declared.view.View.TheVariants as view
use Rattle.board_table.specs.declared.table.Opening.{Opening}
use Rattle.board_table.specs.Views.{winner, done}
use Rattle.board_table.specs.Rule.{Slot, terms_of, first_view, ViewFits, BoardRule}
use Rattle.board_table.specs.Steps.{Holder, WinsTurn, tries, frees}
use Rattle.board_table.specs.Seen.{SeatSeen, seat_seen, IsPlace, IsSeat}
use Rattle.board_table.specs.Changes.{Misses, HasWon, MayGoHome, done_seat}
use Rattle.board_table.proofs.Beginnings.{starts_refl}
use Rattle.board_table.proofs.Turns.{never, try_keeps, free_keeps}

module _ {F : Type 0} where
  pub seen_table : (rows : F → ℕ) (table : TableId) (v : View F) → (seat_seen rows table v).table ≡ table
  seen_table rows table (view.Seat p) = refl
  seen_table rows table (view.Note s) = refl
  seen_table rows table view.Spent = refl

  -- a seat of this board steps on its table
  pub own_table : (rows : F → ℕ) (table board at : TableId) (v : View F) (seen : SeatSeen F)
      → seat_seen rows table v ≡ seen → board ≡ at → seen.table ≡ at
      → table ≡ board
  own_table rows table board at v seen is here ready =
      sym (seen_table rows table v) ∙ ap (λ (s : SeatSeen F). s.table) is ∙ ready ∙ sym here

module _ {F W : Type 0} where
  -- the slots of a seat, as its turn says
  slots_when : (number spare : ℕ) (p : Place F) (slots : List (ℕ × Slot W)) (h : Bool) → IsPlace number spare p slots
      → p.holds ≡ h
      → slots ≡ cond h ((0, None) ∷ []) []
  slots_when number spare p slots h fits holds = fits.slots_are ∙ ap (λ b. cond b ((0, None) ∷ []) []) holds

  module _ (rows : F → ℕ) (stands : F → ℕ → ℕ → W → Type 0) (number spare : ℕ) (table : TableId) where
    pub try_allowed : (key : Opening F) (id slots : ℕ) (st : Step (Slot W)) (me : Holder F W)
        → IsSeat number spare me → (seat_seen rows table me.0).holds ≡ false
        → Allows (BoardRule rows stands key) slots id me 0 (λ n. either (n == 0) 1 n) (tries rows stands st me)
    try_allowed key id slots st (view.Seat p, held) fits idle =
        subst (λ (xs : List (ℕ × Slot W)). Allows (BoardRule rows stands key) slots id (view.Seat p, xs) 0
        (λ n. either (n == 0) 1 n) (tries rows stands st (view.Seat p, xs)))
        (sym (slots_when number spare p held false fits idle)) (try_keeps rows stands key id p idle slots st)
    try_allowed key id slots st (view.Note s, held) fits idle = absurd fits
    try_allowed key id slots st (view.Spent, held) fits idle = absurd fits

    abbrev HasSlot : Holder F W → Type 0
    HasSlot me = (x : Slot W) × (me.1 ≡ (0, x) ∷ rest me.1)

    -- the slot is with a seat that won
    pub won_slot : (st : Step (Slot W)) (n : ℕ) (me mid : Holder F W) → IsSeat number spare me
        → tries rows stands st me n mid → n ≡ 0
        → (x : Slot W) × (mid.1 ≡ (0, x) ∷ rest mid.1)
    won_slot st n (view.Seat p, held) mid fits step zero_read = ⊎_elim
        (λ won. subst HasSlot (sym won.1.seat) (Some won.1.board, refl))
        (λ lost. absurd (let one : n ≡ 1 = lost.0 in omega arith))
        step
    won_slot st n (view.Note s, held) mid fits step zero_read = absurd fits
    won_slot st n (view.Spent, held) mid fits step zero_read = absurd fits

    abbrev Missed : Holder F W → Holder F W → Type 0
    Missed me after = IsSeat number spare after × Misses (seat_seen rows table me.0) (seat_seen rows table after.0)

    pub missed : (st : Step (Slot W)) (n : ℕ) (me after : Holder F W) → IsSeat number spare me
        → (seat_seen rows table me.0).holds ≡ false
        → tries rows stands st me n after → n ≢ 0 → Missed me after
    missed st n (view.Seat p, held) after fits idle step other = ⊎_elim
        (λ won. absurd (other won.0))
        (λ lost. subst (λ (a : Holder F W). Missed (view.Seat p, held) a) (sym lost.1) (
          record {
            number_is = fits.number_is;
            spare_is = fits.spare_is;
            in_range = fits.in_range;
            no_olds =
                fits.no_olds;
            slots_are = fits.slots_are;
          },
          refl,
        ))
        step
    missed st n (view.Note s, held) after fits idle step other = absurd fits
    missed st n (view.Spent, held) after fits idle step other = absurd fits

    abbrev Won : Holder F W → Slot W → Holder F W → Type 0
    Won me found after = IsSeat number spare after
        × MatchOption found (Misses (seat_seen rows table me.0) (seat_seen rows table after.0))
        (λ b. HasWon rows stands (seat_seen rows table me.0) b (seat_seen rows table after.0))

    -- what the exchange of the slot gives: the slot's value was x, and it is None now
    pub won : (st : Step (Slot W)) (n : ℕ) (me mid after : Holder F W) (x : Slot W) → IsSeat number spare me
        → tries rows stands st me n mid → n ≡ 0
        → mid.1 ≡ (0, x) ∷ rest mid.1 → after ≡ (mid.0, (0, None) ∷ rest mid.1) → Won me x after
    won st n (view.Seat p, held) mid after x fits step zero_read slot exchanged = ⊎_elim
        (λ w. won_by w.1)
        (λ lost. absurd (let one : n ≡ 1 = lost.0 in omega arith))
        step
      where
        first_slot : List (ℕ × Slot W) → Slot W
        first_slot [] = None
        first_slot (s ∷ ss) = s.1

        won_by : WinsTurn rows stands p mid → Won (view.Seat p, held) x after
        won_by w =
            let b = w.board in
            let mid_slots : mid.1 ≡ (0, Some b) ∷ [] = ap (λ (m : Holder F W). m.1) w.seat in
            let value : x ≡ Some b = ap first_slot (sym slot ∙ mid_slots) in
            let is : after ≡ (view.Seat (winner p b.log), (0, None) ∷ []) = exchanged
            ∙ ap (λ (m : Holder F W). (m.0, (0, None) ∷ rest m.1)) w.seat in
            subst (λ (y : Slot W). Won (view.Seat p, held) y after) (sym value)
            (subst (λ (a : Holder F W). Won (view.Seat p, held) (Some b) a) (sym is) (
              record {
                number_is = fits.number_is;
                spare_is = fits.spare_is;
                in_range = fits.in_range;
                no_olds =
                    fits.no_olds;
                slots_are = refl;
              },
              record {
                seat = refl;
                of_seat = w.finds.of_terms;
                rows_are = w.finds.of_terms.rows_are;
                later = w.finds.later;
                mine = w.finds.mine;
                taken = w.finds.taken;
              },
            ))
    won st n (view.Note s, held) mid after x fits step zero_read slot exchanged = absurd fits
    won st n (view.Spent, held) mid after x fits step zero_read slot exchanged = absurd fits

    -- a seat that holds the turn has the slot, which holds nothing
    pub has_slot : (b : PlainBoard W) (me : Holder F W) → IsSeat number spare me
        → MayGoHome rows stands (seat_seen rows table me.0) b
        → (x : Slot W) × (me.1 ≡ (0, x) ∷ rest me.1)
    has_slot b (view.Seat p, held) fits home =
        subst (λ (xs : List (ℕ × Slot W)). HasSlot (view.Seat p, xs))
        (sym (slots_when number spare p held true fits home.holds)) (None, refl)
    has_slot b (view.Note s, held) fits home = absurd fits
    has_slot b (view.Spent, held) fits home = absurd fits

    carried_home : (b : PlainBoard W) (p : Place F) (held : List (ℕ × Slot W)) (mid : Holder F W)
        → IsPlace number spare p held → p.holds ≡ true
        → mid ≡ (view.Seat p, (0, Some b) ∷ rest held) → mid ≡ (view.Seat p, (0, Some b) ∷ [])
    carried_home b p held mid fits holds exchanged =
        exchanged ∙ ap (λ (xs : List (ℕ × Slot W)). (view.Seat p, (0, Some b) ∷ rest xs))
        (slots_when number spare p held true fits holds)

    pub free_allowed : (key : Opening F) (id slots : ℕ) (st : Step (Slot W)) (b : PlainBoard W) (me mid : Holder F W)
        → IsSeat number spare me
        → MayGoHome rows stands (seat_seen rows table me.0) b → mid ≡ (me.0, (0, Some b) ∷ rest me.1)
        → Allows (BoardRule rows stands key) slots id mid 0 (λ n. 0) (frees st mid)
    free_allowed key id slots st b (view.Seat p, held) mid fits home exchanged =
        subst (λ (m : Holder F W). Allows (BoardRule rows stands key) slots id m 0 (λ n. 0) (frees st m))
        (sym (carried_home b p held mid fits home.holds exchanged))
        (free_keeps rows stands key id p b slots st home.holds home.of_seat home.grows)
    free_allowed key id slots st b (view.Note s, held) mid fits home exchanged = absurd fits
    free_allowed key id slots st b (view.Spent, held) mid fits home exchanged = absurd fits

    abbrev Freed : Holder F W → PlainBoard W → Holder F W → Type 0
    Freed me b after = IsSeat number spare after ×
        (seat_seen rows table after.0 ≡ done_seat (seat_seen rows table me.0) b.log)

    pub is_freed : (st : Step (Slot W)) (n : ℕ) (b : PlainBoard W) (me mid after : Holder F W) → IsSeat number spare me
        → MayGoHome rows stands (seat_seen rows table me.0) b → mid ≡ (me.0, (0, Some b) ∷ rest me.1)
        → frees st mid n after → Freed me b after
    is_freed st n b (view.Seat p, held) mid after fits home exchanged step =
        let is : after ≡ (view.Seat (done p b.log), []) =
        subst (λ (m : Holder F W). frees st m n after) (carried_home b p held mid fits home.holds exchanged) step in
        subst (λ (a : Holder F W). Freed (view.Seat p, held) b a) (sym is) (
          record {
            number_is = fits.number_is;
            spare_is = fits.spare_is;
            in_range = fits.in_range;
            no_olds =
                fits.no_olds;
            slots_are = refl;
          },
          refl,
        )
    is_freed st n b (view.Note s, held) mid after fits home exchanged step = absurd fits
    is_freed st n b (view.Spent, held) mid after fits home exchanged step = absurd fits

  -- the table of an empty board, and its one seat
  module _ (rows : F → ℕ) (stands : F → ℕ → ℕ → W → Type 0) (key : Opening F) (some_callers : 1 ≤ key.callers) where
    first_fits : (i : ℕ) (v : View F) → get_elem? (first_view key ∷ []) i ≡ some v
        → ViewFits (terms_of key) (λ n. 0) None [] i v
    first_fits zero v here = subst (λ (x : View F). ViewFits (terms_of key) (λ n. 0) None [] 0 x)
        (some-injective (first_view key) v here)
        (record {
          terms_are = refl;
          numbers = omega arith;
          owned = λ n low high. refl;
          unused = λ n low high. (refl, refl);
          seen = starts_refl [];
          olds = tt;
          mine = refl;
          mine_seen = refl;
          taken = refl;
          turn = λ holds. absurd (never (sym holds));
        })
    first_fits (suc i) v here = absurd (some-ne-none v (sym here))

    pub starts_fit : (b : PlainBoard W) → b ≡ empty (rows key.plan.value) key.room → (slots : List (Slot W))
        → slots ≡ Some b ∷ []
        → BoardRule rows stands key (opening (0 ∷ []) slots (first_view key))
    starts_fit b is slots whole =
        let P : List (Slot W) → Type 0 = λ xs. BoardRule rows stands key (opening (0 ∷ []) xs (first_view key)) in
        let Q : PlainBoard W → Type 0 = λ x. P (Some x ∷ []) in
        subst P (sym whole) (subst Q (sym is) (record {
          words = refl;
          slots = refl;
          log = [];
          legal = tt;
          of_callers = tt;
          owner = λ n. 0;
          holder = None;
          turn = record {
            word = refl;
            board = empty (rows key.plan.value) key.room;
            home = refl;
            of_terms = record {
              sound = record { sound = sound_empty (rows key.plan.value) key.room; stand = tt };
              rows_are = refl;
              room_is = refl;
            };
            log_is = refl;
          };
          each = first_fits;
        }))
