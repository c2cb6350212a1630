-- What splits, a join and a look make of seats and notes.
use Rattle.std.proofs.Common.{◌≡◌, ℕ, ◌+◌, ◌^◌, ◌<◌, ◌≤◌, false, cond, List, [], ◌∷◌, ap, sym, refl, subst, ◌∙◌, arith}
use Rattle.std.specs.Prelude.{None}
use Rattle.atomic_table.specs.Seated.{TableId}
use Rattle.atomic_table.specs.Table.{Step, Allows, Splits, Joins}
use Rattle.board_core.proofs.LogLemmas.{legal_length}
use Rattle.board_table.specs.declared.view.Place.{Place}
use Rattle.board_table.specs.declared.view.View.{View}
use Rattle.board_table.specs.declared.view.View.TheVariants as view
use Rattle.board_table.specs.declared.table.Opening.{Opening}
use Rattle.board_table.specs.Views.{longer, parent_view, child_view, same_view, told_view, joined, joined_view}
use Rattle.board_table.specs.Views.{spent_view}
use Rattle.board_table.specs.Rule.{Slot, BoardRule}
use Rattle.board_table.specs.Steps.{Holder, Looks, looks}
use Rattle.board_table.specs.Seen.{SeatSeen, seat_seen, IsPlace, IsSeat}
use Rattle.board_table.specs.Notes.{NoteSeen, note_seen, IsNote, Meets}
use Rattle.board_table.proofs.Seating.{tell_keeps, share_keeps, meet_keeps, look_keeps}

module _ {F : Type 0} where
  note_table : (rows : F → ℕ) (table : TableId) (v : View F) → (note_seen rows table v).table ≡ table
  note_table rows table (view.Seat p) = refl
  note_table rows table (view.Note s) = refl
  note_table rows table view.Spent = refl

  -- a note of this board was made in its table
  pub own_note : (rows : F → ℕ) (table board at : TableId) (v : View F) (seen : NoteSeen F)
      → note_seen rows table v ≡ seen → board ≡ at → seen.table ≡ at
      → table ≡ board
  own_note rows table board at v seen is here made =
      sym (note_table rows table v) ∙ ap (λ (s : NoteSeen F). s.table) is ∙ made ∙ sym here

module _ {F W : Type 0} where
  pub note_slots : (me : Holder F W) → IsNote me → me.1 ≡ []
  note_slots (view.Seat p, held) fits = absurd fits
  note_slots (view.Note s, held) fits = fits
  note_slots (view.Spent, held) fits = absurd fits

  module _ (rows : F → ℕ) (stands : F → ℕ → ℕ → W → Type 0) (number spare : ℕ) (table : TableId) where
    pub share_allowed : (key : Opening F) (id : ℕ) (me : Holder F W) → IsSeat number spare me
        → (seat_seen rows table me.0).holds ≡ false
        → 1 ≤ (seat_seen rows table me.0).spare
        → Splits (BoardRule rows stands key) id me.0 (parent_view me.0) (child_view me.0)
    share_allowed key id (view.Seat p, held) fits idle some_spare = share_keeps rows stands key id p idle some_spare
    share_allowed key id (view.Note s, held) fits idle some_spare = absurd fits
    share_allowed key id (view.Spent, held) fits idle some_spare = absurd fits

    pub numbers_fit : (me : Holder F W) → IsSeat number spare me → number + spare < 2 ^ 32
    numbers_fit (view.Seat p, held) fits = let one = fits.number_is in let two = fits.spare_is in let below =
        fits.in_range in omega arith
    numbers_fit (view.Note s, held) fits = absurd fits
    numbers_fit (view.Spent, held) fits = absurd fits

    pub tell_allowed : (key : Opening F) (id : ℕ) (me : Holder F W) → IsSeat number spare me
        → (seat_seen rows table me.0).holds ≡ false
        → Splits (BoardRule rows stands key) id me.0 (same_view me.0) (told_view me.0)
    tell_allowed key id (view.Seat p, held) fits idle = tell_keeps rows stands key id p idle
    tell_allowed key id (view.Note s, held) fits idle = absurd fits
    tell_allowed key id (view.Spent, held) fits idle = absurd fits

    pub meet_allowed : (key : Opening F) (id other : ℕ) (me : Holder F W) (note : Holder F W)
        → IsSeat number spare me → (seat_seen rows table me.0).holds ≡ false → IsNote note
        → Joins (BoardRule rows stands key) id me.0 other note.0 (joined_view me.0 note.0) spent_view
    meet_allowed key id other (view.Seat p, held) (view.Note s, none_held) fits idle of_note = meet_keeps rows stands
        key id p idle other s
    meet_allowed key id other (view.Seat p, held) (view.Seat q, none_held) fits idle of_note = absurd of_note
    meet_allowed key id other (view.Seat p, held) (view.Spent, none_held) fits idle of_note = absurd of_note
    meet_allowed key id other (view.Note s, held) note fits idle of_note = absurd fits
    meet_allowed key id other (view.Spent, held) note fits idle of_note = absurd fits

    empty_held : (p : Place F) (held : List (ℕ × Slot W)) → IsPlace number spare p held → p.holds ≡ false → held ≡ []
    empty_held p held fits idle = fits.slots_are ∙ ap (λ b. cond b ((0, None) ∷ []) []) idle

    pub look_allowed : (key : Opening F) (id slots : ℕ) (st : Step (Slot W)) (me note mid : Holder F W)
        → IsSeat number spare me → (seat_seen rows table me.0).holds ≡ false
        → IsNote note → mid ≡ (joined_view me.0 note.0, me.1)
        → Allows (BoardRule rows stands key) slots id mid 0 (λ n. n) (looks rows st mid)
    look_allowed key id slots st (view.Seat p, held) (view.Note s, none_held) mid fits idle of_note is =
        subst (λ (m : Holder F W). Allows (BoardRule rows stands key) slots id m 0 (λ n. n) (looks rows st m))
        (sym (is ∙ ap (λ (xs : List (ℕ × Slot W)). (view.Seat (joined p s), xs)) (empty_held p held fits idle)))
        (look_keeps rows stands key id (joined p s) idle slots st)
    look_allowed key id slots st (view.Seat p, held) (view.Seat q, none_held) mid fits idle of_note is = absurd of_note
    look_allowed key id slots st (view.Seat p, held) (view.Spent, none_held) mid fits idle of_note is = absurd of_note
    look_allowed key id slots st (view.Note s, held) note mid fits idle of_note is = absurd fits
    look_allowed key id slots st (view.Spent, held) note mid fits idle of_note is = absurd fits

    abbrev Met : Holder F W → NoteSeen F → Holder F W → Type 0
    Met me note after = IsSeat number spare after × Meets (seat_seen rows table me.0) note
        (seat_seen rows table after.0)

    pub has_met : (st : Step (Slot W)) (n : ℕ) (from : TableId) (me note mid after : Holder F W)
        → IsSeat number spare me → (seat_seen rows table me.0).holds ≡ false
        → IsNote note → mid ≡ (joined_view me.0 note.0, me.1) → looks rows st mid n after
        → Met me (note_seen rows from note.0) after
    has_met st n from (view.Seat p, held) (view.Note s, none_held) mid after fits idle of_note is look =
        let seen : Looks rows (joined p s) after held = subst (λ (m : Holder F W). looks rows st m n after) is look in
        subst (λ (a : Holder F W). Met (view.Seat p, held) (note_seen rows from (view.Note s)) a) (sym seen.seat) (
          record {
            number_is = fits.number_is;
            spare_is = fits.spare_is;
            in_range = fits.in_range;
            no_olds = refl;
            slots_are = fits.slots_are;
          },
          record {
            seat = refl;
            seat_log = seen.olds.0;
            note_log = seen.olds.1.0;
            legal = seen.legal;
            length = legal_length (rows p.terms.plan) p.terms.room (longer p.seen s.seen) seen.legal;
          },
        )
    has_met st n from (view.Seat p, held) (view.Seat q, none_held) mid after fits idle of_note is look = absurd of_note
    has_met st n from (view.Seat p, held) (view.Spent, none_held) mid after fits idle of_note is look = absurd of_note
    has_met st n from (view.Note s, held) note mid after fits idle of_note is look = absurd fits
    has_met st n from (view.Spent, held) note mid after fits idle of_note is look = absurd fits

    -- the same, as contracts see it
    pub meets_seen : (from at : TableId) (me note after : Holder F W) (old : SeatSeen F) (told : NoteSeen F)
        → at ≡ table → seat_seen rows table me.0 ≡ old
        → note_seen rows from note.0 ≡ told
        → Meets (seat_seen rows table me.0) (note_seen rows from note.0) (seat_seen rows table after.0)
        → Meets old told (seat_seen rows at after.0)
    meets_seen from at me note after old told same seat_is note_is meets =
        subst (λ (i : TableId). Meets old told (seat_seen rows i after.0)) (sym same)
        (subst (λ (x : SeatSeen F). Meets x told (seat_seen rows table after.0)) seat_is
        (subst (λ (x : NoteSeen F). Meets (seat_seen rows table me.0) x (seat_seen rows table after.0)) note_is meets))
