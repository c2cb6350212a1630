-- Splits, joins and looks keep the Board rule.
use Rattle.std.proofs.Common.{◌≡◌, ◌≢◌, ℕ, ◌+◌, ◌≤◌, ◌==◌, ⊎_elim, Bool, true, false, cond, nat_le, List, [], ◌∷◌}
use Rattle.std.proofs.Common.{◌++◌, length, slice_index, set, ap, sym, refl, subst, ◌∙◌, length-set, length-append}
use Rattle.std.proofs.Common.{get_or-set_same, eq-eqb, ne_eqb, arith}
use Rattle.std.specs.Prelude.{Option, filter}
use Rattle.std.proofs.lemmas.Bool.Decides.{nat_tests}
use Rattle.std.proofs.lemmas.List.Elements.{filter-append}
use mathlib.Core.Option.{some}
use lib.ListN.{get_elem?}
use Rattle.atomic_table.specs.Table.{keeps, Step, Allows, Splits, Joins}
use Rattle.atomic_table.proofs.Lists.{at_set, set_else, at_longer}
use Rattle.board_core.specs.declared.event.Logged.{Logged}
use Rattle.board_core.specs.Board.{empty}
use Rattle.board_core.specs.Replay.{IsLegal, entries_of}
use Rattle.board_core.proofs.OrderedLemmas.{each_map}
use Rattle.board_core.proofs.LogLemmas.{legal_start}
use Rattle.board_table.specs.declared.view.Terms.{Terms}
use Rattle.board_table.specs.declared.view.Place.{Place}
use Rattle.board_table.specs.declared.view.Sheet.{Sheet}
use Rattle.board_table.specs.declared.view.View.{View}
use Rattle.board_table.specs.declared.view.View.TheVariants as view
use Rattle.board_table.specs.declared.table.Opening.{Opening}
use Rattle.board_table.specs.Views.{StartsWith, longer, parent, child, sheet, joined, looked}
use Rattle.board_table.specs.Rule.{Slot, TurnTable, terms_of, IsAt, PlaceFits, SheetFits, ViewFits, BoardRule}
use Rattle.board_table.specs.Steps.{Looks, looks}
use Rattle.board_table.proofs.Beginnings.{is_nothing, at_end, entries_between, starts_both}
use Rattle.board_table.proofs.Turns.{never, turn_moved, not_there, each_set, quiet}

-- a number with no entry in a log has none in a beginning of it
none_seen : (n : ℕ) (log seen : List Logged) → StartsWith log seen → entries_of n log ≡ [] → entries_of n seen ≡ []
none_seen n log seen starts unseen =
    let own : Logged → Bool = λ x. x.who == n in
    let whole : entries_of n log ≡ entries_of n seen ++ entries_of n starts.0 = ap (filter own) starts.1
    ∙ filter-append own seen starts.0 in
    let a : length (entries_of n log) ≡ length (entries_of n seen) + length (entries_of n starts.0) =
    ap (λ (xs : List Logged). length xs) whole ∙ length-append (entries_of n seen) (entries_of n starts.0) in
    let b : length (entries_of n log) ≡ 0 = ap (λ (xs : List Logged). length xs) unseen in
    is_nothing (entries_of n seen) (omega arith)

-- what holds of both logs holds of the longer one
longer_is : (P : List Logged → Type 0) (seen other : List Logged) → P seen → (length seen ≤ length other → P other)
    → P (longer seen other)
longer_is P seen other one two =
    (elim (nat_le (length other) (length seen)) as
    (λ t. nat_le (length other) (length seen) ≡ t → P (cond t seen other)) [
      | true ↦ λ test. one
      | false ↦ λ test. two (grind (arith, nat_tests))
    ])
    refl

pub longer_first : (seen other : List Logged) → length seen ≤ length (longer seen other)
longer_first seen other = longer_is (λ l. length seen ≤ length l) seen other (omega arith) (λ more. more)

pub longer_second : (seen other : List Logged) → length other ≤ length (longer seen other)
longer_second seen other =
    (elim (nat_le (length other) (length seen)) as
    (λ t. nat_le (length other) (length seen) ≡ t → length other ≤ length (cond t seen other)) [
      | true ↦ λ test. grind (arith, nat_tests)
      | false ↦ λ test. omega arith
    ])
    refl

module _ {F W : Type 0} (rows : F → ℕ) (stands : F → ℕ → ℕ → W → Type 0) (key : Opening F) where
  abbrev terms : Terms F
  terms = terms_of key

  module _ (t : TurnTable F W) (rule : BoardRule rows stands key t) (id : ℕ) (p : Place F)
      (at : IsAt t id (view.Seat p)) (idle : p.holds ≡ false) where
    own : PlaceFits terms rule.owner rule.holder rule.log id p
    own = rule.each id (view.Seat p) at

    -- a seat without the turn is cut in two
    cut : (left right : View F) (owner : ℕ → ℕ) → ViewFits terms owner rule.holder rule.log id left
        → ViewFits terms owner rule.holder rule.log (length t.views) right
        → ((j : ℕ) (w : View F) → j ≢ id → IsAt t j w → ViewFits terms owner rule.holder rule.log j w)
        → BoardRule rows stands key
        (record { words = t.words; homes = t.homes; views = set t.views id left ++ right ∷ [] })
    cut left right owner left_fits right_fits others = record {
      words = rule.words;
      slots = rule.slots;
      log = rule.log;
      legal = rule.legal;
      of_callers = rule.of_callers;
      owner = owner;
      holder = rule.holder;
      turn = turn_moved rows stands key t rule.log t.words (set t.views id left ++ right ∷ []) refl
          (λ i q there holds.
          at_longer (set t.views id left) (right ∷ []) i (view.Seat q)
          (set_else t.views id i left (not_there rows stands key t id (view.Seat p) at idle i q there holds) ∙ there))
          rule.holder rule.turn;
      each = λ j w here. ⊎_elim
          (λ e. each_set rows stands key t id owner rule.holder rule.log left left_fits others j w e)
          (λ e. subst (λ (k : ℕ). ViewFits terms owner rule.holder rule.log k w)
          (sym (e.0 ∙ length-set t.views id left))
          (subst (λ (x : View F). ViewFits terms owner rule.holder rule.log (length t.views) x) e.1 right_fits))
          (at_end (set t.views id left) right w j here);
    }

    told : BoardRule rows stands key
        (record {
          words = t.words;
          homes = t.homes;
          views = set t.views id (view.Seat p) ++ view.Note (sheet p) ∷
              [];
        })
    told = cut (view.Seat p) (view.Note (sheet p)) rule.owner own
        (record { terms_are = own.terms_are; seen = own.seen }) (λ j w differ there. rule.each j w there)

    module _ (some_spare : 1 ≤ p.spare) where
      abbrev last : ℕ
      last = p.number + p.spare

      -- the last number goes to the new seat
      abbrev owner_after : ℕ → ℕ
      owner_after n = cond (n == last) (length t.views) (rule.owner n)

      owner_last : (n : ℕ) → n ≡ last → owner_after n ≡ length t.views
      owner_last n is = ap (λ b. cond b (length t.views) (rule.owner n)) (eq-eqb n last is)

      owner_else : (n : ℕ) → n ≢ last → owner_after n ≡ rule.owner n
      owner_else n differ = ap (λ b. cond b (length t.views) (rule.owner n)) (ne_eqb n last differ)

      owns_last : rule.owner last ≡ id
      owns_last = own.owned last (omega arith) (omega arith)

      others_own : (j : ℕ) (w : View F) → j ≢ id → ViewFits terms rule.owner rule.holder rule.log j w
          → ViewFits terms owner_after rule.holder rule.log j w
      others_own j (view.Seat q) differ fits = record {
        terms_are = fits.terms_are;
        numbers = fits.numbers;
        owned = λ n low high. owner_else n
            (λ same. differ (sym (fits.owned n low high) ∙ ap rule.owner same ∙ owns_last)) ∙ fits.owned n low high;
        unused = fits.unused;
        seen = fits.seen;
        olds = fits.olds;
        mine = fits.mine;
        mine_seen = fits.mine_seen;
        taken = fits.taken;
        turn = fits.turn;
      }
      others_own j (view.Note s) differ fits = fits
      others_own j view.Spent differ fits = fits

      parent_fits : PlaceFits terms owner_after rule.holder rule.log id (parent p)
      parent_fits =
          let below = own.numbers in
          record {
            terms_are = own.terms_are;
            numbers = omega arith;
            owned = λ n low high. owner_else n (λ same. omega arith) ∙ own.owned n low (omega arith);
            unused = λ n low high. own.unused n low (omega arith);
            seen = own.seen;
            olds = own.olds;
            mine = own.mine;
            mine_seen = own.mine_seen;
            taken = own.taken;
            turn = own.turn;
          }

      child_fits : PlaceFits terms owner_after rule.holder rule.log (length t.views) (child p)
      child_fits =
          let below = own.numbers in
          let unseen = own.unused last (omega arith) (omega arith) in
          record {
            terms_are = own.terms_are;
            numbers = omega arith;
            owned = λ n low high. owner_last n (omega arith);
            unused = λ n low high. absurd (omega arith);
            seen = own.seen;
            olds = tt;
            mine = unseen.0;
            mine_seen = none_seen last rule.log p.seen own.seen unseen.0;
            taken = unseen.1;
            turn = λ holds. absurd (never (sym holds));
          }

      shared : BoardRule rows stands key
          (record {
            words = t.words;
            homes = t.homes;
            views = set t.views id (view.Seat (parent p)) ++ view.Seat
                (child p) ∷ [];
          })
      shared = cut (view.Seat (parent p)) (view.Seat (child p)) owner_after parent_fits child_fits
          (λ j w differ there. others_own j w differ (rule.each j w there))

    -- the logs of a note and of the seat are beginnings of one
    joined_fits : (s : Sheet F) → SheetFits terms rule.log s
        → PlaceFits terms rule.owner rule.holder rule.log id (joined p s)
    joined_fits s note = record {
      terms_are = own.terms_are;
      numbers = own.numbers;
      owned = own.owned;
      unused = own.unused;
      seen = longer_is (λ l. StartsWith rule.log l) p.seen s.seen own.seen (λ more. note.seen);
      olds = ((own.seen, longer_first p.seen s.seen), ((note.seen, longer_second p.seen s.seen), tt));
      mine = own.mine;
      mine_seen = longer_is (λ l. entries_of p.number l ≡ p.mine) p.seen s.seen own.mine_seen
          (λ more. entries_between p.number rule.log s.seen p.seen note.seen
          (starts_both rule.log s.seen p.seen note.seen own.seen more)
          (own.mine ∙ sym own.mine_seen)
          ∙ own.mine_seen);
      taken = own.taken;
      turn = λ holds. absurd (never (sym holds ∙ idle));
    }

    module _ (other : ℕ) (s : Sheet F) (apart : other ≢ id) (there : IsAt t other (view.Note s)) where
      abbrev views_met : List (View F)
      views_met = set (set t.views id (view.Seat (joined p s))) other view.Spent

      met_each : (j : ℕ) (w : View F) → get_elem? views_met j ≡ some w
          → ViewFits terms rule.owner rule.holder rule.log j w
      met_each j w here = ⊎_elim
          (λ e. subst (λ (x : View F). ViewFits terms rule.owner rule.holder rule.log j x) e.1 tt)
          (λ e. each_set rows stands key t id rule.owner rule.holder rule.log (view.Seat (joined p s))
          (joined_fits s (rule.each other (view.Note s) there))
          (λ k x differ stood. rule.each k x stood) j w e.1)
          (at_set (set t.views id (view.Seat (joined p s))) other j view.Spent w here)

      met : BoardRule rows stands key (record { words = t.words; homes = t.homes; views = views_met })
      met = record {
        words = rule.words;
        slots = rule.slots;
        log = rule.log;
        legal = rule.legal;
        of_callers = rule.of_callers;
        owner = rule.owner;
        holder = rule.holder;
        turn = turn_moved rows stands key t rule.log t.words views_met refl
            (λ i q stood holds.
            set_else (set t.views id (view.Seat (joined p s))) other i view.Spent
            (not_there rows stands key t other (view.Note s) there refl i q stood holds)
            ∙ set_else t.views id i (view.Seat (joined p s))
            (not_there rows stands key t id (view.Seat p) at idle i q stood holds)
            ∙ stood)
            rule.holder rule.turn;
        each = met_each;
      }

  module _ (id : ℕ) (p : Place F) (idle : p.holds ≡ false) where
    pub tell_keeps : Splits (BoardRule rows stands key) id (view.Seat p) (view.Seat p) (view.Note (sheet p))
    tell_keeps t rule at = told t rule id p at idle

    pub share_keeps : 1 ≤ p.spare
        → Splits (BoardRule rows stands key) id (view.Seat p) (view.Seat (parent p)) (view.Seat (child p))
    share_keeps some_spare t rule at = shared t rule id p at idle some_spare

    pub meet_keeps : (other : ℕ) (s : Sheet F)
        → Joins (BoardRule rows stands key) id (view.Seat p) other (view.Note s) (view.Seat (joined p s)) view.Spent
    meet_keeps other s t rule at differ there =
        met t rule id p at idle other s differ (sym (set_else t.views id other (view.Seat (joined p s)) differ) ∙ there)

    look_learns : (t : TurnTable F W) → (rule : BoardRule rows stands key t) → IsAt t id (view.Seat p)
        → Looks {W = W} rows p (view.Seat (looked p), []) []
    look_learns t rule at =
        let fits : PlaceFits terms rule.owner rule.holder rule.log id p = rule.each id (view.Seat p) at in
        let legal : IsLegal (rows key.plan.value) key.room p.seen =
        legal_start (empty (rows key.plan.value) key.room) p.seen fits.seen.0
        (subst (λ (l : List Logged). IsLegal (rows key.plan.value) key.room l) fits.seen.1 rule.legal) in
        record {
          olds = each_map (λ old. StartsWith rule.log old × (length old ≤ length p.seen)) (λ old. StartsWith p.seen old)
              (λ old known. starts_both rule.log p.seen old fits.seen known.0 known.1) p.olds fits.olds;
          legal = subst (λ (x : Terms F). IsLegal (rows x.plan) x.room p.seen) (sym fits.terms_are) legal;
          seat = refl;
        }

    looked_fits : (owner : ℕ → ℕ) (holder : Option ℕ) (log : List Logged) → PlaceFits terms owner holder log id p
        → PlaceFits terms owner holder log id (looked p)
    looked_fits owner holder log fits = record {
      terms_are = fits.terms_are;
      numbers = fits.numbers;
      owned = fits.owned;
      unused = fits.unused;
      seen = fits.seen;
      olds = tt;
      mine = fits.mine;
      mine_seen = fits.mine_seen;
      taken = fits.taken;
      turn = fits.turn;
    }

    pub look_keeps : (slots : ℕ) (st : Step (Slot W))
        → Allows (BoardRule rows stands key) slots id (view.Seat p, []) 0 (λ n. n) (looks rows st (view.Seat p, []))
    look_keeps slots st t rule single at small =
        let n = slice_index t.words 0 in
        let wide = rule.words in (
          view.Seat (looked p),
          keeps,
          tt,
          quiet rows stands key t id p (looked p) rule at idle (set t.words 0 n) (length-set t.words 0 n ∙ wide)
              (get_or-set_same t.words 0 n 0 (omega arith))
              (λ owner holder log legal fits. looked_fits owner holder log fits),
          look_learns t rule at,
        )
