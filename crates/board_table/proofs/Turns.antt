-- Each step on the turn keeps the Board rule: a try that wins or misses, and the step that gives the turn up.
use Rattle.std.proofs.Common.{◌≡◌, ◌≢◌, ℕ, ◌+◌, ◌<◌, ◌≤◌, ◌==◌, inl, inr, ⊎_elim, Bool, true, false, List, [], ◌∷◌}
use Rattle.std.proofs.Common.{length, slice_index, set, ap, sym, refl, subst, ◌∙◌, length-set, get_or-set_same, arith}
use Rattle.std.specs.Prelude.{Option, Some, None}
use mathlib.Core.Option.{some, none, some-injective}
use lib.ListN.{get_elem?}
use prog.Atomic.{either}
use Rattle.atomic_table.specs.Table.{Act, keeps, takes, gives, Step, Allows, Valid, stepped, carried_after}
use Rattle.atomic_table.proofs.Lists.{at_set, set_here, set_else}
use Rattle.board_core.specs.declared.event.Logged.{Logged}
use Rattle.board_core.specs.Ordered.{Each}
use Rattle.board_core.specs.Board.{PlainBoard}
use Rattle.board_core.specs.Replay.{IsLegal, entries_of, claims_of}
use Rattle.board_core.proofs.OrderedLemmas.{each_map}
use Rattle.board_table.specs.declared.view.Terms.{Terms}
use Rattle.board_table.specs.declared.view.Place.{Place}
use Rattle.board_table.specs.declared.view.View.{View}
use Rattle.board_table.specs.declared.view.View.TheVariants as view
use Rattle.board_table.specs.declared.table.Opening.{Opening}
use Rattle.board_table.specs.Views.{StartsWith, winner, loser, done}
use Rattle.board_table.specs.Rule.{Slot, TurnTable, terms_of, IsAt, PlaceFits, ViewFits, IsBoardFor, IsFree, IsHeld}
use Rattle.board_table.specs.Rule.{TurnIs, BoardRule}
use Rattle.board_table.specs.Steps.{Finds, tries, frees}
use Rattle.board_table.specs.Changes.{Grows}
use Rattle.board_table.proofs.Beginnings.{at_below, starts_refl, starts_from, starts_trans, starts_length}
use Rattle.board_table.proofs.Beginnings.{grows_starts, grows_entries, grows_claims, grows_of_callers}

abbrev place_in : Option ℕ → ℕ
place_in None = 0
place_in (Some i) = i

pub one_holder : (holder : Option ℕ) (i j : ℕ) → holder ≡ Some i → holder ≡ Some j → i ≡ j
one_holder holder i j one two = ap place_in (sym one ∙ two)

no_holder : (i : ℕ) → None ≡ Some i → ⊥
no_holder i same = let clash : None ≡ Some i = same in cc

pub never : true ≡ false → ⊥
never same = let clash : true ≡ false = same in cc

each_longer : (log : List Logged) (low high : ℕ) (olds : List (List Logged)) → low ≤ high
    → Each (λ old. StartsWith log old × (length old ≤ low)) olds
    → Each (λ old. StartsWith log old × (length old ≤ high)) olds
each_longer log low high olds more all =
    each_map (λ old. StartsWith log old × (length old ≤ low)) (λ old. StartsWith log old × (length old ≤ high))
    (λ old fits. (fits.0, (let short = fits.1 in omega arith))) olds all

each_later : (log before : List Logged) (low high : ℕ) (olds : List (List Logged)) → StartsWith log before → low ≤ high
    → Each (λ old. StartsWith before old × (length old ≤ low)) olds
    → Each (λ old. StartsWith log old × (length old ≤ high)) olds
each_later log before low high olds later more all =
    each_map (λ old. StartsWith before old × (length old ≤ low)) (λ old. StartsWith log old × (length old ≤ high))
    (λ old fits. (starts_trans log before old later fits.0, (let short = fits.1 in omega arith))) olds all

module _ {F : Type 0} where
  abbrev pub holds_of : View F → Bool
  holds_of (view.Seat p) = p.holds
  holds_of (view.Note s) = false
  holds_of view.Spent = false

  -- the seat fits as it did, after a change of what the rule doesn't look at
  pub refits : (terms : Terms F) (owner : ℕ → ℕ) (holder : Option ℕ) (log : List Logged) (i : ℕ) (p : Place F)
      → PlaceFits terms owner holder log i p → PlaceFits terms owner holder log i (loser p)
  refits terms owner holder log i p fits = record {
    terms_are = fits.terms_are;
    numbers = fits.numbers;
    owned = fits.owned;
    unused = fits.unused;
    seen = fits.seen;
    olds = fits.olds;
    mine = fits.mine;
    mine_seen = fits.mine_seen;
    taken = fits.taken;
    turn = fits.turn;
  }

  module _ {W : Type 0} (rows : F → ℕ) (stands : F → ℕ → ℕ → W → Type 0) (key : Opening F) where
    abbrev terms : Terms F
    terms = terms_of key

    -- the seats that hold the turn stay where they are, and so does the turn
    pub turn_moved : (t : TurnTable F W) (log : List Logged) (words : List ℕ) (views : List (View F))
        → slice_index words 0 ≡ slice_index t.words 0
        → ((i : ℕ) (q : Place F) → IsAt t i (view.Seat q) → q.holds ≡ true → get_elem? views i ≡ some (view.Seat q))
        → (holder : Option ℕ) → TurnIs rows stands terms log t holder
        → TurnIs rows stands terms log (record { words = words; homes = t.homes; views = views }) holder
    turn_moved t log words views same stay None turn = record {
      word = same ∙ turn.word;
      board = turn.board;
      home = turn.home;
      of_terms = turn.of_terms;
      log_is = turn.log_is;
    }
    turn_moved t log words views same stay (Some i) turn = record {
      word = same ∙ turn.word;
      out = turn.out;
      place = turn.place;
      seat = stay i turn.place turn.seat turn.holds;
      holds = turn.holds;
    }

    module _ (t : TurnTable F W) (id : ℕ) where
      -- a seat that holds the turn is not where a view stands that doesn't
      pub not_there : (v : View F) → IsAt t id v → holds_of v ≡ false → (i : ℕ) (q : Place F)
          → IsAt t i (view.Seat q) → q.holds ≡ true → i ≢ id
      not_there v at idle i q there holds same =
          let here : get_elem? t.views id ≡ some (view.Seat q) = subst
          (λ (k : ℕ). get_elem? t.views k ≡ some (view.Seat q)) same there in
          never (sym holds ∙ ap holds_of (some-injective (view.Seat q) v (sym here ∙ at)) ∙ idle)

      pub each_set : (owner : ℕ → ℕ) (holder : Option ℕ) (log : List Logged) (v : View F)
          → ViewFits terms owner holder log id v
          → ((j : ℕ) (w : View F) → j ≢ id → IsAt t j w → ViewFits terms owner holder log j w)
          → (j : ℕ) (w : View F) → get_elem? (set t.views id v) j ≡ some w → ViewFits terms owner holder log j w
      each_set owner holder log v new others j w here = ⊎_elim
          (λ e. subst (λ (k : ℕ). ViewFits terms owner holder log k w) (sym e.0)
          (subst (λ (x : View F). ViewFits terms owner holder log id x) e.1 new))
          (λ e. others j w e.0 e.1)
          (at_set t.views id j v w here)

      -- a seat without the turn changes what it knows
      pub quiet : (p q : Place F) → BoardRule rows stands key t → IsAt t id (view.Seat p) → p.holds ≡ false
          → (words : List ℕ) → length words ≡ 1
          → slice_index words 0 ≡ slice_index t.words 0
          → ((owner : ℕ → ℕ) (holder : Option ℕ) (log : List Logged) → IsLegal (rows key.plan.value) key.room log
          → PlaceFits terms owner holder log id p → PlaceFits terms owner holder log id q)
          → BoardRule rows stands key (record { words = words; homes = t.homes; views = set t.views id (view.Seat q) })
      quiet p q rule at idle words wide same new = record {
        words = wide;
        slots = rule.slots;
        log = rule.log;
        legal = rule.legal;
        of_callers = rule.of_callers;
        owner = rule.owner;
        holder = rule.holder;
        turn = turn_moved t rule.log words (set t.views id (view.Seat q)) same
            (λ i r there holds. set_else t.views id i (view.Seat q) (not_there (view.Seat p) at idle i r there holds)
            ∙ there)
            rule.holder rule.turn;
        each = each_set rule.owner rule.holder rule.log (view.Seat q)
            (new rule.owner rule.holder rule.log rule.legal (rule.each id (view.Seat p) at))
            (λ j w differ there. rule.each j w there);
      }

    -- nobody had the turn, so that all but the winner fit as before
    unheld : (owner : ℕ → ℕ) (log : List Logged) (id j : ℕ) (w : View F) → ViewFits terms owner None log j w
        → ViewFits terms owner (Some id) log j w
    unheld owner log id j (view.Seat q) fits = record {
      terms_are = fits.terms_are;
      numbers = fits.numbers;
      owned = fits.owned;
      unused = fits.unused;
      seen = fits.seen;
      olds = fits.olds;
      mine = fits.mine;
      mine_seen = fits.mine_seen;
      taken = fits.taken;
      turn = λ holds. absurd (no_holder j (fits.turn holds).0);
    }
    unheld owner log id j (view.Note s) fits = fits
    unheld owner log id j view.Spent fits = fits

    won_fits : (owner : ℕ → ℕ) (log : List Logged) (id : ℕ) (p : Place F) (seen : List Logged) → seen ≡ log
        → PlaceFits terms owner None log id p
        → PlaceFits terms owner (Some id) log id (winner p seen)
    won_fits owner log id p seen same fits = record {
      terms_are = fits.terms_are;
      numbers = fits.numbers;
      owned = fits.owned;
      unused = fits.unused;
      seen = starts_from log seen same;
      olds =
          (let short = starts_length log p.seen fits.seen in
          let long : length seen ≡ length log = ap (λ (l : List Logged). length l) same in
          each_longer log (length p.seen) (length seen) p.olds (omega arith) fits.olds);
      mine = fits.mine;
      mine_seen = ap (entries_of p.number) same ∙ fits.mine;
      taken = fits.taken;
      turn = λ holds. (refl, same);
    }

    module _ (id : ℕ) (p : Place F) (idle : p.holds ≡ false) where
      abbrev Goal : TurnTable F W → Step (Slot W) → Type 0
      Goal t st = (w : View F) × (a : Act (Slot W)) × Valid t.homes [] a
          × BoardRule rows stands key
          (stepped t 0 (either (slice_index t.words 0 == 0) 1 (slice_index t.words 0)) id [] w a)
          × tries rows stands st (view.Seat p, []) (slice_index t.words 0) (w, carried_after [] a)

      found : (t : TurnTable F W) (log : List Logged) (owner : ℕ → ℕ) → PlaceFits terms owner None log id p
          → (free : IsFree rows stands terms log t)
          → Finds rows stands p free.board
      found t log owner fits free = record {
        of_terms = subst (λ (x : Terms F). IsBoardFor rows stands x.plan x.room free.board) (sym fits.terms_are)
            free.of_terms;
        later = subst (λ (l : List Logged). StartsWith l p.seen) (sym free.log_is) fits.seen;
        mine = ap (entries_of p.number) free.log_is ∙ fits.mine;
        taken = ap (claims_of p.number) free.log_is ∙ fits.taken;
      }

      try_wins : (t : TurnTable F W) (st : Step (Slot W)) (log : List Logged) (owner : ℕ → ℕ) → length t.words ≡ 1
          → length t.homes ≡ 1
          → IsLegal (rows key.plan.value) key.room log → Each (λ e. e.who < key.callers) log
          → IsFree rows stands terms log t
          → ((j : ℕ) (w : View F) → IsAt t j w → ViewFits terms owner None log j w) → IsAt t id (view.Seat p)
          → Goal t st
      try_wins t st log owner wide single legal of_callers free each at =
          let n = slice_index t.words 0 in
          let now = winner p free.board.log in
          let becomes : either (n == 0) 1 n ≡ 1 = ap (λ (m : ℕ). either (m == 0) 1 m) free.word in
          let fits : PlaceFits terms owner None log id p = each id (view.Seat p) at in (
            view.Seat now,
            takes 0 (Some free.board),
            free.home,
            record {
              words = length-set t.words 0 (either (n == 0) 1 n) ∙ wide;
              slots = length-set t.homes 0 none ∙ single;
              log = log;
              legal = legal;
              of_callers = of_callers;
              owner = owner;
              holder = Some id;
              turn = record {
                word = get_or-set_same t.words 0 (either (n == 0) 1 n) 0 (omega arith) ∙ becomes;
                out = set_here t.homes 0 none (omega arith);
                place = now;
                seat = set_here t.views id (view.Seat now) (at_below t.views id (view.Seat p) at);
                holds = refl;
              };
              each = each_set t id owner (Some id) log (view.Seat now)
                  (won_fits owner log id p free.board.log free.log_is fits)
                  (λ j w differ there. unheld owner log id j w (each j w there));
            },
            inl (free.word, record { board = free.board; finds = found t log owner fits free; seat = refl }),
          )

      try_misses : (t : TurnTable F W) (st : Step (Slot W)) (i : ℕ) → IsHeld rows stands t i
          → BoardRule rows stands key t → IsAt t id (view.Seat p) → Goal t st
      try_misses t st i held rule at =
          let n = slice_index t.words 0 in
          let wide = rule.words in
          let becomes : either (n == 0) 1 n ≡ n = ap (λ (m : ℕ). either (m == 0) 1 m) held.word ∙ sym held.word in (
            view.Seat (loser p),
            keeps,
            tt,
            quiet t id p (loser p) rule at idle (set t.words 0 (either (n == 0) 1 n))
                (length-set t.words 0 (either (n == 0) 1 n) ∙ wide)
                (get_or-set_same t.words 0 (either (n == 0) 1 n) 0 (omega arith) ∙ becomes)
                (λ owner holder log legal fits. refits terms owner holder log id p fits),
            inr (held.word, refl),
          )

      try_either : (t : TurnTable F W) (st : Step (Slot W)) → (rule : BoardRule rows stands key t)
          → IsAt t id (view.Seat p) → (holder : Option ℕ)
          → TurnIs rows stands terms rule.log t holder
          → ((j : ℕ) (w : View F) → IsAt t j w → ViewFits terms rule.owner holder rule.log j w) → Goal t st
      try_either t st rule at None turn each = try_wins t st rule.log rule.owner rule.words rule.slots rule.legal
          rule.of_callers turn each at
      try_either t st rule at (Some i) turn each = try_misses t st i turn rule at

      pub try_keeps : (slots : ℕ) (st : Step (Slot W))
          → Allows (BoardRule rows stands key) slots id (view.Seat p, []) 0 (λ n. either (n == 0) 1 n)
          (tries rows stands st (view.Seat p, []))
      try_keeps slots st t rule single at small = try_either t st rule at rule.holder rule.turn rule.each

    -- other seats fit when a seat brings home a board with at most one entry of its own number more
    grown_fits : (owner : ℕ → ℕ) (holder : Option ℕ) (before log : List Logged) (who id j : ℕ) (w : View F)
        → holder ≡ Some id → owner who ≡ id → j ≢ id
        → Grows who before log → ViewFits terms owner holder before j w → ViewFits terms owner None log j w
    grown_fits owner holder before log who id j (view.Seat q) holds owns differ grows fits =
        let apart : (n : ℕ) → q.number ≤ n → n ≤ q.number + q.spare → n ≢ who =
        λ n low high same. differ (sym (fits.owned n low high) ∙ ap owner same ∙ owns) in
        let first : q.number ≢ who = apart q.number (omega arith) (omega arith) in
        let later = grows_starts who before log grows in
        record {
          terms_are = fits.terms_are;
          numbers = fits.numbers;
          owned = fits.owned;
          unused = λ n low high. (
            grows_entries who before log grows n (apart n (omega arith) high) ∙ (fits.unused n low high).0,
            grows_claims who before log grows n (apart n (omega arith) high) ∙ (fits.unused n low high).1,
          );
          seen = starts_trans log before q.seen later fits.seen;
          olds = each_later log before (length q.seen) (length q.seen) q.olds later (omega arith) fits.olds;
          mine = grows_entries who before log grows q.number first ∙ fits.mine;
          mine_seen = fits.mine_seen;
          taken = grows_claims who before log grows q.number first ∙ fits.taken;
          turn = λ held. absurd (differ (one_holder holder j id (fits.turn held).0 holds));
        }
    grown_fits owner holder before log who id j (view.Note s) holds owns differ grows fits = record {
      terms_are = fits.terms_are;
      seen = starts_trans log before s.seen (grows_starts who before log grows) fits.seen;
    }
    grown_fits owner holder before log who id j view.Spent holds owns differ grows fits = tt

    done_fits : (owner : ℕ → ℕ) (holder : Option ℕ) (before log : List Logged) (id : ℕ) (p : Place F)
        → Grows p.number before log
        → PlaceFits terms owner holder before id p → PlaceFits terms owner None log id (done p log)
    done_fits owner holder before log id p grows fits =
        let later = grows_starts p.number before log grows in
        let short = starts_length before p.seen fits.seen in
        let more = starts_length log before later in
        record {
          terms_are = fits.terms_are;
          numbers = fits.numbers;
          owned = fits.owned;
          unused = λ n low high. (
            grows_entries p.number before log grows n (λ same. omega arith) ∙ (fits.unused n low high).0,
            grows_claims p.number before log grows n (λ same. omega arith) ∙ (fits.unused n low high).1,
          );
          seen = starts_refl log;
          olds = each_later log before (length p.seen) (length log) p.olds later (omega arith) fits.olds;
          mine = refl;
          mine_seen = refl;
          taken = refl;
          turn = λ held. absurd (never (sym held));
        }

    pub free_keeps : (id : ℕ) (p : Place F) (b : PlainBoard W) (slots : ℕ) (st : Step (Slot W)) → p.holds ≡ true
        → IsBoardFor rows stands p.terms.plan p.terms.room b
        → Grows p.number p.seen b.log
        → Allows (BoardRule rows stands key) slots id (view.Seat p, (0, Some b) ∷ []) 0 (λ n. 0)
        (frees st (view.Seat p, (0, Some b) ∷ []))
    free_keeps id p b slots st holds of_place grows t rule single at small =
        let fits : PlaceFits terms rule.owner rule.holder rule.log id p = rule.each id (view.Seat p) at in
        let wide = rule.words in
        let one = rule.slots in
        let turn = fits.turn holds in
        let of_terms : IsBoardFor rows stands key.plan.value key.room b =
        subst (λ (x : Terms F). IsBoardFor rows stands x.plan x.room b) fits.terms_are of_place in
        let grown : Grows p.number rule.log b.log = subst (λ (l : List Logged). Grows p.number l b.log) turn.1 grows in
        let owns : rule.owner p.number ≡ id = fits.owned p.number (omega arith) (omega arith) in (
          view.Seat (done p b.log),
          gives,
          tt,
          record {
            words = length-set t.words 0 0 ∙ wide;
            slots = length-set t.homes 0 (some (Some b)) ∙ one;
            log = b.log;
            legal = subst (λ (r : ℕ). IsLegal r key.room b.log) of_terms.rows_are
                (subst (λ (m : ℕ). IsLegal b.rows m b.log) of_terms.room_is of_terms.sound.sound.legal);
            of_callers = grows_of_callers p.number key.callers rule.log b.log grown
                (let numbers : p.number + p.spare < key.callers = fits.numbers in omega arith) rule.of_callers;
            owner = rule.owner;
            holder = None;
            turn = record {
              word = get_or-set_same t.words 0 0 0 (omega arith);
              board = b;
              home = set_here t.homes 0 (some (Some b)) (omega arith);
              of_terms = of_terms;
              log_is = refl;
            };
            each = each_set t id rule.owner None b.log (view.Seat (done p b.log))
                (done_fits rule.owner rule.holder rule.log b.log id p grown fits)
                (λ j w differ there. grown_fits rule.owner rule.holder rule.log b.log p.number id j w turn.0 owns
                differ grown (rule.each j w there));
          },
          refl,
        )
