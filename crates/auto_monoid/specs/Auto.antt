-- Deterministic automata, and the state that a word of letters reaches.
use Rattle.std.specs.Prelude.{◌≡◌, ℕ, ◌+◌, ◌*◌, ◌<◌, ◌≤◌, List, All, length, slice_index_or}
use Rattle.std.specs.List.{fold}
use Rattle.auto_monoid.specs.declared.auto.TheConstants.{STATE_LIMIT, LETTER_LIMIT}

pub record PlainAuto : Type 0 where
  pub states : ℕ
  pub start : ℕ
  pub letters : ℕ
  pub moves : List ℕ

-- there are 1 to 16 states and letters, and a move by each letter from each state; the start and each move are states
pub record IsAuto (a : PlainAuto) : Type 0 where
  pub some_states : 1 ≤ a.states
  pub few_states : a.states ≤ STATE_LIMIT
  pub some_letters : 1 ≤ a.letters
  pub few_letters : a.letters ≤ LETTER_LIMIT
  pub whole : length a.moves ≡ a.letters * a.states
  pub start_is_state : a.start < a.states
  pub moves_are_states : All (λ state. state < a.states) a.moves

-- the state to which a letter leads
abbrev pub move : PlainAuto → ℕ → ℕ → ℕ
move a letter state = slice_index_or a.moves (letter * a.states + state) 0

-- a list of the automaton's letters
abbrev pub IsWord : PlainAuto → List ℕ → Type 0
IsWord a word = All (λ letter. letter < a.letters) word

-- the state that the letters of the word, in their order, reach from a state
abbrev pub state_after_word : PlainAuto → ℕ → List ℕ → ℕ
state_after_word a state word = fold (λ state letter. move a letter state) state word
