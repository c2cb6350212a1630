-- The text of pieces in front of others is their own text, and then that of the others.
use Rattle.std.proofs.Common.{◌≡◌, ℕ, suc, Bool, true, false, ◌||◌, List, [], ◌∷◌, ◌++◌, refl, sym, ap, ◌∙◌}
use Rattle.std.proofs.Common.{append_assoc}
use Rattle.std.proofs.lemmas.List.{append-nil}
use Rattle.std.specs.Prelude.{ℤ, pos, negsuc, Option, Some, None, codes, decimal, Result, Ok, Err, OnOk}
use Rattle.std.specs.Fmt.{signed_decimal}
use Rattle.gta_spec.specs.declared.parts.ColumnItem.{ColumnItem}
use Rattle.gta_spec.specs.declared.parts.TermPart.{TermPart}
use Rattle.gta_spec.specs.declared.parts.AtomPart.{AtomPart}
use Rattle.gta_spec.specs.declared.parts.AtomPart.TheVariants.{Label, Column}
use Rattle.gta_spec.specs.declared.parts.RankPart.{RankPart}
use Rattle.gta_spec.specs.Parts.{CaseTree, PickTree, Table}
use Rattle.gta_spec.specs.Keep as keeps
use Rattle.gta_spec.specs.Keep.{KeepTree, Place, Whole, Conjunct, Operand, encloses_both, encloses_either}
use Rattle.gta_spec.specs.Symbols.{Word, Later}
use Rattle.gta_canonical.specs.Canonical.{Piece, spaced, glued, piece_text, line_text, fronts, name_front}
use Rattle.gta_canonical.specs.Canonical.{names_front, num_front, header_front, item_front, atom_front, and_front}
use Rattle.gta_canonical.specs.Canonical.{if_front, quantity_front, first_sign_front, first_term_front}
use Rattle.gta_canonical.specs.Canonical.{next_term_front, form_front, case_front, next_case_front, cases_front}
use Rattle.gta_canonical.specs.Canonical.{pick_front, next_pick_front, picks_front, kind_front}
use Rattle.gta_canonical.specs.Canonical.{open_front, close_front, keep_front, rank_front, next_rank_front, best_front}

-- pieces in front of a rest
pub record IsFront (front : List Piece → List Piece) : Type 0 where
  pub splits : (rest : List Piece) → line_text (front rest) ≡ line_text (front []) ++ line_text rest

nothing_front : IsFront (λ rest. rest)
nothing_front = record { splits = λ rest. refl }

one : (piece : Piece) → IsFront (λ rest. piece ∷ rest)
one piece = record { splits = λ rest. ap (λ ts. ts ++ line_text rest) (sym (append-nil (piece_text piece))) }

chain : {f g : List Piece → List Piece} → IsFront f → IsFront g → IsFront (λ rest. f (g rest))
chain {f = f} {g = g} first second = record {
  splits = λ rest. rw (first.splits (g rest), second.splits rest, first.splits (g []))
      (sym (append_assoc (line_text (f [])) (line_text (g [])) (line_text rest)));
}

pub num_text : (z : ℤ) → line_text (num_front z []) ≡ 32 ∷ signed_decimal z
num_text (pos n) = ap (λ ds. 32 ∷ ds) (append-nil (decimal n))
num_text (negsuc n) = ap (λ ds. 32 ∷ 45 ∷ ds) (append-nil (decimal (suc n)))

pub num_is_front : (z : ℤ) → IsFront (num_front z)
num_is_front (pos n) = one _
num_is_front (negsuc n) = chain (one _) (one _)

header_is_front : (h : Option (List ℕ)) → IsFront (header_front h)
header_is_front None = nothing_front
header_is_front (Some t) = chain (one _) (one _)

pub item_is_front : (x : ColumnItem) → IsFront (item_front x)
item_is_front x = chain (one _) (header_is_front x.header)

atom_is_front : (x : AtomPart) → IsFront (atom_front x)
atom_is_front (Label x) = chain (one _) (one _)
atom_is_front (Column x c z) = chain (one _) (chain (one _) (num_is_front z))

pub and_is_front : (x : AtomPart) → IsFront (and_front x)
and_is_front x = chain (one _) (atom_is_front x)

fronts_is_front : {A : Type 0} {front : A → List Piece → List Piece} → ((x : A) → IsFront (front x)) → (xs : List A)
    → IsFront (fronts front xs)
fronts_is_front each [] = nothing_front
fronts_is_front each (x ∷ xs) = chain (each x) (fronts_is_front each xs)

if_is_front : (xs : List AtomPart) → IsFront (if_front xs)
if_is_front [] = nothing_front
if_is_front (x ∷ xs) = chain (one _) (chain (atom_is_front x) (fronts_is_front and_is_front xs))

quantity_is_front : (g : Bool) (n : Option ℕ) (x : Option (List ℕ)) → IsFront (quantity_front g n x)
quantity_is_front g None None = nothing_front
quantity_is_front g None (Some x) = one _
quantity_is_front g (Some n) None = one _
quantity_is_front g (Some n) (Some x) = chain (one _) (chain (one _) (one _))

first_sign_is_front : (m : Bool) → IsFront (first_sign_front m)
first_sign_is_front false = nothing_front
first_sign_is_front true = one _

first_term_is_front : (x : TermPart) → IsFront (first_term_front x)
first_term_is_front x = chain (first_sign_is_front x.minus) (quantity_is_front x.minus x.number x.name)

pub next_term_is_front : (x : TermPart) → IsFront (next_term_front x)
next_term_is_front x = chain (one _) (quantity_is_front false x.number x.name)

form_is_front : (xs : List TermPart) → IsFront (form_front xs)
form_is_front [] = nothing_front
form_is_front (x ∷ xs) = chain (first_term_is_front x) (fronts_is_front next_term_is_front xs)

case_is_front : (x : CaseTree) → IsFront (case_front x)
case_is_front x = chain (form_is_front x.form) (if_is_front x.cond)

pub next_case_is_front : (x : CaseTree) → IsFront (next_case_front x)
next_case_is_front x = chain (one _) (case_is_front x)

cases_is_front : (xs : List CaseTree) → IsFront (cases_front xs)
cases_is_front [] = nothing_front
cases_is_front (x ∷ xs) = chain (case_is_front x) (fronts_is_front next_case_is_front xs)

pick_is_front : (x : PickTree) → IsFront (pick_front x)
pick_is_front x = chain (one _) (if_is_front x.cond)

pub next_pick_is_front : (x : PickTree) → IsFront (next_pick_front x)
next_pick_is_front x = chain (one _) (pick_is_front x)

picks_is_front : (xs : List PickTree) → IsFront (picks_front xs)
picks_is_front [] = nothing_front
picks_is_front (x ∷ xs) = chain (pick_is_front x) (fronts_is_front next_pick_is_front xs)

open_is_front : (enclosed g : Bool) → IsFront (open_front enclosed g)
open_is_front false g = nothing_front
open_is_front true g = one _

close_is_front : (enclosed : Bool) → IsFront (close_front enclosed)
close_is_front false = nothing_front
close_is_front true = one _

keep_is_front : (place : Place) (g : Bool) (x : KeepTree (List ℕ)) → IsFront (keep_front place g x)
keep_is_front place g (keeps.Test x) = one _
keep_is_front place g (keeps.Not x) = chain (one _) (keep_is_front Operand false x)
keep_is_front place g (keeps.Both x y) =
    chain (open_is_front (encloses_both place) g) (chain (keep_is_front Conjunct (encloses_both place || g) x)
    (chain (one _) (chain (keep_is_front Operand false y) (close_is_front (encloses_both place)))))
keep_is_front place g (keeps.Either x y) =
    chain (open_is_front (encloses_either place) g) (chain (keep_is_front Whole (encloses_either place || g) x)
    (chain (one _) (chain (keep_is_front Conjunct false y) (close_is_front (encloses_either place)))))

rank_is_front : (x : RankPart) → IsFront (rank_front x)
rank_is_front x = chain (one _) (one _)

pub next_rank_is_front : (x : RankPart) → IsFront (next_rank_front x)
next_rank_is_front x = chain (one _) (rank_is_front x)

best_is_front : (k : Option ℕ) → IsFront (best_front k)
best_is_front None = nothing_front
best_is_front (Some k) = chain (one _) (one _)

-- in the form that the code's goals have

pub atom_splits : (x : AtomPart) (rest : List Piece)
    → line_text (atom_front x rest) ≡ line_text (atom_front x []) ++ line_text rest
atom_splits x rest = (atom_is_front x).splits rest

pub first_term_splits : (x : TermPart) (rest : List Piece)
    → line_text (first_term_front x rest) ≡ line_text (first_term_front x []) ++ line_text rest
first_term_splits x rest = (first_term_is_front x).splits rest

pub form_splits : (xs : List TermPart) (rest : List Piece)
    → line_text (form_front xs rest) ≡ line_text (form_front xs []) ++ line_text rest
form_splits xs rest = (form_is_front xs).splits rest

pub case_splits : (x : CaseTree) (rest : List Piece)
    → line_text (case_front x rest) ≡ line_text (case_front x []) ++ line_text rest
case_splits x rest = (case_is_front x).splits rest

pub pick_splits : (x : PickTree) (rest : List Piece)
    → line_text (pick_front x rest) ≡ line_text (pick_front x []) ++ line_text rest
pick_splits x rest = (pick_is_front x).splits rest

pub rank_splits : (x : RankPart) (rest : List Piece)
    → line_text (rank_front x rest) ≡ line_text (rank_front x []) ++ line_text rest
rank_splits x rest = (rank_is_front x).splits rest

pub best_splits : (k : Option ℕ) (rest : List Piece)
    → line_text (best_front k rest) ≡ line_text (best_front k []) ++ line_text rest
best_splits k rest = (best_is_front k).splits rest

-- what is written, and the items that are still to be written, is the whole
pub record Written {A : Type 0} (front : A → List Piece → List Piece) (out : List ℕ) (left : List A)
    (whole : List ℕ) : Type 0 where
  pub joined : out ++ line_text (fronts front left []) ≡ whole

pub written_at_item : {A : Type 0} {front : A → List Piece → List Piece} {out now : List ℕ} {x : A} {left : List A}
    {whole : List ℕ}
    → ((x : A) → IsFront (front x)) → Written front out (x ∷ left) whole → now ≡ out ++ line_text (front x [])
    → Written front now left whole
written_at_item {front = front} {out = out} {x = x} {left = left} each written more = record {
  joined = rw (more, append_assoc, ← (each x).splits (fronts front left [])) written.joined;
}

pub written_at_end : {A : Type 0} {front : A → List Piece → List Piece} {out : List ℕ} {whole : List ℕ}
    → Written front out [] whole → out ≡ whole
written_at_end {out = out} written = sym (append-nil out) ∙ written.joined

pub name_is_front : (x : List ℕ) → IsFront (name_front x)
name_is_front x = one _

pub names_splits : (xs : List (List ℕ)) (rest : List Piece)
    → line_text (names_front xs rest) ≡ line_text (names_front xs []) ++ line_text rest
names_splits xs rest = (fronts_is_front name_is_front xs).splits rest

pub table_splits : (x u : List ℕ) (es : List (List ℕ))
    → line_text (kind_front (Table (record { name = x; unit = u; elements = es })) [])
    ≡ (codes "table" ++ line_text (spaced (Word x) ∷ spaced (Word (codes "unit")) ∷ spaced (Word u) ∷ []))
    ++ line_text (spaced (Word (codes "elements")) ∷ names_front es [])
table_splits x u es =
    (chain (one (glued (Word (codes "table"))))
    (chain (one (spaced (Word x))) (chain (one (spaced (Word (codes "unit")))) (one (spaced (Word u)))))).splits
    (spaced (Word (codes "elements")) ∷ names_front es [])

pub picked_splits : (x : List ℕ) (ps : List PickTree) (rest : List Piece)
    → line_text (spaced (Word x) ∷ spaced (Word (codes "by")) ∷ picks_front ps rest)
    ≡ line_text (spaced (Word x) ∷ spaced (Word (codes "by")) ∷ picks_front ps []) ++ line_text rest
picked_splits x ps rest =
    (chain (one (spaced (Word x))) (chain (one (spaced (Word (codes "by")))) (picks_is_front ps))).splits rest

-- the front of a line `automaton`, up to its letters
abbrev pub started_front : List ℕ → List (List ℕ) → List ℕ → List Piece → List Piece
started_front x states start rest =
    glued (Later (codes "automaton")) ∷ spaced (Word x) ∷ spaced (Later (codes "states"))
    ∷ names_front states (spaced (Later (codes "start")) ∷ spaced (Word start) ∷ rest)

pub started_splits : (x : List ℕ) (states : List (List ℕ)) (start : List ℕ) (rest : List Piece)
    → line_text (started_front x states start rest) ≡ line_text (started_front x states start []) ++ line_text rest
started_splits x states start rest =
    (chain (one (glued (Later (codes "automaton")))) (chain (one (spaced (Word x)))
    (chain (one (spaced (Later (codes "states")))) (chain (fronts_is_front name_is_front states)
    (chain (one (spaced (Later (codes "start")))) (one (spaced (Word start)))))))).splits rest

-- two writes, where the second may fail
pub joined : {T E : Type 0} (r : Result T E) (old mid new a b whole : List ℕ) → OnOk r (new ≡ mid ++ b)
    → mid ≡ old ++ a → whole ≡ a ++ b → OnOk r (new ≡ old ++ whole)
joined (Ok x) old mid new a b whole last first parts = rw (last, first, parts) (append_assoc old a b)
joined (Err e) old mid new a b whole last first parts = last

-- two expressions with a word between them, in parentheses or not

-- five writes, the last of which may fail
five_joined : {T E : Type 0} (r : Result T E) (old m1 m2 m3 m4 new a b c d e whole : List ℕ) → OnOk r (new ≡ m4 ++ e)
    → m1 ≡ old ++ a → m2 ≡ m1 ++ b → m3 ≡ m2 ++ c → m4 ≡ m3 ++ d → whole ≡ a ++ (b ++ (c ++ (d ++ e)))
    → OnOk r (new ≡ old ++ whole)
five_joined (Ok x) old m1 m2 m3 m4 new a b c d e whole last first second third fourth parts =
    rw (last, fourth, third, second, first, parts) (simp append_assoc)
five_joined (Err fault) old m1 m2 m3 m4 new a b c d e whole last first second third fourth parts = last

between : {begin left right : List Piece → List Piece} → IsFront begin → IsFront left → IsFront right
    → (mark : Piece) (close : List Piece) → line_text (begin (left (mark ∷ right close)))
    ≡ line_text (begin []) ++ (line_text (left []) ++ (piece_text mark ++ (line_text (right []) ++ line_text close)))
between {begin = begin} {left = left} {right = right} begins lefts rights mark close =
    begins.splits (left (mark ∷ right close))
    ∙ ap (λ (ts : List ℕ). line_text (begin []) ++ ts) (lefts.splits (mark ∷ right close)
    ∙ ap (λ (ts : List ℕ). line_text (left []) ++ (piece_text mark ++ ts)) (rights.splits close))

pub both_written : {T E : Type 0} (r : Result T E) (place : Place) (g enclosed : Bool) (x y : KeepTree (List ℕ))
    (old m1 m2 m3 m4 new : List ℕ) → enclosed ≡ encloses_both place → m1 ≡ old ++ line_text (open_front enclosed g [])
    → m2 ≡ m1 ++ line_text (keep_front Conjunct (enclosed || g) x []) → m3 ≡ m2 ++ 32 ∷ codes "and"
    → m4 ≡ m3 ++ line_text (keep_front Operand false y [])
    → OnOk r (new ≡ m4 ++ line_text (close_front enclosed []))
    → OnOk r (new ≡ old ++ line_text (keep_front place g (keeps.Both x y) []))
both_written r place g enclosed x y old m1 m2 m3 m4 new is first second third fourth last =
    rw (← is) (five_joined r old m1 m2 m3 m4 new _ _ _ _ _ _ last first second third fourth
    (between (open_is_front enclosed g) (keep_is_front Conjunct (enclosed || g) x) (keep_is_front Operand false y)
    (spaced (Word (codes "and"))) (close_front enclosed [])))

pub either_written : {T E : Type 0} (r : Result T E) (place : Place) (g enclosed : Bool) (x y : KeepTree (List ℕ))
    (old m1 m2 m3 m4 new : List ℕ) → enclosed ≡ encloses_either place → m1 ≡ old ++ line_text (open_front enclosed g [])
    → m2 ≡ m1 ++ line_text (keep_front Whole (enclosed || g) x []) → m3 ≡ m2 ++ 32 ∷ codes "or"
    → m4 ≡ m3 ++ line_text (keep_front Conjunct false y [])
    → OnOk r (new ≡ m4 ++ line_text (close_front enclosed []))
    → OnOk r (new ≡ old ++ line_text (keep_front place g (keeps.Either x y) []))
either_written r place g enclosed x y old m1 m2 m3 m4 new is first second third fourth last =
    rw (← is) (five_joined r old m1 m2 m3 m4 new _ _ _ _ _ _ last first second third fourth
    (between (open_is_front enclosed g) (keep_is_front Whole (enclosed || g) x) (keep_is_front Conjunct false y)
    (spaced (Later (codes "or"))) (close_front enclosed [])))
