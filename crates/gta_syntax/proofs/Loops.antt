-- Reading items one after the other, as a loop does.
use Rattle.std.proofs.Common.{◌≡◌, ℕ, suc, Bool, true, false, List, [], ◌∷◌, ◌++◌, refl, sym, ap, ◌∙◌, append_assoc}
use Rattle.std.proofs.lemmas.List.{append-nil}
use Rattle.std.specs.Prelude.{Option, Some, None}
use Rattle.gta_syntax.specs.declared.fault.LineFault.{LineFault}
use Rattle.gta_syntax.specs.declared.fault.LineFault.TheVariants as faults
use Rattle.gta_spec.specs.Symbols.{Symbol}
use Rattle.gta_syntax.specs.Rules.{◌>>=◌, Fails, many}

-- what was read before, and what is still read
abbrev pub with_front : {A : Type 0} → List A → Option (List A × List Symbol) → Option (List A × List Symbol)
with_front front read = read >>= λ x. Some (front ++ x.0, x.1)

-- the items read so far, and those that are still read, are the whole
pub record SoFar {A : Type 0} (begins : List Symbol → Bool) (read : List Symbol → Option (A × List Symbol)) (n : ℕ)
    (front : List A) (ts : List Symbol) (whole : Option (List A × List Symbol)) : Type 0 where
  pub joined : with_front front (many begins read n ts) ≡ whole

regroup : {A : Type 0} (front : List A) (x : A) (read : Option (List A × List Symbol))
    → with_front front (read >>= λ xs. Some (x ∷ xs.0, xs.1)) ≡ with_front (front ++ x ∷ []) read
regroup {A = A} front x (Some xs) = ap (λ (ys : List A). Some (ys, xs.1)) (simp append_assoc)
regroup front x None = refl

no_front : {A : Type 0} (read : Option (List A × List Symbol)) → with_front [] read ≡ read
no_front (Some xs) = refl
no_front None = refl

module _ {A : Type 0} {begins : List Symbol → Bool} {read : List Symbol → Option (A × List Symbol)} where
  pub at_start : (n : ℕ) (ts : List Symbol) → SoFar begins read n [] ts (many begins read n ts)
  at_start n ts = record { joined = no_front (many begins read n ts) }

  pub at_done : {n : ℕ} {front : List A} {ts : List Symbol} {whole : Option (List A × List Symbol)}
      → SoFar begins read n front ts whole → n ≡ 0 → whole ≡ Some (front, ts)
  unfolding many
  at_done {n = n} {front = front} {ts = ts} so_far none =
      let one : with_front front (many begins read n ts) ≡ Some (front, ts) = rw (none, append-nil front) refl in
      sym so_far.joined ∙ one

  pub at_stop : {n : ℕ} {front : List A} {ts : List Symbol} {whole : Option (List A × List Symbol)}
      → SoFar begins read n front ts whole → begins ts ≡ false → (m : ℕ) → n ≡ suc m → whole ≡ Some (front, ts)
  unfolding many
  at_stop {n = n} {front = front} {ts = ts} so_far off m more =
      let one : with_front front (many begins read n ts) ≡ Some (front, ts) = rw (more, off, append-nil front) refl in
      sym so_far.joined ∙ one

  pub at_item : {n : ℕ} {front : List A} {ts : List Symbol} {whole : Option (List A × List Symbol)}
      → SoFar begins read n front ts whole → begins ts ≡ true → (m : ℕ) → n ≡ suc m → (x : A) (after : List Symbol)
      → read ts ≡ Some (x, after)
      → SoFar begins read m (front ++ x ∷ []) after whole
  unfolding many
  at_item {n = n} {front = front} {ts = ts} so_far on m more x after item =
      let one : with_front front (many begins read n ts) ≡ with_front (front ++ x ∷ []) (many begins read m after) =
      rw (more, on, item) (regroup front x (many begins read m after)) in
      record { joined = sym one ∙ so_far.joined }

  pub at_fault : {n : ℕ} {front : List A} {ts : List Symbol} {whole : Option (List A × List Symbol)}
      → SoFar begins read n front ts whole → begins ts ≡ true → (m : ℕ) → n ≡ suc m → (fault : LineFault)
      → Fails fault (read ts)
      → Fails fault whole
  unfolding many
  at_fault so_far on m more faults.Memory fails = tt
  at_fault {n = n} {front = front} {ts = ts} so_far on m more faults.Grammar fails =
      let one : with_front front (many begins read n ts) ≡ None = rw (more, on, fails) refl in
      sym so_far.joined ∙ one

-- what is grouped so far, with what is still read
abbrev pub grouped_with : {A : Type 0} → (A → List A → A) → A → Option (List A × List Symbol) → Option (A × List Symbol)
grouped_with group x read = read >>= λ xs. Some (group x xs.0, xs.1)

-- what is grouped so far, and the items that are still read, are the whole
pub record GroupedSoFar {A : Type 0} (group : A → List A → A) (begins : List Symbol → Bool)
    (read : List Symbol → Option (A × List Symbol)) (n : ℕ) (x : A) (ts : List Symbol)
    (whole : Option (A × List Symbol)) : Type 0 where
  pub joined : grouped_with group x (many begins read n ts) ≡ whole

-- grouping to the left
pub record IsGrouping {A : Type 0} (group : A → List A → A) (join : A → A → A) : Type 0 where
  pub alone : (x : A) → group x [] ≡ x
  pub next : (x y : A) (ys : List A) → group x (y ∷ ys) ≡ group (join x y) ys

grouped_next : {A : Type 0} {group : A → List A → A} {join : A → A → A} → IsGrouping group join → (x y : A)
    → (others : Option (List A × List Symbol))
    → grouped_with group x (others >>= λ ys. Some (y ∷ ys.0, ys.1)) ≡ grouped_with group (join x y) others
grouped_next grouping x y (Some ys) = rw (grouping.next x y ys.0) refl
grouped_next grouping x y None = refl

module _ {A : Type 0} {group : A → List A → A} {join : A → A → A} (grouping : IsGrouping group join)
    {begins : List Symbol → Bool} {read : List Symbol → Option (A × List Symbol)} where
  pub grouped_done : {n : ℕ} {x : A} {ts : List Symbol} {whole : Option (A × List Symbol)}
      → GroupedSoFar group begins read n x ts whole → n ≡ 0 → whole ≡ Some (x, ts)
  unfolding many
  grouped_done {n = n} {x = x} {ts = ts} so_far none =
      let one : grouped_with group x (many begins read n ts) ≡ Some (x, ts) = rw (none, grouping.alone x) refl in
      sym so_far.joined ∙ one

  pub grouped_stop : {n : ℕ} {x : A} {ts : List Symbol} {whole : Option (A × List Symbol)}
      → GroupedSoFar group begins read n x ts whole → begins ts ≡ false → (m : ℕ) → n ≡ suc m
      → whole ≡ Some (x, ts)
  unfolding many
  grouped_stop {n = n} {x = x} {ts = ts} so_far off m more =
      let one : grouped_with group x (many begins read n ts) ≡ Some (x, ts) = rw (more, off, grouping.alone x) refl in
      sym so_far.joined ∙ one

  pub grouped_item : {n : ℕ} {x : A} {ts : List Symbol} {whole : Option (A × List Symbol)}
      → GroupedSoFar group begins read n x ts whole → begins ts ≡ true → (m : ℕ) → n ≡ suc m → (y : A)
      → (after : List Symbol) → read ts ≡ Some (y, after) → GroupedSoFar group begins read m (join x y) after whole
  unfolding many
  grouped_item {n = n} {x = x} {ts = ts} so_far on m more y after item =
      let one : grouped_with group x (many begins read n ts)
      ≡ grouped_with group (join x y) (many begins read m after) =
      rw (more, on, item) (grouped_next grouping x y (many begins read m after)) in
      record { joined = sym one ∙ so_far.joined }

  pub grouped_fault : {n : ℕ} {x : A} {ts : List Symbol} {whole : Option (A × List Symbol)}
      → GroupedSoFar group begins read n x ts whole → begins ts ≡ true → (m : ℕ) → n ≡ suc m
      → (fault : LineFault) → Fails fault (read ts) → Fails fault whole
  unfolding many
  grouped_fault so_far on m more faults.Memory fails = tt
  grouped_fault {n = n} {x = x} {ts = ts} so_far on m more faults.Grammar fails =
      let one : grouped_with group x (many begins read n ts) ≡ None = rw (more, on, fails) refl in
      sym so_far.joined ∙ one
