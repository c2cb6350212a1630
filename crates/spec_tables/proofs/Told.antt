-- Which fault of the tables is told.
use Rattle.std.proofs.Common.{◌≡◌, ℕ, List, [], ◌∷◌, ◌++◌, length, Option, Some, None, Result, Bool, true, false}
use Rattle.std.proofs.Common.{refl, sym, ap, ◌∙◌}
use Rattle.std.specs.Option.{option_or}
use Rattle.std.specs.List.{filter_map, find}
use Rattle.std.proofs.lemmas.List.Folds.{find-append}
use Rattle.std.proofs.lemmas.List.{append-nil}
use Rattle.std.proofs.lemmas.List.Elements.{filter_map-append}
use Rattle.std.proofs.lemmas.Option.{none-some, same_Some}
use Rattle.outcome_kit.specs.Outcome.{unless, Carries}
use Rattle.monoid_kit.specs.Table.{PlainTable}
use Rattle.gta_spec.specs.Parts.{TableTree}
use Rattle.spec_tables.specs.declared.fault.TablesFault.{TablesFault}
use Rattle.spec_tables.specs.declared.fault.TablesFault.TheVariants.{UnitFails, NotAssociative, NotSquare, Memory}
use Rattle.spec_tables.specs.Tables.{number_of}
use Rattle.spec_tables.specs.Faults.{fault_in, first_told, is_of_unit, is_of_triple}
use Rattle.spec_tables.specs.Checked.{earlier, rank, square_of}

pub square_same : (table : TableTree) (cells : List ℕ) (size unit : ℕ) → size ≡ length table.elements
    → unit ≡ number_of table.elements table.unit
    → (let made : PlainTable = record { size = size; unit = unit; cells = cells } in made ≡ square_of table cells)
square_same table cells size unit is_size is_unit = rw (is_size, is_unit) refl

-- the fault that is told ends all
pub told-ends : {T : Type 0} (told : Option TablesFault) (next : Result T TablesFault) (fault : TablesFault)
    → told ≡ Some fault → Carries (unless told next) (fault_in fault)
told-ends told next (UnitFails table element left) is = ap (λ (o : Option TablesFault). unless o next) is
told-ends told next (NotAssociative table a b c) is = ap (λ (o : Option TablesFault). unless o next) is
told-ends told next (NotSquare table element) is = ap (λ (o : Option TablesFault). unless o next) is
told-ends told next Memory is = tt

by_test : {A : Type 0} (b : Bool) → (b ≡ true → A) → (b ≡ false → A) → A
by_test true t f = t refl
by_test false t f = f refl

-- what is found passes the test, and nothing that another search passed over
found-true : (p : TablesFault → Bool) (faults : List TablesFault) (x : TablesFault) → find p faults ≡ Some x
    → p x ≡ true
found-true p [] x found = absurd (none-some x found)
found-true p (y ∷ ys) x found =
    by_test (p y)
    (λ t. let same : y ≡ x = same_Some y x (rw t at found) in ap p (sym same) ∙ t)
    (λ f. found-true p ys x (let rest : find p ys ≡ Some x = rw f at found in rest))

passed_over : (p q : TablesFault → Bool) (faults : List TablesFault) (x : TablesFault) → find p faults ≡ None
    → find q faults ≡ Some x → p x ≡ false
passed_over p q [] x none found = absurd (none-some x found)
passed_over p q (y ∷ ys) x none found =
    by_test (p y)
    (λ t. absurd (let h : Some y ≡ None = rw t at none in none-some y (sym h)))
    (λ f. by_test (q y)
    (λ t. let same : y ≡ x = same_Some y x (rw t at found) in ap p (sym same) ∙ f)
    (λ g. passed_over p q ys x (let a : find p ys ≡ None = rw f at none in a)
    (let b : find q ys ≡ Some x = rw g at found in b)))

rank-unit : (x : TablesFault) → is_of_unit x ≡ true → rank x ≡ 0
rank-unit (UnitFails table element left) is = refl
rank-unit (NotAssociative table a b c) is = absurd (let h : false ≡ true = is in cc)
rank-unit (NotSquare table element) is = absurd (let h : false ≡ true = is in cc)
rank-unit Memory is = absurd (let h : false ≡ true = is in cc)

rank-triple : (x : TablesFault) → is_of_triple x ≡ true → rank x ≡ 1
rank-triple (UnitFails table element left) is = absurd (let h : false ≡ true = is in cc)
rank-triple (NotAssociative table a b c) is = refl
rank-triple (NotSquare table element) is = absurd (let h : false ≡ true = is in cc)
rank-triple Memory is = absurd (let h : false ≡ true = is in cc)

rank-other : (x : TablesFault) → is_of_unit x ≡ false → is_of_triple x ≡ false → rank x ≡ 2
rank-other (UnitFails table element left) no_unit no_triple = absurd (let h : true ≡ false = no_unit in cc)
rank-other (NotAssociative table a b c) no_unit no_triple = absurd (let h : true ≡ false = no_triple in cc)
rank-other (NotSquare table element) no_unit no_triple = refl
rank-other Memory no_unit no_triple = refl

abbrev picked : (TablesFault → Bool) → TablesFault → Option TablesFault
picked p fault = find p (fault ∷ [])

-- one fault more, by what the three searches found before
told-more : (u t h : Option TablesFault) (fault : TablesFault)
    → ((x : TablesFault) → u ≡ Some x → rank x ≡ 0)
    → ((x : TablesFault) → t ≡ Some x → rank x ≡ 1)
    → ((x : TablesFault) → u ≡ None → t ≡ None → h ≡ Some x → rank x ≡ 2)
    → option_or (option_or u (picked is_of_unit fault))
    (option_or (option_or t (picked is_of_triple fault)) (option_or h (Some fault)))
    ≡ Some (earlier (option_or u (option_or t h)) fault)
told-more (Some x) t h (UnitFails table element left) of_unit of_triple other = rw (of_unit x refl) refl
told-more (Some x) t h (NotAssociative table a b c) of_unit of_triple other = rw (of_unit x refl) refl
told-more (Some x) t h (NotSquare table element) of_unit of_triple other = rw (of_unit x refl) refl
told-more (Some x) t h Memory of_unit of_triple other = rw (of_unit x refl) refl
told-more None (Some x) h (UnitFails table element left) of_unit of_triple other = rw (of_triple x refl) refl
told-more None (Some x) h (NotAssociative table a b c) of_unit of_triple other = rw (of_triple x refl) refl
told-more None (Some x) h (NotSquare table element) of_unit of_triple other = rw (of_triple x refl) refl
told-more None (Some x) h Memory of_unit of_triple other = rw (of_triple x refl) refl
told-more None None (Some x) (UnitFails table element left) of_unit of_triple other = rw (other x refl refl refl) refl
told-more None None (Some x) (NotAssociative table a b c) of_unit of_triple other = rw (other x refl refl refl) refl
told-more None None (Some x) (NotSquare table element) of_unit of_triple other = rw (other x refl refl refl) refl
told-more None None (Some x) Memory of_unit of_triple other = rw (other x refl refl refl) refl
told-more None None None (UnitFails table element left) of_unit of_triple other = refl
told-more None None None (NotAssociative table a b c) of_unit of_triple other = refl
told-more None None None (NotSquare table element) of_unit of_triple other = refl
told-more None None None Memory of_unit of_triple other = refl

pub first_told-push : (faults : List TablesFault) (fault : TablesFault)
    → first_told (faults ++ fault ∷ []) ≡ Some (earlier (first_told faults) fault)
unfolding first_told
first_told-push faults fault =
    let all : TablesFault → Bool = λ f. true in
    let u = find is_of_unit faults in
    let t = find is_of_triple faults in
    let h = find all faults in
    rw (
      find-append is_of_unit faults (fault ∷ []),
      find-append is_of_triple faults (fault ∷ []),
      find-append (λ f. true) faults (fault ∷ []),
    )
    (told-more u t h fault
    (λ x found. rank-unit x (found-true is_of_unit faults x found))
    (λ x found. rank-triple x (found-true is_of_triple faults x found))
    (λ x no_unit no_triple found.
    rank-other x (passed_over is_of_unit all faults x no_unit found)
    (passed_over is_of_triple all faults x no_triple found)))

pub first_told-none : first_told [] ≡ None
unfolding first_told
first_told-none = refl

-- one table more, with no fault and with one
pub faults-same : (f : TableTree → Option TablesFault) (ts : List TableTree) (t : TableTree) → f t ≡ None
    → filter_map f (ts ++ t ∷ []) ≡ filter_map f ts
faults-same f ts t none =
    filter_map-append f ts (t ∷ []) ∙ rw none (append-nil (filter_map f ts))

pub faults-more : (f : TableTree → Option TablesFault) (ts : List TableTree) (t : TableTree) (fault : TablesFault)
    → f t ≡ Some fault → filter_map f (ts ++ t ∷ []) ≡ filter_map f ts ++ fault ∷ []
faults-more f ts t fault some = filter_map-append f ts (t ∷ []) ∙ rw some refl
