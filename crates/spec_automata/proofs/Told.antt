-- Which fault of the automata is told.
use Rattle.std.proofs.Common.{◌≡◌, ℕ, List, [], ◌∷◌, ◌++◌, Option, Some, None, Result, refl, sym, ap, ◌∙◌}
use Rattle.std.specs.Option.{option_or}
use Rattle.outcome_kit.specs.Outcome.{unless, Carries}
use Rattle.auto_monoid.specs.Auto.{PlainAuto}
use Rattle.gta_spec.specs.Parts.{AutomatonTree, PartTree}
use Rattle.spec_automata.specs.declared.fault.AutomataFault.{AutomataFault}
use Rattle.spec_automata.specs.declared.fault.AutomataFault.TheVariants.{NotTotal, TooMany, Memory}
use Rattle.spec_automata.specs.Automata.{automaton_of}
use Rattle.spec_automata.specs.Checked.{WasAdded}
use Rattle.spec_automata.specs.Faults.{fault_in, first_of, too_many}

option_or-none : {A : Type 0} (o : Option A) → option_or o None ≡ o
option_or-none None = refl
option_or-none (Some x) = refl

option_or-assoc : {A : Type 0} (x y z : Option A) → option_or x (option_or y z) ≡ option_or (option_or x y) z
option_or-assoc None y z = refl
option_or-assoc (Some x) y z = refl

-- one automaton more
pub first_of-push : (ask : AutomatonTree → Option AutomataFault) (ts : List AutomatonTree) (t : AutomatonTree)
    → first_of ask (ts ++ t ∷ []) ≡ option_or (first_of ask ts) (ask t)
first_of-push ask [] t = option_or-none (ask t)
first_of-push ask (u ∷ ts) t =
    ap (option_or (ask u)) (first_of-push ask ts t) ∙ option_or-assoc (ask u) (first_of ask ts) (ask t)

pub first_of-same : (ask : AutomatonTree → Option AutomataFault) (ts : List AutomatonTree) (t : AutomatonTree)
    → ask t ≡ None → first_of ask (ts ++ t ∷ []) ≡ first_of ask ts
first_of-same ask ts t none =
    first_of-push ask ts t ∙ ap (option_or (first_of ask ts)) none ∙ option_or-none (first_of ask ts)

-- the fault of adding an automaton is that it has too many functions
pub added-fault : (parts : List PartTree) (t : AutomatonTree) (auto : PlainAuto) (old new : List PlainAuto)
    (fault : Option AutomataFault) → auto ≡ automaton_of parts t → WasAdded t.name auto old new fault
    → fault ≡ too_many parts t
added-fault parts t auto old new None is added = rw (sym is, added.0) refl
added-fault parts t auto old new (Some fault) is added = rw (sym is, added.0, added.1) refl

pub added-new : (name : List ℕ) (auto : PlainAuto) (old new : List PlainAuto) (fault : Option AutomataFault)
    → WasAdded name auto old new fault → fault ≡ None → new ≡ old ++ auto ∷ []
added-new name auto old new None added none = added.1
added-new name auto old new (Some fault) added none = absurd (let h : Some fault ≡ None = none in cc)

-- both faults, of which the second counts only where the first is none
pub both_told : {A : Type 0} (first second one two : Option A) → first ≡ one → (first ≡ None → second ≡ two)
    → option_or first second ≡ option_or one two
both_told None second one two is_one is_two =
    is_two refl ∙ ap (λ o. option_or o two) is_one
both_told (Some x) second one two is_one is_two = ap (λ o. option_or o two) is_one

-- the fault that is told ends all
pub told-ends : {T : Type 0} (told : Option AutomataFault) (next : Result T AutomataFault) (fault : AutomataFault)
    → told ≡ Some fault → Carries (unless told next) (fault_in fault)
told-ends told next (NotTotal automaton letter) is = ap (λ (o : Option AutomataFault). unless o next) is
told-ends told next (TooMany automaton) is = ap (λ (o : Option AutomataFault). unless o next) is
told-ends told next Memory is = tt
