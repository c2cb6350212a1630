-- Outcomes: the value that a call is to give, or the fault that it is to stop at. A call tells its outcome, or ends for
-- want of memory, which says nothing of it.
use Rattle.std.specs.Prelude.{◌≡◌, Option, Some, None, IfSome, Result, Ok, Err}

-- what follows, unless there is a fault
abbrev pub unless : {T F : Type 0} → Option F → Result T F → Result T F
unless None next = next
unless (Some fault) next = Err fault

-- what follows from a value, unless there is a fault in its place
abbrev pub and_then : {S T F : Type 0} → Result S F → (S → Result T F) → Result T F
and_then (Ok value) next = next value
and_then (Err fault) next = Err fault

-- what an end says of an outcome: that it is this fault, where the end has one
abbrev pub Carries : {T F : Type 0} → Result T F → Option F → Type 0
Carries outcome (Some fault) = outcome ≡ Err fault
Carries outcome None = Unit {0}

-- a result tells an outcome: its value, as it is seen, is the outcome's, or its end carries the outcome's fault
abbrev pub Tells : {S T E F : Type 0} → (E → Option F) → (S → T) → Result T F → Result S E → Type 0
Tells fault_in seen outcome (Ok value) = outcome ≡ Ok (seen value)
Tells fault_in seen outcome (Err end) = Carries outcome (fault_in end)

-- the same of a call that only lets pass, whose outcome is a fault or none
abbrev pub Passes : {S E F : Type 0} → (E → Option F) → Option F → Result S E → Type 0
Passes fault_in fault (Ok value) = fault ≡ None
Passes fault_in fault (Err end) = IfSome (fault_in end) (λ told. fault ≡ Some told)
