-- Outcomes step by step: what they are where there is a fault, and where there is none.
use Rattle.std.proofs.Common.{◌≡◌, Option, Some, None, Result, Ok, Err, refl, ap, sym, ◌∙◌}
use Rattle.std.specs.Prelude.{IfSome}
use Rattle.outcome_kit.specs.Outcome.{and_then, unless, Carries, Passes, Tells}

module _ {T F : Type 0} where
  -- an outcome that is a value has no fault before it
  pub unless-Ok : (fault : Option F) (next : Result T F) (value : T) → unless fault next ≡ Ok value
      → (fault ≡ None) × (next ≡ Ok value)
  unless-Ok None next value is = (refl, is)
  unless-Ok (Some fault) next value is = absurd (let h : Err fault ≡ Ok value = is in cc)

  -- where the value is known that follows, an outcome that is a fault is the one before it
  pub unless-Err : (fault : Option F) (value : T) (told : F) → unless fault (Ok value) ≡ Err told → fault ≡ Some told
  unless-Err None value told is = absurd (let h : Ok value ≡ Err told = is in cc)
  unless-Err (Some fault) value told is = let h : Err fault ≡ Err told = is in cc

  -- an end that carries a fault carries the outcome of which it is the fault
  pub unless-Carries : (fault : Option F) (next : Result T F) (end : Option F)
      → IfSome end (λ told. fault ≡ Some told) → Carries (unless fault next) end
  unless-Carries fault next None is = tt
  unless-Carries fault next (Some told) is = ap (λ (o : Option F). unless o next) is

module _ {S T F : Type 0} where
  -- a step that ends with a fault ends all
  pub and_then-Carries : (step : Result S F) (next : S → Result T F) (end : Option F) → Carries step end
      → Carries (and_then step next) end
  and_then-Carries step next None is = tt
  and_then-Carries step next (Some told) is = ap (λ (r : Result S F). and_then r next) is

module _ {S T E F : Type 0} (fault_in : E → Option F) where
  -- a call that lets pass tells an outcome whose value says nothing
  pub Passes-Tells : (fault : Option F) (seen : S → T) (value : T) (result : Result S E)
      → ((passed : S) → seen passed ≡ value) → Passes fault_in fault result
      → Tells fault_in seen (unless fault (Ok value)) result
  Passes-Tells fault seen value (Ok passed) same is =
      ap (λ (o : Option F). unless o (Ok value)) is ∙ ap Ok (sym (same passed))
  Passes-Tells fault seen value (Err end) same is = unless-Carries fault (Ok value) (fault_in end) is
