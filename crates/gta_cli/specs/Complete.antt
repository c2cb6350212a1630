-- What follows from how a call ends: with no fault, what was asked for is answered or refused, or memory was wanting.
use Rattle.std.specs.Prelude.{ℕ, ◌≡◌, ◌⊎◌, List, Option, None, Result, Ok, Err}
use Rattle.std.specs.Option.{IsSomeAnd}
use Rattle.gta_words.specs.declared.words.Command.{Command}
use Rattle.report_text.specs.declared.refusal.Refusal.{Refusal}
use Rattle.gta_job.specs.Outcome.{outcome}
use Rattle.gta_cli.specs.declared.status.Status.{Status}
use Rattle.gta_cli.specs.declared.status.Status.TheVariants as status
use Rattle.gta_cli.specs.Endings.{Failed, Stream, input_of}

-- what was asked for comes to this, on bytes that are told
abbrev pub IsKnown : Option Command → Option (List ℕ) → Result (List ℕ) Refusal → Type 0
IsKnown asked left result =
    IsSomeAnd asked (λ command. IsSomeAnd (input_of command left) (λ bytes. outcome command bytes ≡ result))

-- with no fault an accepted command is answered, a refused one refused, and other words get the usage line; or memory
-- was wanting
pub record IsComplete (asked : Option Command) (source out err : Stream) (end : Status) : Type 0 where
  pub answered : (text : List ℕ) → IsKnown asked source.old (Ok text) → ¬ Failed source → ¬ Failed out
      → (end ≡ status.Answered) ⊎ (end ≡ status.NoMemory)
  pub refused : (refusal : Refusal) → IsKnown asked source.old (Err refusal) → ¬ Failed source → ¬ Failed err
      → (end ≡ status.Refused) ⊎ (end ≡ status.NoMemory)
  pub usage : asked ≡ None → ¬ Failed err → (end ≡ status.Usage) ⊎ (end ≡ status.NoMemory)
