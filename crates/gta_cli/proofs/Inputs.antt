-- An input that was not read has its cause: too many bytes are refused, whatever the command that reads them.
use Rattle.std.proofs.Common.{◌≡◌, ℕ, ◌+◌, ◌<◌, ◌++◌, List, Option, Some, None, Err, Result, true, ap, refl, arith}
use Rattle.std.proofs.lemmas.Bool.Decides.{nat_tests}
use Rattle.std.proofs.lemmas.List.{length-append}
use Rattle.std.specs.Prelude.{IfSome, length, nat_lt}
use Rattle.gta_port.specs.Port.{ConsumesSome}
use Rattle.gta_port.specs.declared.reading.ReadEnd.{ReadEnd}
use Rattle.gta_port.specs.declared.reading.ReadEnd.TheVariants as read
use Rattle.gta_words.specs.declared.words.Command.{Command}
use Rattle.gta_words.specs.declared.words.Command.TheVariants.{Run, Show, List as ListKept, Drill}
use Rattle.report_text.specs.declared.refusal.Refusal.{Refusal}
use Rattle.report_text.specs.declared.refusal.Refusal.TheVariants.{Input}
use Rattle.gta_job.specs.declared.job.TheConstants.{INPUT_LIMIT}
use Rattle.outcome_kit.specs.Outcome.{and_then, unless}
use Rattle.gta_job.specs.Outcome.{input_refusal, outcome, report_outcome}
use Rattle.gta_cli.specs.Causes.{Explains, ending_of_read}
use Rattle.gta_cli.specs.Endings.{Failed, IsDrill, IsSteady, Stream, input_of}

stops : {S T : Type 0} (bytes : List ℕ) (rest : Result S Refusal) (next : S → Result T Refusal)
    → INPUT_LIMIT < length bytes → and_then (unless (input_refusal bytes) rest) next ≡ Err (Input INPUT_LIMIT)
stops bytes rest next long =
    let past : nat_lt INPUT_LIMIT (length bytes) ≡ true = grind (arith, nat_tests) in
    rw past refl

no_outcome : (command : Command) → (IsDrill command → ⊥) → (bytes : List ℕ) → INPUT_LIMIT < length bytes
    → outcome command bytes ≡ Err (Input INPUT_LIMIT)
unfolding outcome report_outcome
no_outcome (Run workers leaf) reads bytes long = stops bytes _ _ long
no_outcome Show reads bytes long = stops bytes _ _ long
no_outcome ListKept reads bytes long = stops bytes _ _ long
no_outcome (Drill seed rows workers leaf) reads bytes long = absurd (reads tt)

are_long : (old new : Option (List ℕ)) → ConsumesSome old new (λ n. n ≡ INPUT_LIMIT + 1)
    → IfSome old (λ bytes. INPUT_LIMIT < length bytes)
are_long None new taken = tt
are_long (Some bytes) None taken = absurd taken.1
are_long (Some bytes) (Some rest) taken =
    let whole : length bytes ≡ length (taken.0 ++ rest) = ap length taken.1 in
    omega (arith, length-append taken.0 rest, taken.2)

where_some : (known : Option (List ℕ)) (P Q : List ℕ → Type 0) → ((bytes : List ℕ) → P bytes → Q bytes)
    → IfSome known P → IfSome known Q
where_some None P Q goes holds = tt
where_some (Some bytes) P Q goes holds = goes bytes holds

too_long : (command : Command) → (IsDrill command → ⊥) → (old new : Option (List ℕ))
    → ConsumesSome old new (λ n. n ≡ INPUT_LIMIT + 1)
    → IfSome (input_of command old) (λ bytes. outcome command bytes ≡ Err (Input INPUT_LIMIT))
too_long (Run workers leaf) reads old new taken =
    where_some old _ _ (no_outcome (Run workers leaf) reads) (are_long old new taken)
too_long Show reads old new taken = where_some old _ _ (no_outcome Show reads) (are_long old new taken)
too_long ListKept reads old new taken = where_some old _ _ (no_outcome ListKept reads) (are_long old new taken)
too_long (Drill seed rows workers leaf) reads old new taken = absurd (reads tt)

pub unread-explained : (command : Command) → (IsDrill command → ⊥) → (source : Stream) (end : ReadEnd)
    → (end ≡ read.TooLong → ConsumesSome source.old source.new (λ n. n ≡ INPUT_LIMIT + 1))
    → (end ≡ read.ReadFault → Failed source)
    → (end ≡ read.TooLong → IsSteady source) → (end ≡ read.Memory → IsSteady source)
    → Explains (Some command) source (ending_of_read end)
unread-explained command reads source read.ReadFault long failed steady_long steady_memory = (reads, failed refl)
unread-explained command reads source read.TooLong long failed steady_long steady_memory =
    (too_long command reads source.old source.new (long refl), steady_long refl)
unread-explained command reads source read.Memory long failed steady_long steady_memory = steady_memory refl
