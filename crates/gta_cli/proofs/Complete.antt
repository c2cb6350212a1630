-- Each end has its cause, so that with no fault there is no other.
use Rattle.std.proofs.Common.{◌≡◌, ℕ, inl, inr, List, Option, Some, None, Result, Ok, Err, refl, sym, ◌∙◌}
use Rattle.std.specs.Prelude.{IfSome}
use Rattle.std.specs.Option.{IsSomeAnd}
use Rattle.gta_words.specs.declared.words.Command.{Command}
use Rattle.report_text.specs.declared.refusal.Refusal.{Refusal}
use Rattle.gta_job.specs.Outcome.{outcome}
use Rattle.gta_cli.specs.declared.status.Status.{Status}
use Rattle.gta_cli.specs.declared.status.Status.TheVariants as status
use Rattle.gta_cli.specs.Complete.{IsComplete, IsKnown}
use Rattle.gta_cli.specs.Endings.{ComesTo, Ends, IsDue, Stream, input_of}

told_once : (known : Option (List ℕ)) (of : List ℕ → Result (List ℕ) Refusal) (a b : Result (List ℕ) Refusal)
    → IsSomeAnd known (λ bytes. of bytes ≡ a) → IfSome known (λ bytes. of bytes ≡ b) → a ≡ b
told_once None of a b is_a is_b = absurd is_a
told_once (Some bytes) of a b is_a is_b = sym is_a ∙ is_b

one_outcome : (asked : Option Command) (left : Option (List ℕ)) (a b : Result (List ℕ) Refusal)
    → IsKnown asked left a → ComesTo asked left b → a ≡ b
one_outcome None left a b is_a is_b = absurd is_a
one_outcome (Some command) left a b is_a is_b = told_once (input_of command left) (outcome command) a b is_a is_b

no_words : (asked : Option Command) (left : Option (List ℕ)) (a : Result (List ℕ) Refusal) → asked ≡ None
    → ComesTo asked left a → ⊥
no_words None left a none is_a = is_a
no_words (Some command) left a none is_a = absurd (let some : Some command ≡ None = none in cc)

none_known : (asked : Option Command) (left : Option (List ℕ)) (a : Result (List ℕ) Refusal) → asked ≡ None
    → IsKnown asked left a → ⊥
none_known None left a none known = known
none_known (Some command) left a none known = absurd (let some : Some command ≡ None = none in cc)

no_reader : (asked : Option Command) (P : Command → Type 0) → asked ≡ None → IsSomeAnd asked P → ⊥
no_reader None P none is = is
no_reader (Some command) P none is = absurd (let some : Some command ≡ None = none in cc)

-- an outcome is no text and a refusal
apart : {A : Type 0} (text : List ℕ) (refusal : Refusal)
    → (let T : Result (List ℕ) Refusal = Ok text in T ≡ Err refusal) → A
apart text refusal same = absurd (let is : (let T : Result (List ℕ) Refusal = Ok text in T ≡ Err refusal) = same in cc)

module _ (asked : Option Command) (source out err : Stream) where
  answered-complete : Ends asked source out err status.Answered → IsComplete asked source out err status.Answered
  answered-complete ends = record {
    answered = λ text known fed gone. inl refl;
    refused = λ refusal known fed said.
        apart ends.0.0 refusal (sym (one_outcome asked source.old (Err refusal) (Ok ends.0.0) known ends.0.1));
    usage = λ none said. absurd (no_words asked source.old (Ok ends.0.0) none ends.0.1);
  }

  refused-complete : Ends asked source out err status.Refused → IsComplete asked source out err status.Refused
  refused-complete ends = record {
    answered = λ text known fed gone.
        apart text ends.0.0 (one_outcome asked source.old (Ok text) (Err ends.0.0) known ends.0.1);
    refused = λ refusal known fed said. inl refl;
    usage = λ none said. absurd (no_words asked source.old (Err ends.0.0) none ends.0.1);
  }

  usage-complete : Ends asked source out err status.Usage → IsComplete asked source out err status.Usage
  usage-complete ends = record {
    answered = λ text known fed gone. absurd (none_known asked source.old (Ok text) ends.0 known);
    refused = λ refusal known fed said. absurd (none_known asked source.old (Err refusal) ends.0 known);
    usage = λ none said. inl refl;
  }

  read_fault-complete : Ends asked source out err status.ReadFault → IsComplete asked source out err status.ReadFault
  read_fault-complete ends = record {
    answered = λ text known fed gone. absurd (fed ends.1);
    refused = λ refusal known fed said. absurd (fed ends.1);
    usage = λ none said. absurd (no_reader asked _ none ends.0);
  }

  no_text-known : (text line : List ℕ) → IsKnown asked source.old (Ok text) → IsDue asked source.old line → ⊥
  no_text-known text line known (inl due) =
      apart text due.0 (one_outcome asked source.old (Ok text) (Err due.0) known due.1)
  no_text-known text line known (inr due) = none_known asked source.old (Ok text) due.0 known

  write_fault-complete : Ends asked source out err status.WriteFault → IsComplete asked source out err status.WriteFault
  write_fault-complete (inl text, steady) = record {
    answered = λ t known fed gone. absurd (gone text.2.0);
    refused = λ refusal known fed said.
        apart text.0 refusal (sym (one_outcome asked source.old (Err refusal) (Ok text.0) known text.1));
    usage = λ none said. absurd (no_words asked source.old (Ok text.0) none text.1);
  }
  write_fault-complete (inr line, steady) = record {
    answered = λ t known fed gone. absurd (no_text-known t line.0 known line.1);
    refused = λ refusal known fed said. absurd (said line.2.0);
    usage = λ none said. absurd (said line.2.0);
  }

  pub ends-complete : (end : Status) → Ends asked source out err end → IsComplete asked source out err end
  ends-complete status.Answered ends = answered-complete ends
  ends-complete status.Refused ends = refused-complete ends
  ends-complete status.Usage ends = usage-complete ends
  ends-complete status.ReadFault ends = read_fault-complete ends
  ends-complete status.WriteFault ends = write_fault-complete ends
  ends-complete status.NoMemory ends = record {
    answered = λ text known fed gone. inr refl;
    refused = λ refusal known fed said. inr refl;
    usage = λ none said. inr refl;
  }
