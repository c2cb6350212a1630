-- How a call ends: for each status when it comes, and what the streams gained. Known bytes of a stream are an `Option`;
-- where they are not told, nothing is claimed of them.
use Rattle.std.specs.Prelude.{ℕ, ◌≡◌, ◌⊎◌, List, [], Option, Some, None, IfSome, Result, Ok, Err}
use Rattle.std.specs.Option.{IsSomeAnd}
use Rattle.std.specs.Io.KnownBytes.{Appends, IsAtEnd}
use Rattle.gta_port.specs.Port.{GainsFront, Rose}
use Rattle.gta_words.specs.declared.words.Command.{Command}
use Rattle.gta_words.specs.declared.words.Command.TheVariants.{Run, Show, List as ListKept, Drill}
use Rattle.report_text.specs.declared.refusal.Refusal.{Refusal}
use Rattle.report_text.specs.Texts.{fault_text}
use Rattle.gta_job.specs.Outcome.{outcome}
use Rattle.gta_cli.specs.declared.status.Status.{Status}
use Rattle.gta_cli.specs.declared.status.Status.TheVariants as status
use Rattle.gta_cli.specs.Lines.{usage_line, read_fault_line, write_fault_line, out_of_memory_line}

-- the bytes that a command is over: none for a drill, and those that the source has left for the others
abbrev pub input_of : Command → Option (List ℕ) → Option (List ℕ)
input_of (Run workers leaf) left = left
input_of Show left = left
input_of ListKept left = left
input_of (Drill seed rows workers leaf) left = Some []

-- the command is a drill
abbrev pub IsDrill : Command → Type 0
IsDrill (Run workers leaf) = ⊥
IsDrill Show = ⊥
IsDrill ListKept = ⊥
IsDrill (Drill seed rows workers leaf) = Unit {0}

-- a source or a sink before and after the call: the bytes that it has left or that are gone, where they are told, its
-- count
-- of faults, and that all of it is as it was
pub record Stream : Type 1 where
  pub old : Option (List ℕ)
  pub new : Option (List ℕ)
  pub faults_old : ℕ
  pub faults_new : ℕ
  pub same : Type 0

abbrev pub stream : Option (List ℕ) → Option (List ℕ) → ℕ → ℕ → Type 0 → Stream
stream old new faults_old faults_new same = record {
  old = old;
  new = new;
  faults_old = faults_old;
  faults_new = faults_new;
  same = same;
}

-- no call of the stream failed; one did
abbrev pub IsSteady : Stream → Type 0
IsSteady stream = stream.faults_new ≡ stream.faults_old

abbrev pub Failed : Stream → Type 0
Failed stream = Rose stream.faults_old stream.faults_new

-- a sink gained a text and no call of it failed; or one did, and it gained a front of the text
abbrev pub Gains : Stream → List ℕ → Type 0
Gains sink text = Appends sink.old sink.new text × IsSteady sink

abbrev pub IsCut : Stream → List ℕ → Type 0
IsCut sink text = Failed sink × GainsFront sink.old sink.new text

-- a sink gained a front of a line, and the whole of it unless a call of it failed
abbrev pub Says : Stream → List ℕ → Type 0
Says sink line = GainsFront sink.old sink.new line × (¬ Failed sink → Appends sink.old sink.new line)

-- what was asked for, by a command that reads its source or a drill, comes to this
abbrev pub ComesTo : Option Command → Option (List ℕ) → Result (List ℕ) Refusal → Type 0
ComesTo asked left result =
    IsSomeAnd asked (λ command. IfSome (input_of command left) (λ bytes. outcome command bytes ≡ result))

-- a command was asked for that reads its source
abbrev pub IsReader : Option Command → Type 0
IsReader asked = IsSomeAnd asked (λ command. IsDrill command → ⊥)

-- nothing is left to a command that reads its source
abbrev pub IsReadWhole : Option Command → Option (List ℕ) → Type 0
IsReadWhole asked left = IfSome asked (λ command. IsDrill command ⊎ IsAtEnd left)

-- the line that is due on the error output: that of a refusal, or the usage where the words are no command
abbrev pub IsDue : Option Command → Option (List ℕ) → List ℕ → Type 0
IsDue asked left line =
    ((refusal : Refusal) × ComesTo asked left (Err refusal) × (line ≡ fault_text refusal))
    ⊎ ((asked ≡ None) × (line ≡ usage_line))

-- how a call ends, by its status:
-- the text of what was asked for went out, nothing was said, and the source was read to its end;
-- its refusal was said; or the usage, where the words are no command, and nothing was read;
-- a read of the source failed; a write of the text to the output, or one of the line that was due;
-- or memory was wanting. Where no text was written the output is as it was, and but at a read fault no read failed
abbrev pub Ends : Option Command → Stream → Stream → Stream → Status → Type 0
Ends asked source out err status.Answered =
    ((text : List ℕ) × ComesTo asked source.old (Ok text) × Gains out text)
    × IsReadWhole asked source.new × err.same × IsSteady source
Ends asked source out err status.Refused =
    ((refusal : Refusal) × ComesTo asked source.old (Err refusal) × Gains err (fault_text refusal))
    × out.same × IsSteady source
Ends asked source out err status.Usage = (asked ≡ None) × Gains err usage_line × out.same × source.same
Ends asked source out err status.ReadFault =
    IsReader asked × Failed source × Says err read_fault_line × out.same
Ends asked source out err status.WriteFault =
    (((text : List ℕ) × ComesTo asked source.old (Ok text) × IsCut out text × Says err write_fault_line)
    ⊎ ((line : List ℕ) × IsDue asked source.old line × IsCut err line × out.same))
    × IsSteady source
Ends asked source out err status.NoMemory = Says err out_of_memory_line × out.same × IsSteady source

-- the exit status of each
abbrev pub number_of : Status → ℕ
number_of status.Answered = 0
number_of status.Refused = 1
number_of status.Usage = 2
number_of status.ReadFault = 3
number_of status.WriteFault = 4
number_of status.NoMemory = 5
