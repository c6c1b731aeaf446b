-- What the streams of a command tell at a moment, what writing a text leaves, when a status comes, what is noted where input was
-- refused, and which files are good or bad. Own profile.
use Rattle.std.specs.Prelude.{ℕ, List, Option, ◌≡◌, ◌⊎◌, ◌++◌, None, Result, Ok, Err, ◌≢◌, codes}
use Rattle.std.specs.Io.KnownBytes.{Appends}
use Rattle.std.specs.Fmt.{decimal}
use Rattle.radio_base.specs.Causes.{Rose}
use Rattle.radio_base.specs.declared.sink.Sink as sinks
use Rattle.radio_base.specs.declared.source.Source as sources
use Rattle.cmd_streams.specs.declared.status.Status.{Status}
use Rattle.cmd_streams.specs.declared.status.Status.TheVariants.{Done, WriteFault, TooLate, NoMemory}
use Rattle.cmd_streams.specs.Reading.{ReadsFile, TellsFile}

-- What the streams of a run tell at a moment.

-- the bytes still to come and the sizes of the reads, the bytes that were written, and the notes, each where it is told, with
-- the counts of faults
pub record StreamsTold : Type 0 where
  pub left : Option (List ℕ)
  pub reads : Option (List ℕ)
  pub read_faults : ℕ
  pub written : Option (List ℕ)
  pub write_faults : ℕ
  pub notes : Option (List ℕ)
  pub note_faults : ℕ

abbrev pub told : Option (List ℕ) → Option (List ℕ) → ℕ → Option (List ℕ) → ℕ → Option (List ℕ) → ℕ → StreamsTold
told left reads read_faults written write_faults notes note_faults =
    record { left = left; reads = reads; read_faults = read_faults; written = written; write_faults = write_faults; notes = notes; note_faults = note_faults }

-- What writing a text leaves.

-- a front of the text was written
pub record AppendsFront (old new : Option (List ℕ)) (text : List ℕ) : Type 0 where
  pub front : List ℕ
  pub rest : List ℕ
  pub whole : text ≡ front ++ rest
  pub written : Appends old new front

-- the text was written without a fault, or a fault came behind a front of it
abbrev pub Says : Option (List ℕ) → Option (List ℕ) → ℕ → ℕ → List ℕ → Type 0
Says old new before now text = (Appends old new text × (now ≡ before)) ⊎ (AppendsFront old new text × Rose before now)

-- What the streams of a command tell, whatever kinds of streams they are. Own profile.

-- what its source, its sink and its notes tell at a moment
abbrev pub told_by : {S K N : Type 0} → sources.Ghosts S → sinks.Ghosts K → sinks.Ghosts N → S → K → N → StreamsTold
told_by s k n source sink notes =
    told (s.left source) (s.reads source) (s.faults source)
    (k.written sink) (k.faults sink) (n.written notes) (n.faults notes)

-- the same of what reads nothing: no source tells anything
abbrev pub output_by : {K N : Type 0} → sinks.Ghosts K → sinks.Ghosts N → K → N → StreamsTold
output_by k n sink notes = told None None 0 (k.written sink) (k.faults sink) (n.written notes) (n.faults notes)

-- a text was noted without a fault, or a fault came behind a front of it
abbrev pub SaysTo : {N : Type 0} → sinks.Ghosts N → N → N → List ℕ → Type 0
SaysTo n old new = Says (n.written old) (n.written new) (n.faults old) (n.faults new)

abbrev pub IsNoted : StreamsTold → StreamsTold → List ℕ → Type 0
IsNoted before after = Says before.notes after.notes before.note_faults after.note_faults

-- When a status comes. Own profile.

-- the status that is due comes, but for want of memory
abbrev pub Comes : Status → Status → Type 0
Comes due status = (status ≡ due) ⊎ (status ≡ NoMemory)

-- no read failed
abbrev pub ReadsWell : StreamsTold → StreamsTold → Type 0
ReadsWell before after = ¬ Rose before.read_faults after.read_faults

-- no write failed
abbrev pub WritesWell : StreamsTold → StreamsTold → Type 0
WritesWell before after = ¬ Rose before.write_faults after.write_faults

-- P holds, but for the statuses at which a command that writes at the end has written
abbrev pub UnlessItWrote : Status → Type 0 → Type 0
UnlessItWrote status P = status ≢ Done → status ≢ TooLate → status ≢ WriteFault → P

-- What is noted where input was refused. Own profile.

abbrev pub read_fault_note : List ℕ
read_fault_note = codes "read fault\n"

abbrev pub too_long_note : List ℕ
too_long_note = codes "too long\n"

-- the line's number, and the word for what is wrong with it
abbrev pub bad_line_note : ℕ → List ℕ → List ℕ
bad_line_note line word = codes "line " ++ decimal line ++ codes ": " ++ word ++ codes "\n"

-- Good and bad files, as `read` says: what a file is of, or its first bad line, by its number, and what is wrong with it, which `word_for`
-- shows. Own profile.

-- the source tells its bytes, and they are a good file: one of something of which P holds
abbrev pub TellsGoodFile : {T E : Type 0} → (List ℕ → Result T E) → (T → Type 0) → Option (List ℕ) → Type 0
TellsGoodFile {T = T} read P left = TellsFile left (λ bytes. (good : T) × (read bytes ≡ Ok good) × P good)

-- a bad file, of whose note P holds
abbrev pub IsBadFile : {T W : Type 0} → (List ℕ → Result T (ℕ × W)) → (W → List ℕ) → List ℕ → (List ℕ → Type 0) → Type 0
IsBadFile {W = W} read word_for bytes P = (bad : ℕ × W) × (read bytes ≡ Err bad) × P (bad_line_note bad.0 (word_for bad.1))

-- a file was read to its end, and it is a bad one, of whose note P holds
abbrev pub ReadsBadFile : {T W : Type 0} → (List ℕ → Result T (ℕ × W)) → (W → List ℕ) → StreamsTold → StreamsTold
    → (List ℕ → Type 0) → Type 0
ReadsBadFile read word_for before after P = ReadsFile before.left after.left (λ bytes. IsBadFile read word_for bytes P)

-- the source tells its bytes, and they are a bad file
abbrev pub TellsBadFile : {T W : Type 0} → (List ℕ → Result T (ℕ × W)) → Option (List ℕ) → Type 0
TellsBadFile {W = W} read left = TellsFile left (λ bytes. (bad : ℕ × W) × (read bytes ≡ Err bad))
