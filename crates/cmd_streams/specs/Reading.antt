-- What reading a file leaves, what a source tells of a file, and why one wasn't read.
use Rattle.std.specs.Prelude.{ℕ, ◌≡◌, ◌<◌, ◌≤◌, List, length, Option, IsSomeAnd}
use Rattle.std.specs.Io.KnownBytes.{Consumes, Keeps, IsAtEnd}
use Rattle.radio_base.specs.Causes.{Rose}
use Rattle.cmd_streams.specs.declared.refusals.ReadRefusal.{ReadRefusal}
use Rattle.cmd_streams.specs.declared.refusals.ReadRefusal.TheVariants.{Fault, TooLong, NoMemory}
use Rattle.cmd_streams.specs.declared.status.Status.{Status}
use Rattle.cmd_streams.specs.declared.status.Status.TheVariants as statuses

-- the most bytes that a file may have
abbrev pub max_file : ℕ
max_file = 1048576

-- these bytes were read, and the input ended behind them
pub record ReadsAll (old new : Option (List ℕ)) (bytes : List ℕ) : Type 0 where
  pub taken : Consumes old new bytes
  pub ended : IsAtEnd new
  pub fits : length bytes ≤ max_file

-- a file was read to its end, and P holds of its bytes
abbrev pub ReadsFile : Option (List ℕ) → Option (List ℕ) → (List ℕ → Type 0) → Type 0
ReadsFile old new P = (bytes : List ℕ) × ReadsAll old new bytes × P bytes

-- the source tells its bytes, no more than a file may have, and P holds of them
abbrev pub TellsFile : Option (List ℕ) → (List ℕ → Type 0) → Type 0
TellsFile left P = IsSomeAnd left (λ bytes. (length bytes ≤ max_file) × P bytes)

-- the source tells its bytes, and they are more than a file may have
abbrev pub TellsTooMuch : Option (List ℕ) → Type 0
TellsTooMuch left = IsSomeAnd left (λ bytes. max_file < length bytes)

-- no more bytes were read than a file may have
abbrev pub ReadsFew : Option (List ℕ) → Option (List ℕ) → Type 0
ReadsFew old new = (bytes : List ℕ) × Consumes old new bytes × (length bytes ≤ max_file)

-- more bytes were read than a file may have
abbrev pub ReadsTooMuch : Option (List ℕ) → Option (List ℕ) → Type 0
ReadsTooMuch old new = (bytes : List ℕ) × Consumes old new bytes × (max_file < length bytes)

-- how a command ends that reads a file, where it wasn't read
abbrev pub status_of : ReadRefusal → Status
status_of Fault = statuses.ReadFault
status_of TooLong = statuses.TooLong
status_of NoMemory = statuses.NoMemory

-- why a file wasn't read
abbrev pub WhyUnread : Option (List ℕ) → Option (List ℕ) → ℕ → ℕ → ReadRefusal → Type 0
WhyUnread old new before now Fault = ReadsFew old new × Rose before now
WhyUnread old new before now TooLong = ReadsTooMuch old new × (now ≡ before)
WhyUnread old new before now NoMemory = now ≡ before

-- why a read added nothing
abbrev pub WhyNoMore : Option (List ℕ) → Option (List ℕ) → ℕ → ℕ → ReadRefusal → Type 0
WhyNoMore old new before now Fault = Keeps old new × Rose before now
WhyNoMore old new before now TooLong = ⊥
WhyNoMore old new before now NoMemory = now ≡ before
