-- How `check` ends: what is written of a file's station, or noted of a refused file. Own profile.
use Rattle.std.specs.Prelude.{ℕ, List, Option, ◌≡◌, ◌≢◌}
use Rattle.std.specs.Io.KnownBytes.{Appends}
use Rattle.radio_base.specs.Causes.{Rose}
use Rattle.cmd_streams.specs.declared.status.Status.{Status}
use Rattle.cmd_streams.specs.declared.status.Status.TheVariants.{Done, Usage, BadFile, ReadFault, WriteFault, TooLong, TooLate}
use Rattle.cmd_streams.specs.Told.{StreamsTold, AppendsFront, Comes, WritesWell, IsNoted}
use Rattle.station_file.specs.declared.refusal.Refusal.{Refusal}
use Rattle.station_file.specs.Files.{ReadAs, says, station_at}
use Rattle.station_file.specs.Station.{Station}
use Rattle.station_file.specs.Told.{TellsRefusal, check_told}

-- the text was written, or a fault came behind a front of it: what was written before and now, and the count of faults
pub record TellsEnd (text : List ℕ) (old new : Option (List ℕ)) (before now : ℕ) (status : Status) : Type 0 where
  pub done : status ≡ Done → Appends old new text
  pub done_comes : ¬ Rose before now → Comes Done status
  pub write_fault : status ≡ WriteFault → Rose before now
  pub write_front : status ≡ WriteFault → AppendsFront old new text
  pub write_same : status ≢ WriteFault → now ≡ before
  pub others : (status ≢ Usage) × (status ≢ BadFile) × (status ≢ ReadFault) × (status ≢ TooLong) × (status ≢ TooLate)

-- the bytes are the file of a station of which P holds
abbrev pub IsStation : List ℕ → (Station → Type 0) → Type 0
IsStation bytes P = (s : Station) × (station_at bytes ≡ says s) × P s

-- the bytes are the file of no station
abbrev pub IsRefused : List ℕ → Type 0
IsRefused bytes = (s : Station) → station_at bytes ≢ says s

-- a file is refused for this, of whose line P holds
abbrev pub RefusedWith : List ℕ → List ℕ → (List ℕ → Type 0) → Type 0
RefusedWith name bytes P =
    (why : Refusal) × ReadAs bytes why (station_at bytes) × ((text : List ℕ) × TellsRefusal name why text × P text)

-- `check` of a file of that name with these bytes
pub record CheckEnds (name bytes : List ℕ) (before after : StreamsTold) (status : Status) : Type 0 where
  -- Where it is done, the bytes are the file of a station, and what that runs was written. A good file is done, but for faults and want of
  -- memory.
  pub done : status ≡ Done → IsStation bytes (λ s. Appends before.written after.written (check_told s))
  pub done_comes : IsStation bytes (λ s. Unit {0}) → WritesWell before after → Comes Done status
  -- A file is bad exactly where it is the file of no station; the note tells its refusal.
  pub bad_file : status ≡ BadFile → IsRefused bytes × RefusedWith name bytes (IsNoted before after)
  pub bad_file_comes : IsRefused bytes → Comes BadFile status
  -- A write fault comes only where the sink's count rose, behind a front of the lines. Elsewhere the count stays.
  pub write_fault : status ≡ WriteFault → Rose before.write_faults after.write_faults
  pub write_front : status ≡ WriteFault → IsStation bytes (λ s. AppendsFront before.written after.written (check_told s))
  pub write_same : status ≢ WriteFault → after.write_faults ≡ before.write_faults
  -- No other status comes.
  pub others : (status ≢ Usage) × (status ≢ ReadFault) × (status ≢ TooLong) × (status ≢ TooLate)
