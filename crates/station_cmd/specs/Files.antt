-- Files of stations, as they are read from disk, and what is noted where one isn't. Own profile.
use Rattle.std.specs.Prelude.{ℕ, ◌≡◌, ◌≤◌, ◌⊎◌, ◌==◌, ◌++◌, List, [], ◌∷◌, codes, length, if◌then◌else◌}
use Rattle.cmd_streams.specs.declared.status.Status.{Status}
use Rattle.cmd_streams.specs.declared.status.Status.TheVariants.{Done, Usage, BadFile, ReadFault, WriteFault, TooLong, TooLate, NoMemory}
use Rattle.station_file.specs.declared.refusal.Refusal.{Refusal}
use Rattle.station_file.specs.Files.{ReadAs, says, station_at}
use Rattle.station_file.specs.Station.{Station}
use Rattle.station_file.specs.Told.{TellsRefusal}

-- ---- names

abbrev pub name_from : List ℕ → List ℕ → List ℕ
name_from name [] = name
name_from name (b ∷ bs) = if b == 47 then name_from bs bs else name_from name bs

-- what stands behind the last slash, or the whole
unfoldable pub name_in : List ℕ → List ℕ
name_in path = name_from path path

-- ---- notes

abbrev pub unread_note : List ℕ → List ℕ
unread_note name = name ++ codes ": it can't be read\n"

abbrev pub too_long_note : List ℕ → List ℕ
too_long_note name = name ++ codes ": too long\n"

-- The status where the bytes of a file weren't read, and what is noted then: `Same` says that nothing is, and `Noted` what is.
abbrev pub IsUnread : List ℕ → Status → Type 0 → (List ℕ → Type 0) → Type 0
IsUnread path ReadFault Same Noted = Noted (unread_note (name_in path))
IsUnread path TooLong Same Noted = Noted (too_long_note (name_in path))
IsUnread path NoMemory Same Noted = Same
IsUnread path Done Same Noted = ⊥
IsUnread path Usage Same Noted = ⊥
IsUnread path BadFile Same Noted = ⊥
IsUnread path WriteFault Same Noted = ⊥
IsUnread path TooLate Same Noted = ⊥

-- ---- refusals

-- the status where a file is refused for this
abbrev pub IsNotedAs : List ℕ → Refusal → Status → Type 0 → (List ℕ → Type 0) → Type 0
IsNotedAs path why BadFile Same Noted = (text : List ℕ) × TellsRefusal (name_in path) why text × Noted text
IsNotedAs path why NoMemory Same Noted = Same
IsNotedAs path why _ Same Noted = ⊥

-- the status where these bytes are the file of no station
abbrev pub IsRefused : List ℕ → List ℕ → Status → Type 0 → (List ℕ → Type 0) → Type 0
IsRefused path bytes status Same Noted = (why : Refusal) × ReadAs bytes why (station_at bytes) × IsNotedAs path why status Same Noted

-- what was read of some file that isn't too long
abbrev pub IsFileOf : Station → Type 0
IsFileOf file = (bytes : List ℕ) × (length bytes ≤ 1048576) × (station_at bytes ≡ says file)

-- it wasn't read, or its bytes are the file of no station
abbrev pub HasNoStation : List ℕ → Status → Type 0 → (List ℕ → Type 0) → Type 0
HasNoStation path status Same Noted =
    IsUnread path status Same Noted ⊎ ((bytes : List ℕ) × (length bytes ≤ 1048576) × IsRefused path bytes status Same Noted)
