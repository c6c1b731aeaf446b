-- How `check` of a file ends. Own profile.
use Rattle.std.specs.Prelude.{ℕ, ◌≡◌, ◌≤◌, ◌⊎◌, List, length}
use Rattle.cmd_streams.specs.declared.status.Status.{Status}
use Rattle.cmd_streams.specs.Told.{StreamsTold}
use Rattle.station_check.specs.Check.{CheckEnds}
use Rattle.station_cmd.specs.Files.{IsUnread, name_in}

-- its bytes were read, and it ends by what they are; or they weren't, and nothing is written
abbrev pub ChecksFile : List ℕ → StreamsTold → StreamsTold → (List ℕ → Type 0) → Status → Type 0
ChecksFile path before after Noted status =
    ((bytes : List ℕ) × (length bytes ≤ 1048576) × CheckEnds (name_in path) bytes before after status)
    ⊎ (IsUnread path status (after ≡ before) Noted × (after.written ≡ before.written) × (after.write_faults ≡ before.write_faults))
