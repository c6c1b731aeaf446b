-- How `run` and `try` end. Own profile.
use Rattle.std.specs.Prelude.{ℕ, ◌≡◌, ◌⊎◌, List, Option, length, Contains}
use Rattle.std.specs.List.{AllByRecursion}
use Rattle.circuit_l4.specs.declared.pair.Pair.{Pair}
use Rattle.cmd_streams.specs.declared.status.Status.{Status}
use Rattle.cmd_streams.specs.declared.status.Status.TheVariants.{NoMemory}
use Rattle.cmd_streams.specs.Told.{StreamsTold, IsNoted}
use Rattle.station_cmd.specs.Files.{HasNoStation, IsFileOf}
use Rattle.station_file.specs.Station.{Station}
use Rattle.station_streams.specs.Ends.{TellerEnds}
use Rattle.station_run.specs.Living.{IsSent, IsSentToEnd}
use Rattle.station_run.specs.Typing.{IsTried, IsTriedToEnd}

-- nothing was read or written, and no clock was asked
pub record IsUntouched (moments moments' : Option (List ℕ)) (before after : StreamsTold) : Type 0 where
  pub left : after.left ≡ before.left
  pub reads : after.reads ≡ before.reads
  pub read_faults : after.read_faults ≡ before.read_faults
  pub written : after.written ≡ before.written
  pub write_faults : after.write_faults ≡ before.write_faults
  pub timeless : moments' ≡ moments

-- a file wasn't read, or is the one of no station: only that is noted
abbrev pub LacksStation : List ℕ → Option (List ℕ) → Option (List ℕ) → StreamsTold → StreamsTold → Status → Type 0
LacksStation path moments moments' before after status =
    HasNoStation path status (after ≡ before) (IsNoted before after) × IsUntouched moments moments' before after

-- there was no memory for the station: nothing was noted either
pub record IsStarved (moments moments' : Option (List ℕ)) (before after : StreamsTold) (status : Status) : Type 0 where
  pub starved : status ≡ NoMemory
  pub same : after ≡ before
  pub timeless : moments' ≡ moments

-- `run` of a file, at most 4,096 bytes read at a time: some file of a station was read, and that station lived on the stream
abbrev pub RunEnds : List ℕ → Pair → Option (List ℕ) → Option (List ℕ) → StreamsTold → StreamsTold → Status → Type 0
RunEnds path pair moments moments' before after status =
    LacksStation path moments moments' before after status
    ⊎ ((file : Station) × IsFileOf file
    × (IsStarved moments moments' before after status
    ⊎ TellerEnds 4096 (IsSent pair file) (IsSentToEnd pair file) moments moments' before after status))

-- `try` of files: as many files of stations were read, and those were tried on what was typed
abbrev pub TryEnds : List (List ℕ) → Option (List ℕ) → Option (List ℕ) → StreamsTold → StreamsTold → Status → Type 0
TryEnds paths moments moments' before after status =
    ((path : List ℕ) × Contains paths path × LacksStation path moments moments' before after status)
    ⊎ (IsStarved moments moments' before after status
    ⊎ ((files : List Station) × AllByRecursion IsFileOf files × (length files ≡ length paths)
    × (TellerEnds 4096 (IsTried files) (IsTriedToEnd files) moments moments' before after status)))
