-- Which status has which note.
use Rattle.std.specs.Prelude.{ℕ, List}
use Rattle.cmd_streams.specs.declared.status.Status.{Status}
use Rattle.cmd_streams.specs.declared.status.Status.TheVariants.{Usage, BadFile, ReadFault, TooLong}
use Rattle.cmd_streams.specs.Told.{read_fault_note, too_long_note}

-- P holds of the status's note, where that is the same in each command and each time
abbrev pub HasNote : Status → (List ℕ → Type 0) → Type 0
HasNote ReadFault P = P read_fault_note
HasNote TooLong P = P too_long_note
HasNote _ P = Unit {0}

-- the status has no note
abbrev pub IsSilent : Status → Type 0
IsSilent Usage = ⊥
IsSilent ReadFault = ⊥
IsSilent TooLong = ⊥
IsSilent BadFile = ⊥
IsSilent _ = Unit {0}
