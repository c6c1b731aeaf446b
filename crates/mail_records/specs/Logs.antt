-- Why a log answers an error. Own profile.
use Rattle.std.specs.Prelude.{ℕ, ◌≤◌, ◌+◌, ◌-◌, ◌^◌, min, List, length}
use Rattle.mail_records.specs.declared.record.Record.{Record}
use Rattle.mail_records.specs.declared.log_failed.LogFailed.{LogFailed}
use Rattle.mail_records.specs.declared.log_failed.LogFailed.TheVariants.{Memory, Disk, Full, Spoilt}

-- The count has gone up, or is at its end.
abbrev pub MoreFaults : ℕ → ℕ → Type 0
MoreFaults old new = min (old + 1) (2 ^ 64 - 1) ≤ new

-- Why a log with these records answers an error. That there is no memory needs no cause, and a record isn't found spoilt.
abbrev pub HasCause : ℕ → ℕ → List Record → LogFailed → Type 0
HasCause old new kept Memory = Unit {0}
HasCause old new kept Disk = MoreFaults old new
HasCause old new kept Full = 2 ^ 63 - 1 ≤ length kept
HasCause old new kept (Spoilt place) = ⊥
