-- A log in memory.
use Rattle.std.specs.Prelude.{◌≡◌, ℕ, false, if◌then◌else◌, List, Option}
use Rattle.mail_records.specs.declared.record.Record.{Record}
use Rattle.mail_records.specs.declared.memory_log.Failure.{Failure}
use Rattle.mail_records.specs.declared.memory_log.MemoryLog.{MemoryLog}

abbrev pub memory_records : MemoryLog → List Record
memory_records log = log.records.items

-- when it will fail
abbrev pub memory_failure : MemoryLog → Option Failure
memory_failure log = log.failure

abbrev pub IsMemoryOpen : MemoryLog → Type 0
IsMemoryOpen log = log.is_shut ≡ false

-- it fails once
abbrev pub memory_faults : MemoryLog → ℕ
memory_faults log = if log.is_shut then 1 else 0

pub record HoldsInMemory (log : MemoryLog) (kept : List Record) : Type 0 where
  pub is_open : IsMemoryOpen log
  pub records : kept ≡ memory_records log
