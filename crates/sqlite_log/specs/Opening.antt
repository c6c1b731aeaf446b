-- What an opening finds, and why it is refused.
use Rattle.std.specs.Prelude.{◌≡◌, List, []}
use Rattle.mail_records.specs.declared.record.Record.{Record}
use Rattle.mail_records.specs.declared.log_failed.LogFailed.TheVariants.{Memory, Disk}
use Rattle.mail_records.specs.Logs.{HasCause}
use Rattle.sqlite.specs.declared.error.Error.{Error}
use Rattle.sqlite.specs.declared.error.Error.TheVariants.{SqliteFailure}
use Rattle.sqlite.specs.declared.error.ErrorCode.TheVariants as code
use Rattle.sqlite.specs.Order.{Row}
use Rattle.sqlite.specs.State.{State, Shown}
use Rattle.sqlite_log.specs.declared.open_failed.OpenFailed.{OpenFailed}
use Rattle.sqlite_log.specs.declared.open_failed.OpenFailed.TheVariants.{CannotOpen, Busy, NoDatabase, Foreign, Log}
use Rattle.sqlite_log.specs.Table.{log_schema, select_text}
use Rattle.sqlite_log.specs.Reading.{AreReadAs}
use Rattle.sqlite_log.specs.Held.{Holds}

-- the log has these records, and these are told
pub record HasOpened (s : State) (kept told : List Record) : Type 0 where
  pub holds : Holds s kept
  pub tells : told ≡ kept

-- the table of a log stands there alone, and all its rows are read as these records
pub record IsRead (old new : State) (told : List Record) : Type 0 where
  pub schema : old.now.schema ≡ log_schema
  pub rows : List Row
  pub shown : Shown select_text [] old new rows
  pub read : AreReadAs 1 rows told

-- A log with these records isn't refused for what it has.
abbrev pub HasOpenCause : State → State → List Record → OpenFailed → Type 0
HasOpenCause old new kept CannotOpen = ⊥
HasOpenCause old new kept Busy = ⊥
HasOpenCause old new kept NoDatabase = ⊥
HasOpenCause old new kept Foreign = ⊥
HasOpenCause old new kept (Log why) = HasCause old.faults new.faults kept why

-- what is told where the files weren't opened
abbrev pub unopened_for : Error → OpenFailed
unopened_for (SqliteFailure code.OutOfMemory) = Log Memory
unopened_for (SqliteFailure code.CannotOpen) = CannotOpen
unopened_for (SqliteFailure code.DatabaseBusy) = Busy
unopened_for (SqliteFailure code.NotADatabase) = NoDatabase
unopened_for (SqliteFailure code.DatabaseCorrupt) = NoDatabase
unopened_for _ = Log Disk
