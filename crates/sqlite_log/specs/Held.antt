-- What a connection holds of a log, and what is answered of an error of the database.
use Rattle.std.specs.Prelude.{◌≡◌, ℕ, false, List, [], map, None, Result, Ok, Err, IsTrue}
use Rattle.std.specs.List.{AllByRecursion}
use Rattle.mail_records.specs.declared.record.Record.{Record}
use Rattle.mail_records.specs.declared.log_failed.LogFailed.{LogFailed}
use Rattle.mail_records.specs.declared.log_failed.LogFailed.TheVariants.{Memory, Disk, Full}
use Rattle.sqlite.specs.declared.error.Error.{Error}
use Rattle.sqlite.specs.declared.error.Error.TheVariants.{SqliteFailure}
use Rattle.sqlite.specs.declared.error.ErrorCode.TheVariants as code
use Rattle.sqlite.specs.Order.{Row}
use Rattle.sqlite.specs.Tree.{Trees}
use Rattle.sqlite.specs.State.{State, Executes, FailsToQuery}
use Rattle.sqlite_catalog.specs.Listing.{IsSound}
use Rattle.sqlite_log.specs.Table.{log_schema, values_of, insert_text, select_text, shown_from, projected}
use Rattle.sqlite_log.specs.Reading.{IsReadable}

-- the database has the table and nothing else, with these records, numbered from 1
pub record StandsFor (db : Trees) (kept : List Record) : Type 0 where
  pub sound : IsSound log_schema db
  pub rows : map projected (db 0) ≡ shown_from 1 kept
  pub readable : AllByRecursion IsReadable kept

-- it is open, has committed these records, and no statement is limited
pub record Holds (s : State) (kept : List Record) : Type 0 where
  pub is_open : IsTrue s.is_open
  pub autocommit : s.in_transaction ≡ false
  pub unlimited : s.step_limit ≡ None
  pub schema : s.now.schema ≡ log_schema
  pub stands : StandsFor s.now.trees kept
  pub committed : s.committed ≡ s.now

-- what an open after a crash may find
abbrev pub MayFind : State → List Record → Type 0
MayFind s found = (db : Trees) × s.may_leave db × StandsFor db found

-- what is answered of an error of the database
abbrev pub reason_of : Error → LogFailed
reason_of (SqliteFailure code.OutOfMemory) = Memory
reason_of (SqliteFailure code.NoRowid) = Full
reason_of _ = Disk

-- the insert ran with these values, or failed
abbrev pub Inserted : Row → State → State → Result (Unit {0}) LogFailed → Type 0
Inserted values old new (Ok _) = (count : ℕ) × Executes insert_text values old new (Ok count)
Inserted values old new (Err why) =
    (error : Error) × (why ≡ reason_of error) × Executes insert_text values old new (Err error)

-- so of a record
abbrev pub Wrote : Record → State → State → Result (Unit {0}) LogFailed → Type 0
Wrote entry = Inserted (values_of entry)

-- the query failed
abbrev pub FailsToSelect : State → State → LogFailed → Type 0
FailsToSelect old new why = (error : Error) × (why ≡ reason_of error) × FailsToQuery select_text [] old new error
