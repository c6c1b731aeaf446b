use Rattle.std.proofs.Common.{◌≡◌, take}
use Rattle.sqlite_log.specs.Reading.{AreReadAs}
use Rattle.sqlite_log.proofs.reading.records_in.Given as goal

abbrev pub invariant-loop-row : goal.invariant-loop-row
invariant-loop-row l = record { read : AreReadAs 1 (take l.row-index l.found) l.records.items; place : l.place ≡ l.row-index }
