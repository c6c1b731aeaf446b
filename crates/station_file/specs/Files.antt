-- What the bytes of a file say of a station, or why the file is refused. Own profile.
use Rattle.std.specs.Prelude.{◌≡◌, ℕ, ◌+◌, List, length, take, count_by, Option, Some, None, Result, Ok, Err, ◌==◌, nat_lt, if◌then◌else◌}
use Rattle.toml.specs.Data.{Members}
use Rattle.toml.specs.Errors.{span_start}
use Rattle.station_file.specs.declared.fault.Fault.{Fault}
use Rattle.station_file.specs.declared.fault.Stop.{Stop}
use Rattle.station_file.specs.declared.fault.Stop.TheVariants as stops
use Rattle.station_file.specs.declared.refusal.Refusal.{Refusal}
use Rattle.station_file.specs.declared.refusal.Refusal.TheVariants as refusals
use Rattle.station_file.specs.Lines.{document, line_of}
use Rattle.station_file.specs.Station.{Station}
use Rattle.station_file.specs.Stations.{station_of}

pub data Answer : Type 0 where
  -- the file says this of a station
  says : Station → Answer
  -- it has so many bytes
  too_long : ℕ → Answer
  -- it is no UTF-8, or no TOML
  not_toml : Answer
  -- this is wrong, on that line
  refused : ℕ → Fault → Answer

abbrev pub by_tables : List ℕ → Result Station Fault → Answer
by_tables bytes (Ok station) = says station
by_tables bytes (Err fault) = refused (line_of bytes fault) fault

abbrev pub station_in : List ℕ → Option Members → Answer
station_in bytes None = not_toml
station_in bytes (Some ms) = by_tables bytes (station_of ms)

-- a file has at most 65,536 bytes
abbrev pub station_at : List ℕ → Answer
station_at bytes = if nat_lt 65536 (length bytes) then too_long (length bytes) else station_in bytes (document bytes)

-- the number of the line of a byte
abbrev pub line_at : List ℕ → ℕ → ℕ
line_at bytes at = count_by (λ b. b == 10) (take at bytes) + 1

-- A refusal tells what the definition says, unless memory ran out. What is no TOML is told with the line of the place that `toml` names.
abbrev pub ReadAs : List ℕ → Refusal → Answer → Type 0
ReadAs bytes refusals.NoMemory a = Unit {0}
ReadAs bytes (refusals.TooLong count) a = a ≡ too_long count
ReadAs bytes (refusals.NotToml line error) a = (a ≡ not_toml) × (line ≡ line_at bytes (span_start error))
ReadAs bytes (refusals.Fault line fault) a = a ≡ refused line fault

-- what a reader of the tables stopped for
abbrev pub StoppedAs : List ℕ → Stop → Refusal → Type 0
StoppedAs bytes stops.NoMemory r = Unit {0}
StoppedAs bytes (stops.Refused fault) r = ReadAs bytes r (refused (line_of bytes fault) fault)
