use Rattle.std.proofs.Common.{◌≡◌, length}
use Rattle.std.specs.List.{AllByRecursion}
use Rattle.station_cmd.specs.Files.{IsFileOf}
use Rattle.station_run.proofs.tries.read_files.Given as goal

-- the files so far have stations, and nothing was noted
abbrev pub invariant-loop-path : goal.invariant-loop-path
invariant-loop-path g l = record {
  read : AllByRecursion IsFileOf l.files.items;
  many : length l.files.items ≡ l.path-index;
  same : l.notes ≡ l.fn.notes;
}
