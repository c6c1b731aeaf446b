use Rattle.std.proofs.Common.{◌≡◌}
use Rattle.toml.specs.View.{members_view}
use Rattle.station_file.specs.Tables.{known_keys}
use Rattle.station_file.proofs.tables.know_keys.Given as goal

abbrev pub invariant-loop-key : goal.invariant-loop-key
invariant-loop-key l = known_keys l.section (members_view l.key-iterator) ≡ known_keys l.section (members_view l.table.entries)
