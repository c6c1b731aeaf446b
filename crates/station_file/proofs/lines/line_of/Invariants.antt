use Rattle.std.proofs.Common.{◌≡◌, ◌≤◌, drop}
use Rattle.station_file.specs.Lines.{placing_from, start}
use Rattle.station_file.proofs.lines.line_of.Given as goal

abbrev pub invariant-loop-at : goal.invariant-loop-at
invariant-loop-at l =
    (placing_from l.fault l.text l.at l.placing (drop l.at l.text) ≡ placing_from l.fault l.text 0 start l.text) × (l.placing.lines ≤ l.at)
