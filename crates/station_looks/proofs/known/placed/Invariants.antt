use Rattle.std.proofs.Common.{◌≡◌, drop}
use Rattle.station_prompt.specs.Asked as asks
use Rattle.station_looks.specs.Rows as rows
use Rattle.station_looks.proofs.known.placed.Given as goal

abbrev pub invariant-loop-known : goal.invariant-loop-known
invariant-loop-known l =
    rows.all_placed l.placed.keys (rows.asked_for (asks.nodes_asked l.asked) (drop l.known-index l.all))
    ≡ rows.in_order (rows.asked_for (asks.nodes_asked l.asked) l.all)
