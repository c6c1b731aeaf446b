-- What a node's own functions make of bytes: a word for their clauses, which no public clause cites.
use Rattle.std.specs.Prelude.{ℕ, ◌≡◌, ◌++◌, List}
use Rattle.kiss_framing.specs.Stream.{Item, items}
use Rattle.node_core.specs.declared.station.Station.{Station}
use Rattle.node_core.specs.Going.{StationGoes}
use Rattle.node_core.specs.Inputs.{after_items}

-- what a station makes of bytes that come behind a stream: it takes the items that they complete
pub record Takes (now : ℕ) (old new : Station) (stream bytes : List ℕ) : Type 0 where
  pub given : List Item
  pub adds : items (stream ++ bytes) ≡ items stream ++ given
  pub taken : StationGoes (after_items now given) old new
