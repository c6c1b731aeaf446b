-- A node's table as it is shown. Own profile.
use Rattle.std.specs.Prelude.{ℕ, List}
use Rattle.ax_address.specs.Callsign.{Callsign}
use Rattle.ax_address.specs.declared.alias.Alias.{Alias}
use Rattle.route_table.specs.declared.route.Route.{Route}

-- the node's number and names, and the routes of its table: by destination, and of each the best first
pub record Table : Type 0 where
  pub node : ℕ
  pub call : Callsign
  pub alias : Alias
  pub routes : List Route
