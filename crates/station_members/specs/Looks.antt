-- What the members of a station show. Own profile.
use Rattle.std.specs.Prelude.{ℕ, List, slice_get, Option, Some, None}
use Rattle.std.specs.Option.{option_map}
use Rattle.ax_address.specs.declared.alias.Alias.{Alias}
use Rattle.ax_address.specs.Callsign.{Callsign}
use Rattle.node_core.specs.Standing.{Kept, NodeStands}
use Rattle.node_model.specs.States.{NodeState}
use Rattle.station_ports.specs.declared.heard_list.Heard.{Heard}
use Rattle.station_members.specs.declared.config.MemberRules.{MemberRules}
use Rattle.station_members.specs.declared.seat.Seat.{Seat}
use Rattle.station_members.specs.Ports as ports
use Rattle.station_members.specs.Routing.{known_port}
use Rattle.station_members.specs.States.{State}
use Rattle.station_members.specs.Telling as telling

-- a node that is lent stands for the state
abbrev pub LentStands : Option Kept → Option NodeState → Type 0
LentStands None None = Unit {0}
LentStands None (Some n) = ⊥
LentStands (Some k) None = ⊥
LentStands (Some k) (Some n) = NodeStands k n

abbrev pub seat_at : ℕ → State → Option Seat
seat_at at s = slice_get s.desk.seats at

abbrev pub call_at : ℕ → State → Option Callsign
call_at at s = option_map (λ (seat : Seat). seat.call) (seat_at at s)

abbrev pub alias_at : ℕ → State → Option Alias
alias_at at s = option_map (λ (seat : Seat). seat.alias) (seat_at at s)

abbrev pub rules_at : ℕ → State → Option MemberRules
rules_at at s = option_map (λ (seat : Seat). seat.rules) (seat_at at s)

-- the port by which the member at a place reaches a call
abbrev pub port_of : ℕ → Callsign → State → Option ℕ
port_of at call s = known_port at call s.desk

abbrev pub place_of : Callsign → State → Option ℕ
place_of call s = telling.place_of call s.desk.seats

abbrev pub heard_at : ℕ → State → List Heard
heard_at port s = ports.heard_at port s.desk.air

abbrev pub came_at : ℕ → State → ℕ
came_at port s = ports.came_at port s.desk.air

abbrev pub went_at : ℕ → State → ℕ
went_at port s = ports.went_at port s.desk.air
