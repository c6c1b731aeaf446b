-- What a member is beside its node. Own profile.
use Rattle.std.specs.Prelude.{ℕ, ◌+◌, ◌-◌, ◌^◌, ◌==◌, ◌&&◌, min, nat_eq, nat_le}
use Rattle.std.specs.Prelude.{nat_lt, length, Bool, false, List, [], Option, Some, None, if◌then◌else◌}
use Rattle.std.specs.List.{list_all, list_any}
use Rattle.std.specs.Cmp.Lexicographic.{pointwise}
use Rattle.ax_address.specs.Callsign.{Callsign, is_call_char, name_in, padded, same_call}
use Rattle.ax_address.specs.declared.alias.Alias.{Alias}
use Rattle.node_core.specs.declared.config.NodeConfig.{NodeConfig}
use Rattle.station_ports.specs.Known.{remembered}
use Rattle.station_ports.specs.Peers as peers
use Rattle.station_members.specs.declared.config.MemberRules.{MemberRules}
use Rattle.station_members.specs.declared.seat.FirstRound.{FirstRound}
use Rattle.station_members.specs.declared.seat.FirstRound.TheVariants.{After, Due, Done}
use Rattle.station_members.specs.declared.seat.Seat.{Seat}

-- six characters are those of a call: letters and digits, at least one, with spaces behind them (AX.25 2.2, section 3.12)
abbrev pub is_name : List ℕ → Bool
is_name letters =
    nat_lt 0 (length (name_in letters)) && (nat_le (length (name_in letters)) 6
    && (list_all is_call_char (name_in letters) && pointwise nat_eq letters (padded (name_in letters))))

-- an alias as a call without SSID, where it is one
abbrev pub named : Alias → Option Callsign
named alias = if is_name alias then Some (record { letters = alias; ssid = 0 }) else None

abbrev pub unless_own : Callsign → Option Callsign → Option Callsign
unless_own call None = None
unless_own call (Some name) = if same_call name call then None else Some name

-- and not the member's own
abbrev pub byname : Callsign → Alias → Option Callsign
byname call alias = unless_own call (named alias)

abbrev pub first_round : ℕ → ℕ → FirstRound
first_round interval first = if interval == 0 then Done else After first

abbrev pub new_seat : NodeConfig → MemberRules → Seat
new_seat node rules =
    record {
      call = node.call;
      alias = node.alias;
      byname = byname node.call node.alias;
      rules = rules;
      known = [];
      peers = [];
      held = [];
      first = first_round node.interval rules.first;
    }

-- the member stands on a port
abbrev pub is_on : ℕ → Seat → Bool
is_on port seat = list_any (λ p. p == port) seat.rules.ports.items

abbrev pub is_this : Callsign → Option Callsign → Bool
is_this call None = false
is_this call (Some name) = same_call name call

-- this call is its alias
abbrev pub is_byname : Callsign → Seat → Bool
is_byname call seat = is_this call seat.byname

abbrev pub remembers : Callsign → ℕ → Seat → Seat
remembers call port seat = record seat { known = remembered call port seat.known }

-- who doesn't speak to it by its alias any more
abbrev pub unnames : Callsign → Seat → Seat
unnames peer seat = record seat { peers = peers.without peer seat.peers }

-- ---- the first round: at the first tick that comes so long after the first tick

abbrev pub due_by : ℕ → FirstRound → FirstRound
due_by now (After wait) = Due (min (now + wait) (2 ^ 64 - 1))
due_by now (Due due) = Due due
due_by now Done = Done

abbrev pub is_due : ℕ → FirstRound → Bool
is_due now (Due due) = nat_le due now
is_due now (After wait) = false
is_due now Done = false

abbrev pub done_if : Bool → FirstRound → FirstRound
done_if due first = if due then Done else first

abbrev pub is_first_due : ℕ → Seat → Bool
is_first_due now seat = is_due now (due_by now seat.first)

abbrev pub ticked : ℕ → Seat → Seat
ticked now seat = record seat { first = done_if (is_first_due now seat) (due_by now seat.first) }
