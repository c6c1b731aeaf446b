-- What stations of a trial are given, and which of them is. Own profile.
use Rattle.std.specs.Prelude.{ℕ, ◌==◌, Bool, List, Option, Some, None, map, nat_eq, position, string_bytes, if◌then◌else◌}
use Rattle.std.specs.Cmp.Lexicographic.{pointwise}
use Rattle.std.specs.Option.{option_map}
use Rattle.std.specs.Char.{to_ascii_lowercase}
use Rattle.ax_address.specs.Callsign.{Callsign}
use Rattle.radio_base.specs.declared.moment.Moment.{Moment}
use Rattle.station.specs.States as stations
use Rattle.station.specs.States.{StationState}
use Rattle.station_file.specs.Station.{Station}
use Rattle.station_file.specs.declared.ports.Port.{Port}
use Rattle.station_trial.specs.declared.given.Deal.{Deal}
use Rattle.station_trial.specs.declared.given.Deal.TheVariants as deals
use Rattle.station_trial.specs.declared.given.Given.{Given}
use Rattle.station_trial.specs.declared.given.Given.TheVariants as givens

-- a frame at a port; a tick; a round of each member; its console opens under a call; a text is typed there; the station goes down
pub data Gift : Type 0 where
  Heard : ℕ → List ℕ → Gift
  Tick : Gift
  Round : Gift
  Open : Callsign → Gift
  Typed : List ℕ → Gift
  Stop : Gift

-- with the octets that come beside it
abbrev pub gift_of : List ℕ → Given → Gift
gift_of octets (givens.Heard port) = Heard port octets
gift_of octets givens.Tick = Tick
gift_of octets givens.Round = Round
gift_of octets (givens.Open call) = Open call
gift_of octets givens.Typed = Typed octets
gift_of octets givens.Stop = Stop

-- the console at which is typed is the first
abbrev pub take_gift : Gift → Moment → StationState → StationState
take_gift (Heard port octets) now s = stations.hear port octets now s
take_gift Tick now s = stations.tick now s
take_gift Round now s = stations.round now s
take_gift (Open call) now s = stations.open_console 0 call now s
take_gift (Typed text) now s = stations.type_text 0 text now s
take_gift Stop now s = stations.stop now s

-- ---- ports by name

abbrev pub is_named : List ℕ → Port → Bool
is_named name port = pointwise nat_eq (map to_ascii_lowercase port.name) (map to_ascii_lowercase name)

-- the first port of that name, without regard to case
abbrev pub port_of_name : List ℕ → Station → Option ℕ
port_of_name name file = position (is_named name) file.ports

-- ---- who is given what

-- each station is given this; the one at a place; or those that hear a frame, which one has sent on a port of that name
pub data Dealt : Type 0 where
  All : Gift → Dealt
  To : ℕ → Gift → Dealt
  Over : ℕ → List ℕ → List ℕ → Dealt

abbrev pub dealt_by : Deal → List ℕ → Dealt
dealt_by (deals.All given) octets = All (gift_of octets given)
dealt_by (deals.To at given) octets = To at (gift_of octets given)
dealt_by (deals.Over from name) octets = Over from (string_bytes name) octets

-- what the station at that place, of that file, is given
abbrev pub gift_at : Dealt → ℕ → Station → Option Gift
gift_at (All gift) at file = Some gift
gift_at (To place gift) at file = if at == place then Some gift else None
gift_at (Over from name octets) at file =
    if at == from then None else option_map (λ port. Heard port octets) (port_of_name name file)
