-- Stations that hear each other, in virtual time: the state of a trial, and its steps. Own profile.
use Rattle.std.specs.Prelude.{ℕ, zero, suc, ◌+◌, ◌-◌, ◌^◌, ◌++◌, min, nat_lt, List, [], ◌∷◌, length, slice_get, Option, Some, None, if◌then◌else◌}
use Rattle.std.specs.Option.{option_map}
use Rattle.ax_address.specs.Callsign.{Callsign}
use Rattle.radio_base.specs.declared.moment.Moment.{Moment}
use Rattle.station_users.specs.Consoles.{is_open}
use Rattle.station_file.specs.declared.ports.Port.{Port}
use Rattle.station_screen.specs.Screens.{end_line, taken}
use Rattle.station_trial.specs.declared.air.Flight.{Flight}
use Rattle.station_trial.specs.Gifts.{All, Dealt, Gift, Open, Over, Tick, To, Typed}
use Rattle.station_trial.specs.Outlets.{OutletState, at_shown, landed, new_outlet}
use Rattle.station_trial.specs.Stations.{TriedState, all_gave, all_put}

pub record TrialState : Type 0 where
  pub tried : List TriedState
  pub outlet : OutletState
  pub now : ℕ  -- in milliseconds
  pub at : ℕ  -- the place of the station at whose console is typed

-- these stations have just started
abbrev pub new_trial : List TriedState → TrialState
new_trial tried = record { tried = tried; outlet = new_outlet (nat_lt 1 (length tried)); now = 0; at = 0 }

abbrev pub moment_of : TrialState → Moment
moment_of s = record { 0 = s.now }

abbrev pub at_outlet : (OutletState → OutletState) → TrialState → TrialState
at_outlet step s = record s { outlet = step s.outlet }

-- each station is given what it is dealt, and what it puts out goes, one after another
abbrev pub deal : Dealt → TrialState → TrialState
deal dealt s =
    record s { tried = all_gave dealt (moment_of s) 0 s.tried; outlet = all_put dealt (moment_of s) 0 s.tried s.outlet }

-- the station at a place is given this
abbrev pub give : ℕ → Gift → TrialState → TrialState
give at gift s = deal (To at gift) s

-- so many milliseconds go by
abbrev pub later : ℕ → TrialState → TrialState
later ms s = record s { now = min (s.now + ms) (2 ^ 64 - 1) }

abbrev pub pass : ℕ → TrialState → TrialState
pass ms s = deal (All Tick) (later ms s)

-- ---- the air

abbrev pub name_at : Option Port → Option (List ℕ)
name_at port = option_map (λ (p : Port). p.name) port

abbrev pub name_by : Option TriedState → ℕ → Option (List ℕ)
name_by None port = None
name_by (Some t) port = name_at (slice_get t.file.ports port)

-- the name of the port on which a frame goes
abbrev pub name_of : Flight → List TriedState → Option (List ℕ)
name_of flight ts = name_by (slice_get ts flight.«from») flight.frame.port

abbrev pub deliver_on : Option (List ℕ) → Flight → TrialState → TrialState
deliver_on None flight s = s
deliver_on (Some name) flight s = deal (Over flight.«from» name flight.frame.octets) s

-- a frame is heard at each other station that has a port of its port's name
abbrev pub deliver : Flight → TrialState → TrialState
deliver flight s = deliver_on (name_of flight s.tried) flight s

abbrev pub first_flight : TrialState → Option Flight
first_flight s = slice_get s.outlet.flights 0

-- the frames in the air are heard, one after another, and those that come of them, so many at most
abbrev pub clear_by : Option Flight → (TrialState → TrialState) → TrialState → TrialState
clear_by None later s = at_outlet landed s
clear_by (Some flight) later s = later (deliver flight (at_outlet landed s))

abbrev pub clear : ℕ → TrialState → TrialState
clear zero s = s
clear (suc left) s = clear_by (first_flight s) (clear left) s

unfoldable pub clear_air : TrialState → TrialState
clear_air s = clear 1000000 s

-- ---- a line

-- before each line the air is emptied, a second goes by, and the air is emptied again
abbrev pub begin_line : TrialState → TrialState
begin_line s = clear_air (pass 1000 (clear_air s))

abbrev pub open_as : Option Callsign → TrialState → TrialState
open_as None s = s
open_as (Some call) s = give s.at (Open call) s

abbrev pub need_console_of : Option TriedState → TrialState → TrialState
need_console_of None s = s
need_console_of (Some t) s = if is_open 0 t.station.users then s else open_as t.call s

-- the console at which is typed is open
abbrev pub need_console : TrialState → TrialState
need_console s = need_console_of (slice_get s.tried s.at) s

-- a line is typed, with a CR at its end
abbrev pub type_line : List ℕ → TrialState → TrialState
type_line line s = give s.at (Typed (line ++ 13 ∷ [])) (need_console s)

-- ---- the screen

-- the line that is open is ended
abbrev pub end_screen : TrialState → TrialState
end_screen s = at_outlet (at_shown end_line) s

-- what was shown is taken
abbrev pub take_text : TrialState → TrialState
take_text s = at_outlet (at_shown taken) s
