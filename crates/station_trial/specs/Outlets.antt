-- Where what stations put out goes: to the screen and into the air. Own profile.
use Rattle.std.specs.Prelude.{ℕ, ◌-◌, ◌++◌, nat_lt, Bool, false, List, [], ◌∷◌, drop, if◌then◌else◌}
use Rattle.station.specs.declared.station_out.StationOut.{StationOut}
use Rattle.station.specs.declared.station_out.StationOut.TheVariants as out
use Rattle.station_places.specs.declared.console_outs.ConsoleOut.{ConsoleOut}
use Rattle.station_places.specs.declared.console_outs.ConsoleOut.TheVariants as console
use Rattle.station_ports.specs.declared.port_frame.PortFrame.{PortFrame}
use Rattle.station_screen.specs.Screens as screens
use Rattle.station_screen.specs.Screens.{Shown, new_shown}
use Rattle.station_trial.specs.declared.air.Flight.{Flight}

pub record OutletState : Type 0 where
  pub shown : Shown
  pub flights : List Flight  -- the frames in the air, the oldest first
  pub lose : ℕ  -- so many that go next are lost
  pub shows_frames : Bool

-- there are several stations, or one
abbrev pub new_outlet : Bool → OutletState
new_outlet numbers = record { shown = new_shown numbers; flights = []; lose = 0; shows_frames = false }

abbrev pub at_shown : (Shown → Shown) → OutletState → OutletState
at_shown step o = record o { shown = step o.shown }

abbrev pub flight_of : ℕ → PortFrame → Flight
flight_of at frame = record { «from» = at; frame = frame }

-- a frame goes, and is lost or in the air
abbrev pub fly : ℕ → PortFrame → OutletState → OutletState
fly at frame o =
    if nat_lt 0 o.lose then record o { lose = o.lose - 1 } else record o { flights = o.flights ++ flight_of at frame ∷ [] }

abbrev pub show_frame : ℕ → PortFrame → OutletState → OutletState
show_frame at frame o = if o.shows_frames then at_shown (screens.show at frame) o else o

abbrev pub put_frame : ℕ → PortFrame → OutletState → OutletState
put_frame at frame o = fly at frame (show_frame at frame o)

-- the end of a console isn't shown
abbrev pub put_told : ℕ → ConsoleOut → OutletState → OutletState
put_told at (console.Text number text) o = at_shown (screens.tell at text) o
put_told at (console.Closed number) o = o

abbrev pub put : ℕ → StationOut → OutletState → OutletState
put at (out.Frame frame) o = put_frame at frame o
put at (out.Console told) o = put_told at told o

-- what the station at a place has put out
abbrev pub put_all : ℕ → List StationOut → OutletState → OutletState
put_all at [] o = o
put_all at (x ∷ xs) o = put_all at xs (put at x o)

-- the oldest frame leaves the air
abbrev pub landed : OutletState → OutletState
landed o = record o { flights = drop 1 o.flights }
