-- The ports of a station, and the frames that go there. Own profile.
use Rattle.std.specs.Prelude.{ℕ, ◌+◌, ◌-◌, ◌^◌, min, List, [], ◌∷◌, ◌++◌, replicate, drop, slice_get, unwrap_or}
use Rattle.std.specs.Option.{option_map}
use Rattle.radio_base.specs.declared.moment.Moment.{Moment}
use Rattle.ax_address.specs.Callsign.{Callsign}
use Rattle.station_ports.specs.Hearing as hearing
use Rattle.station_ports.specs.declared.heard_list.Heard.{Heard}
use Rattle.station_ports.specs.declared.port_frame.PortFrame.{PortFrame}
use Rattle.station_members.specs.declared.ports.Port.{Port}
use Rattle.station_members.specs.declared.ports.Ports as code
use Rattle.station_members.specs.Places.{at_place}

-- the ports, and the frames that wait to be fetched
pub record Air : Type 0 where
  pub ports : List Port
  pub frames : List PortFrame

abbrev pub air_of : code.Ports → Air
air_of p = record { ports = p.ports.items; frames = p.frames.items }

abbrev pub silent : ℕ → List Port
silent count = replicate count (record { heard = []; came = 0; went = 0 })

abbrev pub new_air : ℕ → Air
new_air count = record { ports = silent count; frames = [] }

-- a count stands still at 2^64 - 1
abbrev pub one_more : ℕ → ℕ
one_more count = min (count + 1) (2 ^ 64 - 1)

abbrev pub hears : Callsign → Moment → Port → Port
hears hop now p = record p { heard = hearing.noted hop now p.heard; came = one_more p.came }

abbrev pub noted_at : ℕ → Callsign → Moment → List Port → List Port
noted_at port hop now ports = at_place port (hears hop now) ports

-- a frame came at a port, in which this call was heard
abbrev pub noted : ℕ → Callsign → Moment → Air → Air
noted port hop now air = record air { ports = noted_at port hop now air.ports }

abbrev pub counts : Port → Port
counts p = record p { went = one_more p.went }

abbrev pub counted_at : ℕ → List Port → List Port
counted_at at ports = at_place at counts ports

-- a frame goes
abbrev pub put : PortFrame → Air → Air
put frame air = record { ports = counted_at frame.port air.ports; frames = air.frames ++ frame ∷ [] }

-- the frame that has waited longest was fetched
abbrev pub fetched : Air → Air
fetched air = record air { frames = drop 1 air.frames }

abbrev pub heard_at : ℕ → Air → List Heard
heard_at port air = unwrap_or (option_map (λ (p : Port). p.heard) (slice_get air.ports port)) []

abbrev pub came_at : ℕ → Air → ℕ
came_at port air = unwrap_or (option_map (λ (p : Port). p.came) (slice_get air.ports port)) 0

abbrev pub went_at : ℕ → Air → ℕ
went_at port air = unwrap_or (option_map (λ (p : Port). p.went) (slice_get air.ports port)) 0
