-- What holds of all frames.
use Rattle.std.specs.Prelude.{ℕ, List}
use Rattle.ax_address.specs.Callsign.{Callsign, IsCallsign}
use Rattle.ax_frame.specs.Frames.{Frame, Spells}
use Rattle.station_ports.specs.Readdressed.{with_call_at, frame_to, frame_from}

-- octets that spell a frame spell the same one to another call, once that call stands in the first address
abbrev pub SpellsWithDest : Type 0
SpellsWithDest =
    (size : ℕ) (f : Frame) (octets : List ℕ) (c : Callsign) → IsCallsign c.letters c.ssid → Spells size f octets
    → Spells size (frame_to c f) (with_call_at 0 c octets)

-- and from another call, once it stands in the second one
abbrev pub SpellsWithSource : Type 0
SpellsWithSource =
    (size : ℕ) (f : Frame) (octets : List ℕ) (c : Callsign) → IsCallsign c.letters c.ssid → Spells size f octets
    → Spells size (frame_from c f) (with_call_at 7 c octets)
