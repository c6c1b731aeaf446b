-- Beacons (AX.25 2.2, section 4.3.3.6; when they go is this project's profile).
use Rattle.std.specs.Prelude.{ℕ, ◌+◌, ◌-◌, ◌^◌, ◌||◌, min, nat_le, is_none, Bool}
use Rattle.std.specs.Prelude.{true, false, List, [], map, filter, Option, Some, None, if◌then◌else◌}
use Rattle.ax_address.specs.Octets.{address_of}
use Rattle.ax_frame.specs.declared.control.Control.TheVariants.{Ui}
use Rattle.ax_frame.specs.Frames.{Frame, frame, frame_octets}
use Rattle.station_ports.specs.declared.port_frame.PortFrame.{PortFrame}
use Rattle.station_members.specs.declared.beacons.Beacon.{Beacon}
use Rattle.station_members.specs.declared.config.BeaconConfig.{BeaconConfig}

-- a UI command without repeaters, with the PID of text without a layer 3
abbrev pub beacon_frame : BeaconConfig → Frame
beacon_frame c =
    frame (record { dest = address_of c.to true; source = address_of c.from false; path = record { items = [] } })
    (Ui false) (Some 0xF0) c.text.now

abbrev pub octets_of : BeaconConfig → List ℕ
octets_of c = frame_octets 8 (beacon_frame c)

abbrev pub new_beacon : BeaconConfig → Beacon
new_beacon c = record { port = c.port; octets = octets_of c; every = c.every; due = None }

abbrev pub is_past : ℕ → Option ℕ → Bool
is_past now (Some due) = nat_le due now
is_past now None = false

abbrev pub is_due : ℕ → Beacon → Bool
is_due now b = is_past now b.due

abbrev pub frame_of : Beacon → PortFrame
frame_of b = record { port = b.port; octets = b.octets; is_extended = false }

-- from the first tick on it is due so much later, and then again
abbrev pub ticked : ℕ → Beacon → Beacon
ticked now b =
    if is_none b.due || is_due now b then record b { due = Some (min (now + b.every) (2 ^ 64 - 1)) } else b

-- the frames of those that are due, in order
abbrev pub due_frames : ℕ → List Beacon → List PortFrame
due_frames now beacons = map frame_of (filter (is_due now) beacons)
