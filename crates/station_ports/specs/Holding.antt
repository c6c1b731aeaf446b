-- Which frames are held back. Own profile.
use Rattle.std.specs.Prelude.{ℕ, ◌-◌, ◌==◌, ◌&&◌, List, [], ◌∷◌, ◌++◌, filter, position, remove, slice_get, slice_set, not, nat_le, Bool, Option, Some, None}
use Rattle.std.specs.Option.{option_map, option_map_or}
use Rattle.radio_base.specs.declared.moment.Moment.{Moment}
use Rattle.ax_address.specs.Callsign.{Callsign, same_call}
use Rattle.station_ports.specs.declared.held_back.Held.{Held}
use Rattle.station_ports.specs.declared.port_frame.PortFrame.{PortFrame}

-- it waits for this peer on this port
abbrev pub is_for : Callsign → ℕ → Held → Bool
is_for peer port held = same_call held.peer peer && held.frame.port == port

-- the moment of the one at a place
abbrev pub since_at : ℕ → Moment → List Held → Moment
since_at at now list = option_map_or (λ h. h.since) (slice_get list at) now

-- in the place of the one that waits, with its moment, or behind the others
abbrev pub put : Option ℕ → Callsign → PortFrame → Moment → List Held → List Held
put (Some at) peer frame now list = slice_set list at (record { peer = peer; frame = frame; since = since_at at now list })
put None peer frame now list = list ++ record { peer = peer; frame = frame; since = now } ∷ []

-- the frame takes the place of the one that waits for the same peer and port, and its moment
abbrev pub held_with : Callsign → PortFrame → Moment → List Held → List Held
held_with peer frame now list = put (position (is_for peer frame.port) list) peer frame now list

-- those that wait for others
abbrev pub without : Callsign → ℕ → List Held → List Held
without peer port list = filter (λ h. not (is_for peer port h)) list

-- it has waited so many milliseconds
abbrev pub is_due : ℕ → Moment → Held → Bool
is_due wait now held = nat_le wait (now.0 - held.since.0)

abbrev pub frame_at : Option ℕ → List Held → Option PortFrame
frame_at None list = None
frame_at (Some at) list = option_map (λ h. h.frame) (slice_get list at)

abbrev pub all_but : Option ℕ → List Held → List Held
all_but None list = list
all_but (Some at) list = remove list at

-- the first that has waited so long
abbrev pub due_frame : ℕ → Moment → List Held → Option PortFrame
due_frame wait now list = frame_at (position (is_due wait now) list) list

-- and all others
abbrev pub behind_due : ℕ → Moment → List Held → List Held
behind_due wait now list = all_but (position (is_due wait now) list) list
