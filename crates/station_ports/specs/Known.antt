-- By which port a member reaches a call. Own profile.
use Rattle.std.specs.Prelude.{ℕ, List, [], ◌∷◌, ◌++◌, Option}
use Rattle.std.specs.Map.{lookup, remove_entry}
use Rattle.ax_address.specs.Callsign.{Callsign, same_call}
use Rattle.station_ports.specs.Lasts.{last}

-- the port by which a call is reached
abbrev pub port_of : Callsign → List (Callsign × ℕ) → Option ℕ
port_of call known = lookup (same_call call) known

-- the call last, with this port, behind the last 255 others
abbrev pub remembered : Callsign → ℕ → List (Callsign × ℕ) → List (Callsign × ℕ)
remembered call port known = last 255 (remove_entry (same_call call) known) ++ (call, port) ∷ []
