-- Where users of a station are, and what they are connected with. Own profile.
use Rattle.std.specs.Prelude.{ℕ, Bool, false, nat_eq, ◌&&◌}
use Rattle.ax_address.specs.Callsign.{Callsign, same_call}
use Rattle.station_sessions.specs.declared.place.Place.{Place}
use Rattle.station_sessions.specs.declared.place.Place.TheVariants.{End, Link, Console}

abbrev pub is_end : ℕ → ℕ → Place → Bool
is_end at number (End member id) = nat_eq at member && nat_eq number id
is_end at number (Link member peer) = false
is_end at number (Console console) = false

abbrev pub is_link : ℕ → Callsign → Place → Bool
is_link at call (End member id) = false
is_link at call (Link member peer) = nat_eq at member && same_call call peer
is_link at call (Console console) = false

abbrev pub is_console : ℕ → Place → Bool
is_console number (End member id) = false
is_console number (Link member peer) = false
is_console number (Console console) = nat_eq number console

-- one place
abbrev pub is_same : Place → Place → Bool
is_same (End member id) other = is_end member id other
is_same (Link member peer) other = is_link member peer other
is_same (Console console) other = is_console console other
