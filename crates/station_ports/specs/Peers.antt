-- Who speaks to a member by its alias. Own profile.
use Rattle.std.specs.Prelude.{List, [], ◌∷◌, ◌++◌, filter, not, Bool}
use Rattle.std.specs.List.{list_any}
use Rattle.ax_address.specs.Callsign.{Callsign, same_call}
use Rattle.station_ports.specs.Lasts.{last}

abbrev pub is_peer : Callsign → List Callsign → Bool
is_peer peer peers = list_any (λ one. same_call one peer) peers

abbrev pub without : Callsign → List Callsign → List Callsign
without peer peers = filter (λ one. not (same_call one peer)) peers

-- the peer last, behind the last 63 others
abbrev pub with_peer : Callsign → List Callsign → List Callsign
with_peer peer peers = last 63 (without peer peers) ++ peer ∷ []
