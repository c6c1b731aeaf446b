-- A station as it starts, by its file. Own profile.
use Rattle.std.specs.Prelude.{ℕ, ◌≡◌, ◌*◌, is_some, length, List, map, Option, Some, None, Bool, string_bytes, if◌then◌else◌}
use Rattle.circuit_l4.specs.declared.pair.Pair.{Pair}
use Rattle.station.specs.Standing.{Kept, StationStand}
use Rattle.station.specs.States.{new_state}
use Rattle.station_file.specs.Station.{Station}
use Rattle.station_file.specs.declared.ports.Port.{Port}
use Rattle.station_looks.specs.declared.about.About.{About}
use Rattle.station_settings.specs.Starting.{start_of}
use Rattle.station_users.specs.States as users

abbrev pub names_of : List Port → List (List ℕ)
names_of ports = map (λ (p : Port). p.name) ports

-- the post stands behind the other members
abbrev pub post_place : ℕ → Bool → Option ℕ
post_place members has_post = if has_post then Some members else None

-- this is what the operator says of a station to its users, in its file; times in milliseconds
pub record IsAbout (f : Station) (who : About) : Type 0 where
  pub name : who.name.items ≡ f.name
  pub info : who.info.items ≡ f.info
  pub ports : map (λ s. string_bytes s) who.ports.items ≡ names_of f.ports
  pub idle : who.idle ≡ f.idle * 1000
  pub post : who.post ≡ post_place (length f.members) (is_some f.post)

-- the station is the one of that file as it starts; each of its members gives this pair first
abbrev pub Starts : Pair → Station → Kept → Type 0
Starts pair f station = (who : About) × IsAbout f who × StationStand station (new_state (users.new_state who (start_of pair f)))
