-- How the stations of a trial start, and start again. Own profile.
use Rattle.std.specs.Prelude.{ℕ, ◌≡◌, ◌+◌, ◌-◌, ◌^◌, ◌%◌, min, is_some, List, [], ◌∷◌, Bool, Option, Some, None, if◌then◌else◌}
use Rattle.ax_address.specs.Callsign.{Callsign}
use Rattle.circuit_l4.specs.declared.pair.Pair.{Pair}
use Rattle.station.specs.States.{StationState, members_of, new_state}
use Rattle.station_file.specs.Station.{Station}
use Rattle.station_file.specs.declared.nodes.Member.{Member}
use Rattle.station_looks.specs.declared.about.About.{About}
use Rattle.station_members.specs.Looks.{place_of}
use Rattle.station_settings.specs.Starting.{start_of}
use Rattle.station_start.specs.Starts.{IsAbout}
use Rattle.station_users.specs.States as users
use Rattle.station_trial.specs.Stations.{TriedState}

-- the pair that members give first, after so many restarts: from (1, 1) to (1, 255), again and again
abbrev pub pair_at : ℕ → Pair
pair_at restarts = record { index = 1; ident = restarts % 255 + 1 }

-- what the file says to users is said with these texts
abbrev pub start_at : ℕ → About → Station → StationState
start_at restarts who file = new_state (users.new_state who (start_of (pair_at restarts) file))

-- ---- the call of a console where none is named

abbrev pub with_ssid : Callsign → ℕ → Callsign
with_ssid call ssid = record call { ssid = ssid }

abbrev pub bare_unless : Bool → Callsign → Callsign
bare_unless taken call = if taken then with_ssid call 15 else with_ssid call 0

-- the first member's without SSID, or with 15 where a member has that
abbrev pub console_call : List Member → StationState → Option Callsign
console_call [] s = None
console_call (m ∷ ms) s =
    Some (bare_unless (is_some (place_of (with_ssid m.declared.call 0) (members_of s))) m.declared.call)

-- ---- starts

abbrev pub new_tried : About → Station → TriedState
new_tried who file =
    record { file = file; station = start_at 0 who file; restarts = 0; call = console_call file.members (start_at 0 who file) }

-- a station starts again, with the next pair
abbrev pub restarted : About → TriedState → TriedState
restarted who t =
    record t {
      station = start_at (min (t.restarts + 1) (2 ^ 64 - 1)) who t.file;
      restarts = min (t.restarts + 1) (2 ^ 64 - 1);
    }

-- each is the one of the file at its place as it starts
abbrev pub AllStart : List Station → List TriedState → Type 0
AllStart [] [] = Unit {0}
AllStart (file ∷ files) (t ∷ ts) = ((who : About) × IsAbout file who × (t ≡ new_tried who file)) × AllStart files ts
AllStart [] (t ∷ ts) = ⊥
AllStart (file ∷ files) [] = ⊥
