-- The members of a file, by what it says.
use Rattle.std.proofs.Common.{◌≡◌, ℕ, List, length}
use Rattle.std.specs.Prelude.{Option}
use Rattle.ax_address.specs.Callsign.{Callsign}
use Rattle.circuit_l4.specs.declared.pair.Pair.{Pair}
use Rattle.station_file.specs.Station.{Station}
use Rattle.station_file.specs.declared.beacons.Beacon.{Beacon}
use Rattle.station_file.specs.declared.nodes.Member.{Member}
use Rattle.station_file.specs.declared.posts.Post.{Post}
use Rattle.station_members.specs.Standing.{Kept, MembersStand}
use Rattle.station_members.specs.States.{new_state}
use Rattle.station_settings.specs.Starting.{all_set_up, start_of, with_beacons, with_members, with_post}

pub as_it_says : (k : Kept) (pair : Pair) (f : Station) (ports : ℕ) (denied : List Callsign) (members again : List Member) (post : Option Post) (beacons : List Beacon) → ports ≡ length f.ports → denied ≡ f.denied → members ≡ f.members → post ≡ f.post → again ≡ f.members → beacons ≡ f.beacons → MembersStand k (with_beacons beacons (all_set_up 0 again (with_post pair post (with_members pair members (new_state ports denied))))) → MembersStand k (start_of pair f)
as_it_says k pair f ports denied members again post beacons a b c d e g stands =
    rw a at (rw b at (rw c at (rw d at (rw e at (rw g at stands)))))
