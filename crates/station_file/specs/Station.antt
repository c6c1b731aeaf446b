-- What the file of a station says. Own profile.
use Rattle.std.specs.Prelude.{ℕ, List, Option}
use Rattle.ax_address.specs.Callsign.{Callsign}
use Rattle.station_file.specs.declared.beacons.Beacon.{Beacon}
use Rattle.station_file.specs.declared.nodes.Member.{Member}
use Rattle.station_file.specs.declared.ports.Port.{Port}
use Rattle.station_file.specs.declared.posts.Post.{Post}

pub record Station : Type 0 where
  pub name : List ℕ
  pub info : List ℕ
  -- seconds
  pub status : ℕ
  -- seconds
  pub idle : ℕ
  pub denied : List Callsign
  pub ports : List Port
  -- but for the post
  pub members : List Member
  pub post : Option Post
  pub beacons : List Beacon
