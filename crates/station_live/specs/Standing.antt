-- What the code of a live station keeps, and for which states it stands.
use Rattle.std.specs.Prelude.{◌≡◌}
use Rattle.kiss_framing.specs.Stream.{StandsFor}
use Rattle.station.specs.Standing.{StationStand}
use Rattle.station_live.specs.declared.live_station.LiveStation.{LiveStation}
use Rattle.station_live.specs.Lives.{Live}

pub record LiveStands (k : LiveStation) (l : Live) : Type 0 where
  pub stream : StandsFor k.deframer l.stream
  pub station : StationStand k.station l.station
  pub every : k.every ≡ l.every
  pub next : k.next_status ≡ l.next_status

abbrev pub LiveGoes : (Live → Live) → LiveStation → LiveStation → Type 0
LiveGoes step old new = (l : Live) → LiveStands old l → LiveStands new (step l)
