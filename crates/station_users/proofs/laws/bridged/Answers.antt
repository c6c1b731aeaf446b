use Rattle.station_users.proofs.Bridging.{reaches_far, reaches_user}
use Rattle.station_users.proofs.laws.bridged.Goals as goal

pub returns : goal.returns
returns c = λ a far moves bridged. (reaches_far moves a far bridged, reaches_user moves a far bridged)
