use Rattle.station_users.proofs.Turning.{served}
use Rattle.station_users.proofs.laws.turns_are_served.Goals as goal

pub returns : goal.returns
returns c = served
