use Rattle.std.proofs.Common.{length}
use Rattle.station_trial.proofs.places.+deal.Given as goal

abbrev pub decreases-deal : goal.decreases-deal
decreases-deal l = length l.tried.now
