use Rattle.std.proofs.Common.{length}
use Rattle.station_settings.proofs.starting.+set_up_all.Given as goal

abbrev pub decreases-set_up_all : goal.decreases-set_up_all
decreases-set_up_all l = length l.declared.now
