use Rattle.std.proofs.Common.{length}
use Rattle.station_file.proofs.settings.+add_settings.Given as goal

abbrev pub decreases-add_settings : goal.decreases-add_settings
decreases-add_settings l = length l.keys.now
