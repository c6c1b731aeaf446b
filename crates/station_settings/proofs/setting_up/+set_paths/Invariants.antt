use Rattle.std.proofs.Common.{length}
use Rattle.station_settings.proofs.setting_up.+set_paths.Given as goal

abbrev pub decreases-set_paths : goal.decreases-set_paths
decreases-set_paths l = length l.vias.now
