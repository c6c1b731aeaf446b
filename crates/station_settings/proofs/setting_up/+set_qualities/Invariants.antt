use Rattle.std.proofs.Common.{length}
use Rattle.station_settings.proofs.setting_up.+set_qualities.Given as goal

abbrev pub decreases-set_qualities : goal.decreases-set_qualities
decreases-set_qualities l = length l.qualities.now
