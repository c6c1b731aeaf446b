use Rattle.std.proofs.Common.{length}
use Rattle.station_settings.proofs.setting_up.+set_locks.Given as goal

abbrev pub decreases-set_locks : goal.decreases-set_locks
decreases-set_locks l = length l.locks.now
