use Rattle.std.proofs.Common.{length}
use Rattle.station_file.proofs.items.locks.+add_locks.Given as goal

abbrev pub decreases-add_locks : goal.decreases-add_locks
decreases-add_locks l = length l.items.now
