use Rattle.std.proofs.Common.{length}
use Rattle.station_file.proofs.items.vias.+add_vias.Given as goal

abbrev pub decreases-add_vias : goal.decreases-add_vias
decreases-add_vias l = length l.items.now
