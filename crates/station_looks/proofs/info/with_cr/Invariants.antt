use Rattle.std.proofs.Common.{◌≡◌, map, take}
use Rattle.station_looks.specs.Replies as replies
use Rattle.station_looks.proofs.info.with_cr.Given as goal

abbrev pub invariant-loop-byte : goal.invariant-loop-byte
invariant-loop-byte l = l.line.items ≡ map replies.cr_for_lf (take l.byte-index l.info)
