use Rattle.std.proofs.Common.{◌≡◌, map, take}
use Rattle.station_prompt.specs.Commands as words
use Rattle.station_prompt.proofs.capitals.capitals_of.Given as goal

abbrev pub invariant-loop-byte : goal.invariant-loop-byte
invariant-loop-byte l = l.capitals.items ≡ map words.capital (take l.byte-index l.line)
