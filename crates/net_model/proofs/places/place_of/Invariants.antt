use Rattle.std.proofs.Common.{◌≡◌, ◌+◌, drop}
use Rattle.std.specs.List.{position_or_len}
use Rattle.net_model.specs.Standing.{is_member}
use Rattle.net_model.proofs.places.place_of.Given as goal

abbrev pub invariant-loop-at : goal.invariant-loop-at
invariant-loop-at l = position_or_len (is_member l.number) l.members ≡ l.at + position_or_len (is_member l.number) (drop l.at l.members)
