use Rattle.std.proofs.Common.{◌≡◌, ◌++◌, drop, filter}
use Rattle.net_model.specs.Starting.{has_number}
use Rattle.net_model.proofs.stations.add_declared.Given as goal

abbrev pub invariant-loop-one : goal.invariant-loop-one
invariant-loop-one l = l.all.items ++ filter (has_number l.number) (drop l.one-index l.declared) ≡ l.fn.all.items ++ filter (has_number l.number) l.declared
