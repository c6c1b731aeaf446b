use Rattle.std.proofs.Common.{◌≡◌, ◌++◌, ◌-◌}
use Rattle.net_model.specs.Starting.{by_number}
use Rattle.net_model.proofs.stations.declared_by_number.Given as goal

abbrev pub invariant-loop-number : goal.invariant-loop-number
invariant-loop-number l = l.all.items ++ by_number l.network.declared l.number (17 - l.number) ≡ by_number l.network.declared 1 16
