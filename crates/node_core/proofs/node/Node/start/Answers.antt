use Rattle.std.proofs.Common.{[], refl}
use Rattle.node_core.specs.Configs.{node_of}
use Rattle.node_core.proofs.node.Node.start.Goals as goal

pub invariant_of-node : goal.invariant_of-node
invariant_of-node c = λ _.
    record {
      state = node_of c.args.hosts c.args.config;
      stands = record { unspent = refl; stream = c.new-2.ensures; station = c.in_ok-station.ensures.holds; told = refl };
      drained = c.in_ok-station.ensures.drained;
      collected = refl;
      reached = record { hosts = c.args.hosts; config = c.args.config; inputs = []; call = c.is_callsign.ensures; asked = tt; is = refl };
    }

pub returns-clause-kept : goal.returns-clause-kept
returns-clause-kept c = c.keeps_within.ensures refl
