use Rattle.std.proofs.Common.{refl}
use Rattle.node_core.specs.Bridged.{Paths}
use Rattle.station_members.specs.States.{Own}
use Rattle.station_members.proofs.Giving.{gives}
use Rattle.station_members.proofs.NodesStand.{on_err, on_ok}
use Rattle.station_members.proofs.backplane.Backplane.set_path.Goals as goal

pub returns-clause-goes : goal.returns-clause-goes
returns-clause-goes c = on_ok c.give_path.result (λ goes. gives c.args.self.now _ c.args.at Own (Paths c.args.peer.now c.args.path.now) refl goes) c.give_path.ensures.goes

pub returns-clause-err : goal.returns-clause-err
returns-clause-err c = on_err c.give_path.result (λ stay is s t. record { nodes = stay is s.nodes t.nodes; desk = t.desk }) c.give_path.ensures.err
