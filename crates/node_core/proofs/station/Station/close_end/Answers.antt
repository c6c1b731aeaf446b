use Rattle.circuit_table.specs.Sets as sets
use Rattle.node_model.specs.Links as circuits
use Rattle.node_model.specs.States.{State, at_set}
use Rattle.node_core.proofs.Using.{drained, set_acts}
use Rattle.node_core.proofs.station.Station.close_end.Goals as goal

pub close-requires : goal.close-requires
close-requires c = drained c.args.self.now c.requires

pub returns : goal.returns
returns c = λ n t.
    let act = sets.Calls c.args.id sets.Closes c.args.now.0 in
    let m : State = at_set (circuits.acts act) n in
    let h = set_acts act c.args.self.now c.close.new.self c.close.ensures.goes n t in
    (c.in_ok-pump.ensures.goes m h, c.in_ok-pump.ensures.told m)
