use Rattle.std.proofs.Common.{subst}
use Rattle.circuit_table.specs.Sets as sets
use Rattle.node_core.specs.Standing.{Holds}
use Rattle.node_model.specs.States.{State}
use Rattle.node_model.specs.Users as users
use Rattle.node_core.proofs.Using.{drained, resting, written_holds}
use Rattle.node_core.proofs.station.Station.write_to.Goals as goal

pub write-requires : goal.write-requires
write-requires c = drained c.args.self.now c.requires

pub returns : goal.returns
returns c = λ n t.
    let s = c.args.self.now in
    let act = sets.Calls c.args.id (sets.Writes c.args.text.now) c.args.now.0 in
    let s1 = record s { set = c.write.new.self } in
    let answer = c.write.ensures.answer n.set.set (resting s n t) in
    let h1 = written_holds c.write.result act s c.write.new.self c.write.ensures.goes c.write.ensures.err n t in
    let m : State = users.write_if_ok (users.write_answer c.args.id c.args.text.now n) act n in
    let h2 : Holds s1 m = subst (λ r. Holds s1 (users.write_if_ok r act n)) answer h1 in
    (c.in_ok-pump.ensures.goes m h2, c.in_ok-pump.ensures.told m)
