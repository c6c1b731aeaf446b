use Rattle.node_model.specs.Pumping.{pump}
use Rattle.node_model.specs.Serving.{enter_notices, serve_users}
use Rattle.node_model.specs.States.{State}
use Rattle.node_core.proofs.Using.{drained}
use Rattle.node_core.proofs.station.Station.turn.Goals as goal

pub serve_users-requires : goal.serve_users-requires
serve_users-requires c =
    let n = c.requires.0 in
    let m : State = enter_notices n in
    (pump c.args.now.0 m, (c.in_ok-told.ensures.goes m (c.in_ok-noticed.ensures.goes n c.requires.1), c.in_ok-told.ensures.told m))

pub returns-clause-drained : goal.returns-clause-drained
returns-clause-drained c =
    let now = c.args.now.0 in
    let n = c.requires.0 in
    let m : State = enter_notices n in
    let b : State = pump now m in
    let served = c.in_ok-served.ensures b (c.in_ok-told.ensures.goes m (c.in_ok-noticed.ensures.goes n c.requires.1), c.in_ok-told.ensures.told m) in
    drained c.serve_users.new.self ((serve_users now b).after, served.stands)
