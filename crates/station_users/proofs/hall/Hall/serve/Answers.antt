use Rattle.station_users.specs.Serving.{drop_over, serve, serve_each}
use Rattle.station_users.proofs.Halls.{hall_then}
use Rattle.station_users.proofs.hall.Hall.serve.Goals as goal

pub returns-clause-goes : goal.returns-clause-goes
unfolding serve
returns-clause-goes c =
    hall_then (serve_each c.args.turn.moment) drop_over c.args.self.now c.serve_each.new.self c.drop_over.new.self
    c.in_ok-served.ensures.goes c.drop_over.ensures

pub returns-clause-served : goal.returns-clause-served
returns-clause-served c =
    c.in_ok-served.ensures.served
