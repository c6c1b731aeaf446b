use Rattle.node_model.specs.Serving.{greet_links, serve_all, serve_sessions}
use Rattle.node_model.specs.States.{State}
use Rattle.node_core.proofs.station.Station.serve_sessions.Goals as goal

pub serve_each-requires : goal.serve_each-requires
serve_each-requires c = (greet_links c.requires.0, c.in_ok-greet_links.ensures c.requires.0 c.requires.1)

pub returns : goal.returns
unfolding serve_sessions
returns c = λ n t.
    let a : State = greet_links n in
    let x = c.in_ok-served.ensures a (c.in_ok-greet_links.ensures n t) in
    record { did_is = x.did_is; stands = c.drop_over.ensures (serve_all c.args.now.0 a).after x.stands }
