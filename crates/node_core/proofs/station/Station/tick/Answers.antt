use Rattle.node_core.proofs.station.Station.tick.Goals as goal

pub settle-requires : goal.settle-requires
settle-requires c =
    let s = c.requires.stands in
    (_, c.in_ok-do_tick.ensures s.0 s.1.0 s.1.1)

pub returns-clause-goes : goal.returns-clause-goes
returns-clause-goes c = λ n h told. c.in_ok-settle.ensures.goes _ (c.in_ok-do_tick.ensures n h told)
