use Rattle.node_core.proofs.station.Station.do_tick.Goals as goal

pub returns : goal.returns
returns c = λ n h told. c.in_ok-round_if_due.ensures _ (c.in_ok-tick_set.ensures _ (c.in_ok-tick_links.ensures.goes n h) told)
