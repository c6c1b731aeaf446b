use Rattle.std.proofs.Common.{◌∙◌, ap, List}
use Rattle.ax_address.specs.Callsign.{Callsign}
use Rattle.station_users.specs.Unclaimed.{peers_at, take_each, take_link_texts, takes_any, takes_link_texts}
use Rattle.station_users.proofs.Halls.{hall_by_look}
use Rattle.station_users.proofs.hall.Hall.take_link_texts.Goals as goal

pub returns-clause-goes : goal.returns-clause-goes
unfolding take_link_texts
returns-clause-goes c =
    hall_by_look (peers_at c.args.member) (λ (peers : List Callsign) u. take_each c.args.member c.args.turn.moment peers u) c.as_slice.result.now
    c.args.self.now c.take_each.new.self (λ u t. c.as_slice.ensures.value ∙ c.peers_at-peers.ensures u t) c.in_ok-dropped.ensures.goes

pub returns-clause-dropped : goal.returns-clause-dropped
unfolding takes_link_texts
returns-clause-dropped c = λ u t.
    c.in_ok-dropped.ensures.dropped u t
    ∙ ap (λ (peers : List Callsign). takes_any c.args.member c.args.turn.moment peers u) (c.as_slice.ensures.value ∙ c.peers_at-peers.ensures u t)
