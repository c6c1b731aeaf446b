use Rattle.station_looks.proofs.nodes.peers_of.Goals as goal

pub returns : goal.returns
returns c = λ n t. c.peers.ensures n.station.links (c.links.ensures.stands n t)
