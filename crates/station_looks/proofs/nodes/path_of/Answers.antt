use Rattle.station_looks.proofs.nodes.path_of.Goals as goal

pub returns : goal.returns
returns c = λ n t. c.link_path.ensures n.station.links (c.links.ensures.stands n t)
