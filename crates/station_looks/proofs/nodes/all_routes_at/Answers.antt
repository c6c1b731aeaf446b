use Rattle.std.proofs.Common.{◌∙◌, rules}
use Rattle.std.specs.Prelude.{slice_get}
use Rattle.station_looks.specs.Nodes.{all_node_routes, all_routes_at, seen_of}
use Rattle.station_looks.proofs.Lent.{shown_by, shown_none}
use Rattle.station_looks.proofs.nodes.all_routes_at.Goals as goal

pub returns-in_ok-all_routes_of-in-Some : goal.returns-in_ok-all_routes_of-in-Some
unfolding all_routes_at
returns-in_ok-all_routes_of-in-Some c = λ s stand. shown_by (seen_of all_node_routes) c.in-Some.node.now (slice_get s.nodes c.args.at) _ (c.in-Some.ensures s stand) (λ n t. search rules)

pub returns-in-None : goal.returns-in-None
unfolding all_routes_at
returns-in-None c = λ s stand. c.new.ensures.items ∙ shown_none (seen_of all_node_routes) (slice_get s.nodes c.args.at) (c.in-None.ensures s stand)
