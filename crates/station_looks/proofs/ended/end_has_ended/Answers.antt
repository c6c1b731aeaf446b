use Rattle.std.specs.Prelude.{slice_get}
use Rattle.station_looks.specs.Ended.{end_has_ended, node_ended}
use Rattle.station_looks.proofs.Lent.{shown_by, shown_none}
use Rattle.station_looks.proofs.ended.end_has_ended.Goals as goal

pub returns-in-Some : goal.returns-in-Some
unfolding end_has_ended
returns-in-Some c = λ s stand. shown_by (node_ended c.args.id) c.in-Some.node.now (slice_get s.nodes c.args.at) _ (c.in-Some.ensures s stand) c.node_ended.ensures

pub returns-in-None : goal.returns-in-None
unfolding end_has_ended
returns-in-None c = λ s stand. shown_none (node_ended c.args.id) (slice_get s.nodes c.args.at) (c.in-None.ensures s stand)
