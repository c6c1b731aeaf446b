use Rattle.std.proofs.Common.{refl}
use Rattle.link_table.specs.Standing.{TableStands}
use Rattle.node_model.specs.Links.{room}
use Rattle.node_core.proofs.station.Station.link_has_room.Goals as goal

pub returns : goal.returns
unfolding room
returns c = λ n t.
    let stands : TableStands c.carrier.result.now n.links = rw (c.carrier.ensures, c.router.ensures) t.0.parts.links in
    rw (c.room.ensures n.links stands) refl
