use Rattle.node_core.specs.Standing.{entry_of}
use Rattle.net_world.specs.Running.{course}
use Rattle.net_world.proofs.Entering.{first_told}
use Rattle.net_world.proofs.world.World.first_event.Goals as goal

pub returns-in-Some : goal.returns-in-Some
returns-in-Some c =
    first_told (course c.args.self.now) c.args.at c.index-member.result.now (entry_of c.in-Some.entry.now) c.datagram_event.result c.requires c.index-member.ensures
    (rw c.in-Some.is at c.first_entry.ensures) c.datagram_event.ensures
