use Rattle.net_world.proofs.world.World.do_line.Goals as goal

pub returns-in-Heard : goal.returns-in-Heard
returns-in-Heard c = rw c.in-Heard.is (rw c.as_nodes.ensures at c.hear_broadcast.ensures)

pub returns-in-Lock : goal.returns-in-Lock
returns-in-Lock c = rw c.in-Lock.is (rw c.lock_act.ensures at c.act.ensures)
