use Rattle.radio_base.specs.declared.modulus.LinkModulus.TheVariants.{Modulo8}
use Rattle.net_world.specs.Running.{course}
use Rattle.net_model.specs.World.{Time, put, reach}
use Rattle.net_world.proofs.Runs.{runs_then}
use Rattle.net_world.proofs.world.World.tick_node.Goals as goal

pub returns : goal.returns
returns c =
    runs_then (course c.args.self.now) (course c.time_reaches.new.self) (course c.put_in_air.new.self) (reach c.args.line c.args.at Time)
    (put c.args.line c.args.at Modulo8) c.put_in_air.result c.in_ok-time_reaches.ensures c.put_in_air.ensures
