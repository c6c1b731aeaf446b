use Rattle.net_model.specs.Lines.{settle, spread}
use Rattle.net_world.specs.Running.{course}
use Rattle.net_world.proofs.Runs.{runs_then, settled_air, with_air}
use Rattle.net_world.proofs.world.World.flow_once.Goals as goal

pub returns : goal.returns
returns c =
    let old = course c.args.self.now in
    runs_then old (with_air old c.settle.new.self) (course c.spread.new.self) (settle c.args.at) (spread c.args.line c.args.at) c.spread.result
    (settled_air old c.settle.new.self c.args.at c.settle.ensures) c.spread.ensures
