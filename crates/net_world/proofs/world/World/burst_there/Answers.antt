use Rattle.net_model.specs.Lines.{burst_from}
use Rattle.net_world.specs.Running.{course}
use Rattle.net_world.proofs.Answered.{at_number}
use Rattle.net_world.proofs.world.World.burst_there.Goals as goal

pub returns : goal.returns
returns c =
    at_number (course c.args.self.now) (course c.burst_at.new.self) c.args.number c.place_of-at.result
    (λ k. burst_from c.args.line k c.args.number c.args.end 1 c.args.count) c.burst_at.result c.place_of-at.ensures c.burst_at.ensures
