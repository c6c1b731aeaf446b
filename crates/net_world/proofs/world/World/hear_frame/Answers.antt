use Rattle.net_model.specs.Lines.{kiss_bytes}
use Rattle.net_world.specs.Running.{course}
use Rattle.net_model.specs.World.{Bytes, World, put, reach}
use Rattle.net_world.proofs.Answered.{at_number}
use Rattle.net_world.proofs.Runs.{runs_then}
use Rattle.net_world.proofs.world.World.hear_frame.Goals as goal

pub returns : goal.returns
returns c f e =
    let old = course c.args.self.now in
    let mid = course c.frame_reaches.new.self in
    let new = course c.put_in_air.new.self in
    let at = c.place_of-at.result in
    let line = c.args.line in
    let bytes = Bytes (kiss_bytes f.octets.items) in
    at_number old new c.args.number at (λ k (w : World). put line k c.args.modulus (reach line k bytes w)) c.put_in_air.result c.place_of-at.ensures
    (runs_then old mid new (reach line at bytes) (put line at c.args.modulus) c.put_in_air.result (c.in_ok-frame_reaches.ensures f e) c.put_in_air.ensures)
