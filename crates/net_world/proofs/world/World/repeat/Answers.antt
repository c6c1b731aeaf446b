use Rattle.std.proofs.Common.{◌-◌, subst, true}
use Rattle.net_model.specs.World.{delivery_fault, frame_of, World}
use Rattle.net_model.specs.Lines.{deliver_at}
use Rattle.net_world.specs.Running.{Runs, course}
use Rattle.net_world.proofs.Faults.{accepted, refused}
use Rattle.net_world.proofs.world.World.repeat.Goals as goal

pub returns-in_ok-tell-in-Some : goal.returns-in_ok-tell-in-Some
returns-in_ok-tell-in-Some c =
    refused c.args.line (λ channels air. delivery_fault channels c.args.node true (frame_of air c.args.frame))
    (λ (w : World). deliver_at c.args.line (c.args.frame - 1) c.args.node w) (course c.args.self.now) (course c.tell.new.self) c.in-Some.why
    c.in-Some.ensures c.in_ok-tell-in-Some.ensures.goes

pub returns-in-None : goal.returns-in-None
returns-in-None c =
    let old = course c.args.self.now in
    let new = course c.deliver_at.new.self in
    let line = c.args.line in
    let node = c.args.node in
    let r = c.deliver_at.result in
    let here = subst (λ k. Runs old new (deliver_at line k node) r) c.place_of_frame.ensures c.deliver_at.ensures in
    accepted line (λ channels air. delivery_fault channels node true (frame_of air c.args.frame)) (λ (w : World). deliver_at line (c.args.frame - 1) node w) old new r
    c.in-None.ensures here
