use Rattle.std.proofs.Common.{◌-◌, subst, false}
use Rattle.net_model.specs.World.{delivery_fault, frame_of, World}
use Rattle.net_model.specs.Lines.{deliver_at, settle}
use Rattle.net_world.specs.Running.{Runs, course}
use Rattle.net_world.proofs.Faults.{accepted, refused}
use Rattle.net_world.proofs.Runs.{runs_then, settled_air, with_air}
use Rattle.net_world.proofs.world.World.deliver.Goals as goal

pub returns-in_ok-tell-in-Some : goal.returns-in_ok-tell-in-Some
returns-in_ok-tell-in-Some c =
    refused c.args.line (λ channels air. delivery_fault channels c.args.node false (frame_of air c.args.frame))
    (λ (w : World). deliver_at c.args.line (c.args.frame - 1) c.args.node (settle (c.args.frame - 1) w)) (course c.args.self.now) (course c.tell.new.self) c.in-Some.why
    c.in-Some.ensures c.in_ok-tell-in-Some.ensures.goes

pub returns-in-None : goal.returns-in-None
returns-in-None c =
    let old = course c.args.self.now in
    let new = course c.deliver_at.new.self in
    let line = c.args.line in
    let node = c.args.node in
    let at = c.place_of_frame-at.result in
    let r = c.deliver_at.result in
    let runs = runs_then old (with_air old c.settle.new.self) new (settle at) (deliver_at line at node) r (settled_air old c.settle.new.self at c.settle.ensures) c.deliver_at.ensures in
    let here = subst (λ k. Runs old new (λ (w : World). deliver_at line k node (settle k w)) r) c.place_of_frame-at.ensures runs in
    accepted line (λ channels air. delivery_fault channels node false (frame_of air c.args.frame)) (λ (w : World). deliver_at line (c.args.frame - 1) node (settle (c.args.frame - 1) w)) old new r
    c.in-None.ensures here
