use Rattle.std.proofs.Common.{◌-◌, subst, false, ◌∷◌, []}
use Rattle.net_model.specs.World.{frame_of, lost_fault, World, tell}
use Rattle.net_model.specs.Events.{Settled}
use Rattle.net_model.specs.Lines.{lose_at, settle}
use Rattle.net_world.specs.Running.{GoesOn, course}
use Rattle.net_world.proofs.Faults.{accepted_goes, refused}
use Rattle.net_world.proofs.Runs.{goes_then, settled_air, with_air}
use Rattle.net_world.proofs.world.World.lose.Goals as goal

pub returns-in_ok-tell-in-Some : goal.returns-in_ok-tell-in-Some
returns-in_ok-tell-in-Some c =
    refused c.args.line (λ channels air. lost_fault false (frame_of air c.args.frame)) (λ (w : World). lose_at c.args.line (c.args.frame - 1) c.args.frame w) (course c.args.self.now) (course c.tell.new.self) c.in-Some.why
    c.in-Some.ensures c.in_ok-tell-in-Some.ensures.goes

pub returns-in_ok-tell-in-None : goal.returns-in_ok-tell-in-None
returns-in_ok-tell-in-None c =
    let old = course c.args.self.now in
    let new = course c.tell-in-None.new.self in
    let settled = settled_air old c.settle.new.self c.place_of_frame.result c.settle.ensures in
    let here = subst (λ k. GoesOn old (with_air old c.settle.new.self) (settle k)) c.place_of_frame.ensures settled in
    let told = goes_then old (with_air old c.settle.new.self) new (λ (w : World). settle (c.args.frame - 1) w) (tell c.args.line (Settled c.args.frame ∷ [])) here c.in_ok-tell-in-None.ensures.goes in
    accepted_goes c.args.line (λ channels air. lost_fault false (frame_of air c.args.frame)) (λ (w : World). lose_at c.args.line (c.args.frame - 1) c.args.frame w) old new c.in-None.ensures told
