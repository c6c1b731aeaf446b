use Rattle.std.proofs.Common.{◌+◌, arith, length}
use Rattle.net_model.specs.Lines.{tick_from}
use Rattle.net_world.specs.Running.{Course, course}
use Rattle.net_model.specs.World.{World}
use Rattle.net_world.proofs.Runs.{runs_then}
use Rattle.net_world.proofs.world.World.tick.Goals as goal

pub returns : goal.returns
returns c =
    let old = course c.args.self.now in
    let mid : Course = record old { now = c.saturating_add.result } in
    let later : World → World = λ w. record w { now = w.now + c.args.milliseconds } in
    runs_then old mid (course c.tick_nodes.new.self) later (λ w. tick_from c.args.line 0 (length w.nodes) w) c.tick_nodes.result
    (λ w t.
    record {
      trace = record { told = t.trace.told; air = t.trace.air; members = t.trace.members; ends = t.trace.ends; allowance = t.trace.allowance };
      channels = t.channels;
      now = omega (arith, c.saturating_add.ensures, t.now);
    })
    c.tick_nodes.ensures
