use Rattle.std.proofs.Common.{◌≤◌, ◌<◌, length, arith}
use Rattle.station_trial.proofs.Placing.{call_left, call_set}
use Rattle.station_trial.proofs.trial.Trial.set_call.Goals as goal

pub returns-then-self-len : goal.returns-then-self-len
returns-then-self-len c = λ s stands.
    let h : c.self.inside.at < length c.self.inside.tried.items = omega (arith, c.if-self-len.true, c.len.ensures) in
    call_set _ s c.index_mut.result.now c.args.call h c.index_mut.ensures.value (rw (← c.self.view_is) at stands)

pub returns-else-self-len : goal.returns-else-self-len
returns-else-self-len c = λ s stands.
    let h : length c.self.inside.tried.items ≤ c.self.inside.at = omega (arith, c.if-self-len.false, c.len.ensures) in
    rw c.self.view_is at (call_left _ s c.args.call h (rw (← c.self.view_is) at stands))
