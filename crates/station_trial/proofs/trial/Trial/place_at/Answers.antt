use Rattle.std.proofs.Common.{◌<◌, ◌≤◌, length, arith}
use Rattle.station_trial.proofs.Placing.{number_missing, number_there}
use Rattle.station_trial.proofs.trial.Trial.place_at.Goals as goal

pub returns-then-at-len-clause-place : goal.returns-then-at-len-clause-place
returns-then-at-len-clause-place c = λ s stands.
    let h : c.saturating_sub-at.result < length c.self.inside.tried.items = omega (arith, c.if-at-len.true, c.len.ensures) in
    number_there _ s c.args.number c.saturating_sub-at.result c.saturating_sub-at.ensures h (rw (← c.self.view_is) at stands)

pub returns-else-at-len-clause-place : goal.returns-else-at-len-clause-place
returns-else-at-len-clause-place c = λ s stands.
    let h : length c.self.inside.tried.items ≤ c.saturating_sub-at.result = omega (arith, c.if-at-len.false, c.len.ensures) in
    number_missing _ s c.args.number c.saturating_sub-at.result c.saturating_sub-at.ensures h (rw (← c.self.view_is) at stands)
