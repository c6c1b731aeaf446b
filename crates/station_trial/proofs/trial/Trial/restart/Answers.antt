use Rattle.station_trial.proofs.Placing.{restarts_there}
use Rattle.station_trial.proofs.trial.Trial.restart.Goals as goal

pub returns-in_ok-restart-in-Some : goal.returns-in_ok-restart-in-Some
returns-in_ok-restart-in-Some c = λ s stands.
    let started = c.in_ok-restart-in-Some.ensures in
    restarts_there _ s c.args.number c.in-Some.at c.index_mut.result.now c.restart.new.self started.0 (c.in-Some.ensures.place s stands)
    (rw (← c.self.view_is) at c.in-Some.ensures.within) c.index_mut.ensures.value started.1 started.2 (rw (← c.self.view_is) at stands)
