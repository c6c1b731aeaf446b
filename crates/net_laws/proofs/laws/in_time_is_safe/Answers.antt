use Rattle.net_laws.proofs.Promising as promising
use Rattle.net_laws.proofs.laws.in_time_is_safe.Goals as goal

pub returns : goal.returns
returns c =
    let law = c.book_tells_what_is_late.ensures in
    promising.in_time_is_safe law.fresh law.timely law.fixed c.networks_are_sound.ensures c.worlds_are_circuit_runs.ensures c.circuits_safe.ensures c.narrow_is_timely.ensures c.networks_fit.ensures.settings
