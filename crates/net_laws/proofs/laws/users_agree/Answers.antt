use Rattle.net_laws.proofs.Conversing.{in_time_users_agree}
use Rattle.net_laws.proofs.laws.users_agree.Goals as goal

pub returns : goal.returns
returns c =
    let law = c.book_tells_what_is_late.ensures in
    in_time_users_agree law.fresh law.timely law.fixed c.networks_are_sound.ensures c.worlds_are_circuit_runs.ensures c.circuits_safe.ensures c.partners_stay.ensures.events c.narrow_is_timely.ensures
    c.networks_fit.ensures.settings c.bridged.ensures.bridged c.bridged.ensures.ends c.bridged.ensures.read c.fetching_empties.ensures.entries c.fetching_empties.ensures.frames
