use Rattle.net_laws.proofs.MailInTime.{in_time_mail_is_once}
use Rattle.net_laws.proofs.laws.mail_in_time.Goals as goal

pub returns : goal.returns
returns c =
    let law = c.book_tells_what_is_late.ensures in
    let runs = c.inputs_are_circuit_runs.ensures in
    let fit = c.networks_fit.ensures in
    in_time_mail_is_once c.inputs_are_steps.ensures runs.bytes runs.ticks runs.acts c.ends_wrote_by_writes.ensures c.ends_stay.ensures law.partners law.fresh law.timely law.fixed
    c.partners_face.ensures c.circuits_safe.ensures c.partners_stay.ensures.events c.narrow_is_timely.ensures c.networks_are_sound.ensures fit.declared fit.differ fit.settings fit.mail fit.calls c.mail_once.ensures
