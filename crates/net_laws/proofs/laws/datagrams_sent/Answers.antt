use Rattle.net_laws.proofs.SentBefore.{datagrams_sent}
use Rattle.net_laws.proofs.laws.datagrams_sent.Goals as goal

pub returns : goal.returns
returns c =
    datagrams_sent c.networks_are_sound.ensures c.inputs_are_steps.ensures c.inputs_are_circuit_runs.ensures.bytes c.inputs_are_circuit_runs.ensures.ticks c.inputs_are_circuit_runs.ensures.acts
    c.networks_fit.ensures.declared c.networks_fit.ensures.calls c.fend_parts.ensures c.frames_read_back.ensures c.long_frames.ensures
    c.datagrams_are_carried.ensures.bytes c.datagrams_are_carried.ensures.ticks c.datagrams_are_carried.ensures.acts c.carried_further.ensures c.sets_send_their_own.ensures
    c.sets_heed_partners.ensures c.sets_refuse_under_0.ensures.starts c.sets_refuse_under_0.ensures.steps c.sets_refuse_under_0.ensures.unheeded c.net_call_spelling.ensures.written c.net_call_spelling.ensures.read
