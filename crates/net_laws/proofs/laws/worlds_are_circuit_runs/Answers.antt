use Rattle.net_laws.proofs.LineRuns.{nodes_apart, runs_through}
use Rattle.net_laws.proofs.laws.worlds_are_circuit_runs.Goals as goal

pub returns : goal.returns
returns c = λ bytes plan e done later is.
    runs_through plan (nodes_apart plan (c.networks_fit.ensures.declared bytes plan e)) c.inputs_are_steps.ensures c.inputs_are_circuit_runs.ensures.bytes c.inputs_are_circuit_runs.ensures.ticks c.inputs_are_circuit_runs.ensures.acts done later is
    (c.networks_are_sound.ensures bytes plan e)
