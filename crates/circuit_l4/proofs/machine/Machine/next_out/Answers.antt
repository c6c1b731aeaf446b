use Rattle.std.proofs.Common.{◌-◌, List, Some, ap, sym, ◌∙◌}
use Rattle.std.specs.Option.{option_map}
use Rattle.circular_buffer.specs.Buffer.{Buffer}
use Rattle.circuit_l4.specs.declared.output.Output.{Output}
use Rattle.circuit_l4.specs.State.{Out}
use Rattle.circuit_l4.specs.Halves.{Outbox}
use Rattle.circuit_l4.specs.Outputs.{out_of, outs_of}
use Rattle.circuit_l4.specs.Standing.{view_of}
use Rattle.circuit_l4.proofs.Waiting.{next_out, others_out}
use Rattle.circuit_l4.proofs.machine.Machine.next_out.Goals as goal

pub returns-in-Some-clause-value : goal.returns-in-Some-clause-value
returns-in-Some-clause-value c =
    let o : Outbox = c.args.self.now.outgoing in
    ap Some c.fetch.ensures
    ∙ ap (option_map (out_of o.queue (o.acked - o.done))) (sym c.in-Some.is)
    ∙ next_out o.queue (o.acked - o.done) c.args.self.now.outs.items _ c.pop_front.ensures.value

pub returns-in-Some-clause-rest : goal.returns-in-Some-clause-rest
returns-in-Some-clause-rest c =
    let o : Outbox = c.args.self.now.outgoing in
    ap (λ (outs : List Out). record (view_of c.args.self.now) { outs = outs })
    (ap (λ (b : Buffer Output). outs_of o.queue (o.acked - o.done) b.items) c.pop_front.ensures.items ∙ sym (others_out o.queue (o.acked - o.done) c.args.self.now.outs.items))

pub returns-in-None-clause-value : goal.returns-in-None-clause-value
returns-in-None-clause-value c =
    let o : Outbox = c.args.self.now.outgoing in
    ap (option_map (out_of o.queue (o.acked - o.done))) (sym c.in-None.is)
    ∙ next_out o.queue (o.acked - o.done) c.args.self.now.outs.items _ c.pop_front.ensures.value

pub returns-in-None-clause-rest : goal.returns-in-None-clause-rest
returns-in-None-clause-rest c =
    let o : Outbox = c.args.self.now.outgoing in
    ap (λ (outs : List Out). record (view_of c.args.self.now) { outs = outs })
    (ap (λ (b : Buffer Output). outs_of o.queue (o.acked - o.done) b.items) c.pop_front.ensures.items ∙ sym (others_out o.queue (o.acked - o.done) c.args.self.now.outs.items))
