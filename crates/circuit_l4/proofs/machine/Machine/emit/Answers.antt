use Rattle.std.proofs.Common.{◌-◌, List, ap, ◌∙◌, arith}
use Rattle.circular_buffer.specs.Buffer.{Buffer}
use Rattle.circuit_l4.specs.declared.output.Output.{Output}
use Rattle.circuit_l4.specs.State.{Out}
use Rattle.circuit_l4.specs.Halves.{Outbox}
use Rattle.circuit_l4.specs.Outputs.{outs_of}
use Rattle.circuit_l4.specs.Standing.{view_of}
use Rattle.circuit_l4.proofs.Waiting.{puts_stand, waits_too}
use Rattle.circuit_l4.proofs.machine.Machine.emit.Goals as goal

pub returns-clause-does : goal.returns-clause-does
returns-clause-does c =
    let o : Outbox = c.args.self.now.outgoing in
    puts_stand (view_of c.args.self.now) _ c.args.output
    (ap (λ (outs : List Out). record (view_of c.args.self.now) { outs = outs })
    (ap (λ (b : Buffer Output). outs_of o.queue (o.acked - o.done) b.items) c.push_back.ensures.items
    ∙ waits_too o.queue (o.acked - o.done) c.args.self.now.outs.items c.args.output _ (omega (arith, c.requires))))
