use Rattle.std.proofs.Common.{◌≡◌, ◌-◌, ℕ, List, subst, sym}
use Rattle.circuit_l4.specs.State.{written, Out}
use Rattle.circuit_l4.specs.Table.{write}
use Rattle.circuit_l4.specs.Halves.{Outbox}
use Rattle.circuit_l4.specs.Outputs.{outs_of}
use Rattle.circuit_l4.specs.Standing.{EndView, KeepsEffect, effect_of, view_of}
use Rattle.circuit_l4.proofs.Standings.{itself, standing}
use Rattle.circuit_l4.proofs.Waiting.{same_none}
use Rattle.circuit_l4.proofs.machine.Machine.accept.Goals as goal

pub returns-clause-does : goal.returns-clause-does
returns-clause-does c =
    let k : EndView = view_of c.args.self.now in
    let o : Outbox = c.write.new.self in
    let outs : List Out = outs_of o.queue (o.acked - o.done) c.args.self.now.outs.items in
    let same : k.outs ≡ outs = same_none _ _ _ _ c.args.self.now.outs.items c.requires.outs in
    let went : ℕ → EndView = λ at. record k { last_active = at; outgoing = o; outs = outs } in
    standing k _ (write c.args.now c.args.message.now) (λ s r a b.
    rw same
    (c.fill.ensures.does _ (subst (λ at. KeepsEffect (went at) (effect_of (went c.args.now) (written c.args.message.now s) r)) (sym c.ms-self.ensures.value)
    (itself (went c.args.now) (written c.args.message.now s) r (c.write.ensures.does s a) b))))
