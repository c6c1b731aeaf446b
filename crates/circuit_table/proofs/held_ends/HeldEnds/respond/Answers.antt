use Rattle.std.proofs.Common.{ap, min, subst, sym}
use Rattle.radio_base.specs.declared.modulus.TheConstants.{COUNT_MAX}
use Rattle.circuit_l4.specs.Opening.{responding}
use Rattle.circuit_l4.specs.Standing.{EndView, Stands}
use Rattle.circuit_table.specs.declared.holder.Holder.{Holder}
use Rattle.circuit_table.proofs.Counting.{responds_few}
use Rattle.circuit_table.proofs.Making.{responds_gives}
use Rattle.circuit_table.proofs.held_ends.HeldEnds.respond.Goals as goal

pub returns-clause-gives : goal.returns-clause-gives
returns-clause-gives c =
    responds_gives c.args.self.now c.hold.new.self c.responder-2.result c.in_ok-end.end c.args.origin c.args.datagram c.args.now.0 c.args.window c.new_pair-pair.result c.args.asked c.in_ok-id.id
    c.responder-2.ensures c.in_ok-id.ensures.holds c.in_ok-id.ensures.number c.in_ok-end.ensures.opening c.new_pair-pair.ensures

pub returns-clause-few : goal.returns-clause-few
returns-clause-few c =
    let k = c.responder-2.result in
    let now = min c.args.now.0 COUNT_MAX in
    let p = c.new_pair-pair.result in
    let config = c.args.self.now.config in
    responds_few c.args.self.now c.hold.new.self k p c.args.asked c.args.window config now c.in_ok-id.ensures.holds
    (subst (λ (e : EndView). Stands e (responding p c.args.asked c.args.window config now)) (sym (ap (λ (h : Holder). h.end) c.responder-2.ensures)) c.in_ok-end.ensures.opening)
    (ap (λ (h : Holder). h.unannounced) c.responder-2.ensures)
