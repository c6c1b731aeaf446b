use Rattle.std.proofs.Common.{◌∙◌, sym}
use Rattle.circuit_table.specs.CircuitSets.{Circuits}
use Rattle.circuit_table.specs.Sets as sets
use Rattle.circuit_table.proofs.Connecting.{is_filled, is_given, is_own, is_unrouted, none_read, own_read}
use Rattle.circuit_table.proofs.Kept.{held_keeps}
use Rattle.circuit_table.proofs.set.CircuitSet.connect_for.Goals as goal

pub returns-then-self-clause-answer : goal.returns-then-self-clause-answer
returns-then-self-clause-answer g c = rw (← c.self.view_is) (λ unspent s log st stands. cc (sym c.if-self.true ∙ unspent))

pub returns-then-eq-clause-answer : goal.returns-then-eq-clause-answer
returns-then-eq-clause-answer g c = rw (← c.self.view_is) (λ unspent s log st stands.
    is_own _ _ _ _ (own_read c.args.node.now s.own c.self.inside.router.own c.own.result c.eq.result st.own c.own.ensures c.eq.ensures ∙ c.if-eq.true))

pub returns-then-is_none-clause-answer : goal.returns-then-is_none-clause-answer
returns-then-is_none-clause-answer g c = rw (← c.self.view_is) (λ unspent s log st stands.
    is_unrouted _ _ _ _ (own_read c.args.node.now s.own c.self.inside.router.own c.own.result c.eq.result st.own c.own.ensures c.eq.ensures ∙ c.if-eq.false)
    (none_read c.args.node.now log c.self.inside.router.table c.table.result.now c.next_hop.result c.is_none.result c.table.ensures stands c.next_hop.ensures c.is_none.ensures ∙ c.if-is_none.true))

pub returns-then-is_full-clause-answer : goal.returns-then-is_full-clause-answer
returns-then-is_full-clause-answer g c = rw (← c.self.view_is) (λ unspent s log st stands.
    is_filled _ _ _ _ (own_read c.args.node.now s.own c.self.inside.router.own c.own.result c.eq.result st.own c.own.ensures c.eq.ensures ∙ c.if-eq.false)
    (none_read c.args.node.now log c.self.inside.router.table c.table.result.now c.next_hop.result c.is_none.result c.table.ensures stands c.next_hop.ensures c.is_none.ensures ∙ c.if-is_none.false)
    (sym (c.is_full.ensures.exact s st.ends) ∙ c.if-is_full.true))

pub returns-in-Ok-clause-answer : goal.returns-in-Ok-clause-answer
returns-in-Ok-clause-answer g c = rw (← c.self.view_is) (λ unspent s log st stands.
    is_given _ _ _ _ _ (own_read c.args.node.now s.own c.self.inside.router.own c.own.result c.eq.result st.own c.own.ensures c.eq.ensures ∙ c.if-eq.false)
    (none_read c.args.node.now log c.self.inside.router.table c.table.result.now c.next_hop.result c.is_none.result c.table.ensures stands c.next_hop.ensures c.is_none.ensures ∙ c.if-is_none.false)
    (sym (c.is_full.ensures.exact s st.ends) ∙ c.if-is_full.false)
    (c.in-Ok.ensures.number ∙ sym st.ends.number))

pub returns-in-Ok-clause-kept : goal.returns-in-Ok-clause-kept
returns-in-Ok-clause-kept g c =
    let old : Circuits g.row.C.Denot = record { router = c.self.inside.router; held = c.self.inside.held; lost = c.self.inside.lost; spent = c.self.inside.spent } in
    rw (← c.self.view_is) (held_keeps old c.request.new.self (λ s. sets.requests_for s c.args.user.now c.args.node.now c.args.now.0) c.in-Ok.ensures.made)
