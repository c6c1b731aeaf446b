use Rattle.std.proofs.Common.{Some, subst}
use Rattle.circuit_table.specs.Sets as sets
use Rattle.circuit_table.specs.Standing.{FirstFit}
use Rattle.circuit_table.proofs.Making.{requested_again, requested_first}
use Rattle.circuit_table.proofs.held_ends.HeldEnds.requested.Goals as goal

pub returns-in-Some-clause-gives : goal.returns-in-Some-clause-gives
returns-in-Some-clause-gives c = λ s st.
    requested_again c.args.self.now c.args.self.now s c.args.origin c.args.datagram.items c.args.pair c.args.window c.args.now.0 c.in-Some.id c.accept_again.result st
    (subst (λ r. FirstFit (sets.opened_by c.args.origin c.args.pair) r c.args.self.now.ends.entries) c.in-Some.is (subst (FirstFit (sets.opened_by c.args.origin c.args.pair) c.opened_by.result) c.as_slice.ensures.entries c.opened_by.ensures))
    (λ h is held asked. c.accept_again.ensures.gives s h st is held asked)

pub returns-in_ok-told-in-None-clause-gives : goal.returns-in_ok-told-in-None-clause-gives
returns-in_ok-told-in-None-clause-gives c = λ s st.
    requested_first c.args.self.now c.requested_anew.new.self s c.args.origin c.args.datagram.items c.args.pair c.args.window c.args.now.0 (Some c.in_ok-told-in-None.told) st
    (subst (λ r. FirstFit (sets.opened_by c.args.origin c.args.pair) r c.args.self.now.ends.entries) c.in-None.is (subst (FirstFit (sets.opened_by c.args.origin c.args.pair) c.opened_by.result) c.as_slice.ensures.entries c.opened_by.ensures))
    (c.in_ok-told-in-None.ensures.gives s st)
