use Rattle.std.proofs.Common.{subst}
use Rattle.circuit_table.specs.Sets.{named_by}
use Rattle.circuit_table.specs.Standing.{FirstFit}
use Rattle.circuit_table.proofs.Arriving.{arrives_none, arrives_some}
use Rattle.circuit_table.proofs.held_ends.HeldEnds.arrives.Goals as goal

pub returns-in-Some-clause-gives : goal.returns-in-Some-clause-gives
returns-in-Some-clause-gives c = λ s st.
    arrives_some c.args.self.now c.arrives_at.new.self s c.args.origin.now c.args.datagram.items c.args.to c.args.transport.now c.args.now.0 c.in-Some.id c.arrives_at.new.untold st
    (subst (λ r. FirstFit (named_by c.args.origin.now c.args.to) r c.args.self.now.ends.entries) c.in-Some.is (subst (FirstFit (named_by c.args.origin.now c.args.to) c.named_by.result) c.as_slice.ensures.entries c.named_by.ensures))
    (λ h is held number. c.arrives_at.ensures.gives s h st is held number)

pub returns-in-None-clause-gives : goal.returns-in-None-clause-gives
returns-in-None-clause-gives c = λ s st.
    rw c.requires.none (arrives_none c.args.self.now s c.args.origin.now c.args.datagram.items c.args.to c.args.transport.now c.args.now.0 st
    (subst (λ r. FirstFit (named_by c.args.origin.now c.args.to) r c.args.self.now.ends.entries) c.in-None.is (subst (FirstFit (named_by c.args.origin.now c.args.to) c.named_by.result) c.as_slice.ensures.entries c.named_by.ensures)))
