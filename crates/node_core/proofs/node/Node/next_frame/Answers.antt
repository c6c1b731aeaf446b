use Rattle.std.proofs.Common.{◌∙◌, ap, subst, sym}
use Rattle.node_core.specs.Standing.{Kept, NodeStands, view_of}
use Rattle.node_model.specs.States.{State, fetch_frame}
use Rattle.node_core.specs.Bridged.{Fetches_frame}
use Rattle.node_core.proofs.Nodes.{fetched_on, frame_told, frame_waits, led, sound_fetched}
use Rattle.node_core.proofs.node.Node.next_frame.Goals as goal

pub invariant_of-self : goal.invariant_of-self
invariant_of-self c unspent =
    sound_fetched (λ (n : State). fetch_frame n) frame_told frame_waits (led Fetches_frame tt) (view_of c.self.inside.deframer c.self.inside.station c.self.inside.spent) c.next_frame-frame.new.self
    c.next_frame-frame.ensures.goes c.next_frame-frame.ensures.drained (c.self.invariant unspent)

pub returns-clause-goes : goal.returns-clause-goes
returns-clause-goes c n h =
    fetched_on (λ (n : State). fetch_frame n) frame_told (view_of c.self.inside.deframer c.self.inside.station c.self.inside.spent) c.next_frame-frame.new.self
    c.next_frame-frame.ensures.goes n (subst (λ k. NodeStands k n) (sym c.self.view_is) h)

pub returns-clause-kept : goal.returns-clause-kept
returns-clause-kept c unspent = c.keeps_within.ensures (ap (λ (k : Kept). k.spent) c.self.view_is ∙ unspent)
