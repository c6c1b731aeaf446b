use Rattle.std.proofs.Common.{◌≡◌, ◌∙◌, false, subst, sym}
use Rattle.std.specs.Prelude.{Bool}
use Rattle.kiss_framing.specs.Stream.{framed}
use Rattle.link_table.proofs.Sending.{when_ok}
use Rattle.node_core.specs.Inputs.{after_bytes}
use Rattle.node_core.specs.Standing.{NodeStands, view_of}
use Rattle.node_core.specs.Sound.{IsSound}
use Rattle.node_core.proofs.Nodes.{bytes_on, sound_bytes}
use Rattle.node_core.proofs.Outcomes.{ok_then}
use Rattle.node_core.proofs.node.Node.kiss_frame.Goals as goal

pub invariant_of-self : goal.invariant_of-self
invariant_of-self c unspent =
    let r = c.take_kiss_frame-taken.result in
    let e = c.take_kiss_frame-taken.ensures in
    let no_error = sym c.is_err-self-inside.ensures.value ∙ unspent in
    subst (λ (b : Bool). IsSound (view_of c.take_kiss_frame-taken.new.deframer c.take_kiss_frame-taken.new.station b)) (sym unspent)
    (sound_bytes c.settles.ensures.nothing c.args.now.0 c.moment.result.0 (framed 0 0 c.args.octets.now) (view_of c.self.inside.deframer c.self.inside.station c.self.inside.spent)
    c.take_kiss_frame-taken.new.deframer c.take_kiss_frame-taken.new.station c.moment.ensures.value (when_ok r _ e.fed no_error) (when_ok r _ e.taken no_error) (when_ok r _ e.drained no_error)
    (c.self.invariant c.if-self.false))

pub returns-clause-goes : goal.returns-clause-goes
returns-clause-goes c = ok_then c.take_kiss_frame-taken.result (λ no_error n h.
    let r = c.take_kiss_frame-taken.result in
    let e = c.take_kiss_frame-taken.ensures in
    let unspent : c.is_err-self-inside.result ≡ false = c.is_err-self-inside.ensures.value ∙ no_error in
    subst (λ (b : Bool). NodeStands (view_of c.take_kiss_frame-taken.new.deframer c.take_kiss_frame-taken.new.station b) (after_bytes c.args.now.0 (framed 0 0 c.args.octets.now) n)) (sym unspent)
    (bytes_on c.settles.ensures.nothing c.args.now.0 c.moment.result.0 (framed 0 0 c.args.octets.now) (view_of c.self.inside.deframer c.self.inside.station c.self.inside.spent)
    c.take_kiss_frame-taken.new.deframer c.take_kiss_frame-taken.new.station c.moment.ensures.value (when_ok r _ e.fed no_error) (when_ok r _ e.taken no_error)
    n (subst (λ k. NodeStands k n) (sym c.self.view_is) h)))

pub returns-clause-kept : goal.returns-clause-kept
returns-clause-kept c = ok_then c.take_kiss_frame-taken.result (λ no_error. c.keeps_within.ensures (c.is_err-self-inside.ensures.value ∙ no_error))
