use Rattle.std.proofs.Common.{◌∙◌, subst, sym}
use Rattle.node_core.specs.Standing.{Holds}
use Rattle.node_core.proofs.Entering.{none_to_enter, none_waits, nothing_noticed}
use Rattle.node_core.proofs.station.Station.enter_notices.Goals as goal

pub returns-then-not-has_notices-clause-did : goal.returns-then-not-has_notices-clause-did
returns-then-not-has_notices-clause-did c = λ n h.
    let waits = c.has_notices.ensures n.links (rw (c.carrier.ensures, c.router.ensures) h.parts.links) in
    let notices = n.links.pending.notices in
    nothing_noticed notices (none_waits notices (sym c.if-not-has_notices.true ∙ waits))

pub returns-then-not-has_notices-clause-goes : goal.returns-then-not-has_notices-clause-goes
returns-then-not-has_notices-clause-goes c = λ n h.
    let waits = c.has_notices.ensures n.links (rw (c.carrier.ensures, c.router.ensures) h.parts.links) in
    subst (Holds c.args.self.now) (sym (none_to_enter n (none_waits n.links.pending.notices (sym c.if-not-has_notices.true ∙ waits)))) h
