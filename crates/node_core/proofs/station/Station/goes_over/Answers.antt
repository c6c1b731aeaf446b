use Rattle.std.proofs.Common.{◌≡◌, ◌∙◌, ap, subst, sym}
use Rattle.std.specs.Prelude.{Option, Some, None}
use Rattle.ax_address.specs.Callsign.{Callsign}
use Rattle.circuit_table.specs.CircuitSets.{SetStands, partner_at}
use Rattle.circuit_table.specs.Pumps.{at_rest}
use Rattle.node_model.specs.States.{next_hop}
use Rattle.node_model.specs.Users.{end_at, goes_over, hop_to}
use Rattle.node_core.proofs.station.Station.goes_over.Goals as goal

pub returns-in-None : goal.returns-in-None
returns-in-None c = λ n t.
    let partner : None ≡ partner_at (end_at c.args.id n) = sym c.in-None.is ∙ c.partner.ensures (at_rest n.set.set) (subst (SetStands c.args.self.now.set) t.1 t.0.parts.set) in
    ap (λ (o : Option Callsign). goes_over c.args.peer.now (hop_to o n)) partner

pub returns-in-None-next_hop : goal.returns-in-None-next_hop
returns-in-None-next_hop c = λ n t.
    let partner : Some c.in-Some.partner ≡ partner_at (end_at c.args.id n) = sym c.in-Some.is ∙ c.partner.ensures (at_rest n.set.set) (subst (SetStands c.args.self.now.set) t.1 t.0.parts.set) in
    let hop : c.next_hop.result ≡ next_hop n c.in-Some.partner = rw (c.table.ensures, c.router.ensures, t.0.parts.rules) at (c.next_hop.ensures n.log (rw (c.table.ensures, c.router.ensures) t.0.parts.log)) in
    let goes : None ≡ hop_to (partner_at (end_at c.args.id n)) n = sym c.in-None-next_hop.is ∙ (hop ∙ ap (λ (o : Option Callsign). hop_to o n) partner) in
    ap (goes_over c.args.peer.now) goes

pub returns-in-Some-next_hop : goal.returns-in-Some-next_hop
returns-in-Some-next_hop c = λ n t.
    let partner : Some c.in-Some.partner ≡ partner_at (end_at c.args.id n) = sym c.in-Some.is ∙ c.partner.ensures (at_rest n.set.set) (subst (SetStands c.args.self.now.set) t.1 t.0.parts.set) in
    let hop : c.next_hop.result ≡ next_hop n c.in-Some.partner = rw (c.table.ensures, c.router.ensures, t.0.parts.rules) at (c.next_hop.ensures n.log (rw (c.table.ensures, c.router.ensures) t.0.parts.log)) in
    let goes : Some c.in-Some-next_hop.hop ≡ hop_to (partner_at (end_at c.args.id n)) n = sym c.in-Some-next_hop.is ∙ (hop ∙ ap (λ (o : Option Callsign). hop_to o n) partner) in
    c.eq.ensures ∙ ap (goes_over c.args.peer.now) goes
