use Rattle.std.proofs.Common.{◌≡◌, ◌∙◌, refl, subst, rules}
use Rattle.std.specs.Prelude.{true, false}
use Rattle.link_table.specs.Standing.{TableStands}
use Rattle.link_table.specs.Table.{Table}
use Rattle.node_model.specs.Links as links
use Rattle.node_core.specs.Standing.{Holds}
use Rattle.node_model.specs.States.{State, at_links}
use Rattle.node_model.specs.Users as users
use Rattle.node_core.proofs.Holding.{with_carrier}
use Rattle.node_core.proofs.Using.{given_has, given_text, text_taken}
use Rattle.node_model.proofs.Parts.{untaken}
use Rattle.node_core.proofs.Placing.{logged, session_goes}
use Rattle.node_core.proofs.station.Station.take_from_link.Goals as goal

pub returns-then-taken : goal.returns-then-taken
returns-then-taken c = λ n t.
    let s = c.args.self.now in
    let peer = c.args.peer.now in
    let now = c.args.now.0 in
    let stands : TableStands c.carrier_mut-links.result.now n.links = rw (c.carrier_mut-links.ensures.value, c.router_mut.ensures.value) t.0.parts.links in
    let answer = c.in_ok-taken.ensures.answer n.links stands in
    let some : links.has_text peer n.links ≡ true = given_has c.in_ok-taken.taken c.take_text.new.out.items peer n.links answer ∙ c.if-taken.true in
    let s1 = with_carrier s c.router_mut.result.now c.take_text.new.self in
    let m : State = at_links (links.take_text peer now) n in
    let h1 = text_taken peer now s c.router_mut.result.now c.carrier_mut-links.result.now c.take_text.new.self
    c.router_mut.ensures.value c.carrier_mut-links.ensures.value c.in_ok-taken.ensures.goes n t.0 in
    let rested = session_goes (users.with_rest c.take_text.new.out.items) (λ x. refl) s1 c.with_session.new.self c.args.nth (c.with_session.ensures (users.with_rest c.take_text.new.out.items) (λ x y r. search rules)).sessions (c.with_session.ensures (users.with_rest c.take_text.new.out.items) (λ x y r. search rules)).same m h1 in
    let h2 = logged (users.with_rest c.take_text.new.out.items) (users.with_text c.take_text.new.out.items) (λ x. refl) c.with_session.new.self m c.args.nth rested in
    let text : c.take_text.new.out.items ≡ links.text_with peer n.links = given_text c.in_ok-taken.taken c.take_text.new.out.items peer n.links c.if-taken.true answer in
    rw some (record { did_is = c.if-taken.true; stands = (subst (λ x. Holds c.with_session.new.self (users.at_session c.args.nth (users.with_text x) m)) text h2, t.1) })

pub returns-else-taken : goal.returns-else-taken
returns-else-taken c = λ n t.
    let s = c.args.self.now in
    let peer = c.args.peer.now in
    let now = c.args.now.0 in
    let stands : TableStands c.carrier_mut-links.result.now n.links = rw (c.carrier_mut-links.ensures.value, c.router_mut.ensures.value) t.0.parts.links in
    let answer = c.in_ok-taken.ensures.answer n.links stands in
    let none : links.has_text peer n.links ≡ false = given_has c.in_ok-taken.taken c.take_text.new.out.items peer n.links answer ∙ c.if-taken.false in
    let s1 = with_carrier s c.router_mut.result.now c.take_text.new.self in
    let h1 = text_taken peer now s c.router_mut.result.now c.carrier_mut-links.result.now c.take_text.new.self
    c.router_mut.ensures.value c.carrier_mut-links.ensures.value c.in_ok-taken.ensures.goes n t.0 in
    let same : links.take_text peer now n.links ≡ n.links = untaken peer now n.links none in
    rw none (record { did_is = c.if-taken.false; stands = (subst (λ (x : Table). Holds s1 (record n { links = x })) same h1, t.1) })
