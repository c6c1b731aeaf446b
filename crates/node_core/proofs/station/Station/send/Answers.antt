use Rattle.std.proofs.Common.{subst}
use Rattle.link_table.specs.Standing.{TableStands}
use Rattle.node_model.specs.Links.{text_answer}
use Rattle.node_core.specs.Standing.{Holds}
use Rattle.node_model.specs.Users.{send_if_ok}
use Rattle.node_core.proofs.Holding.{with_carrier}
use Rattle.node_core.proofs.Using.{sent_holds, sent_told}
use Rattle.node_core.proofs.station.Station.send.Goals as goal

pub returns : goal.returns
unfolding text_answer
returns c = λ n t.
    let s = c.args.self.now in
    let peer = c.args.peer.now in
    let text = c.args.text.now in
    let known = c.in_ok-not_spent.ensures in
    let stands : TableStands c.carrier_mut-links.result.now n.links = rw (c.carrier_mut-links.ensures.value, c.router_mut.ensures.value) t.0.parts.links in
    let answer = c.send_text.ensures.answer known n.links stands in
    let h = sent_holds c.send_text.result s c.router_mut.result.now c.carrier_mut-links.result.now c.send_text.new.self peer text c.args.now.0
    c.router_mut.ensures.value c.carrier_mut-links.ensures.value known c.send_text.ensures.goes c.send_text.ensures.err n t.0 in
    let s1 = with_carrier s c.router_mut.result.now c.send_text.new.self in
    (subst (λ r. Holds s1 (send_if_ok r peer text c.args.now.0 n)) answer h, sent_told (text_answer peer text n.links) peer text c.args.now.0 n t.1)
