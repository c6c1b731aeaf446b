use Rattle.std.proofs.Common.{◌∙◌, ap, sym}
use Rattle.std.specs.Prelude.{is_some}
use Rattle.link_table.specs.Standing.{TableStands}
use Rattle.link_table.specs.Texts as texts
use Rattle.node_model.specs.Links.{has_text, take_text}
use Rattle.node_model.specs.States.{State}
use Rattle.node_model.specs.Turns.{Turn}
use Rattle.node_core.proofs.Dropping.{first_dropped, given_some, none_dropped, none_hosted}
use Rattle.node_core.proofs.Holding.{links_go}
use Rattle.node_core.proofs.station.Station.drop_text.Goals as goal

pub returns-in_ok-taken-in-Some-clause-did : goal.returns-in_ok-taken-in-Some-clause-did
unfolding has_text
returns-in_ok-taken-in-Some-clause-did c = λ n h.
    let peer = c.in-Some.peer in
    let stands : TableStands c.carrier_mut-links.result.now n.links = rw (c.carrier_mut-links.ensures.value, c.router_mut.ensures.value) h.parts.links in
    let answer = c.in_ok-taken-in-Some.ensures.answer n.links stands in
    rw (first_dropped c.args.now.0 n peer (sym h.users.hosts ∙ c.if-self.false) (c.in-Some.ensures n h)) (sym (given_some c.in_ok-taken-in-Some.taken c.take_text.new.out.items) ∙ ap is_some answer)

pub returns-in_ok-taken-in-Some-clause-goes : goal.returns-in_ok-taken-in-Some-clause-goes
unfolding take_text
returns-in_ok-taken-in-Some-clause-goes c = λ n h.
    let peer = c.in-Some.peer in
    rw (first_dropped c.args.now.0 n peer (sym h.users.hosts ∙ c.if-self.false) (c.in-Some.ensures n h))
    (links_go (texts.take_text peer c.args.now.0) c.args.self.now c.router_mut.result.now c.carrier_mut-links.result.now c.take_text.new.self
    c.router_mut.ensures.value c.carrier_mut-links.ensures.value c.in_ok-taken-in-Some.ensures.goes n h)

pub returns-in-None-clause-goes : goal.returns-in-None-clause-goes
returns-in-None-clause-goes c = λ n h. rw (none_dropped c.args.now.0 n (c.in-None.ensures n h)) h

pub returns-then-self-clause-did : goal.returns-then-self-clause-did
returns-then-self-clause-did c = λ n h. ap (λ (t : Turn State). t.did) (sym (none_hosted c.args.now.0 n (sym h.users.hosts ∙ c.if-self.true)))

pub returns-then-self-clause-goes : goal.returns-then-self-clause-goes
returns-then-self-clause-goes c = λ n h. rw (none_hosted c.args.now.0 n (sym h.users.hosts ∙ c.if-self.true)) h
