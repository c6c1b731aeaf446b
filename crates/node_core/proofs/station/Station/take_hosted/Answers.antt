use Rattle.std.proofs.Common.{◌≡◌, ◌∙◌, refl}
use Rattle.std.specs.Prelude.{true, false}
use Rattle.link_table.specs.Standing.{TableStands}
use Rattle.node_model.specs.Links as links
use Rattle.node_core.proofs.Using.{given_has, given_text, text_taken}
use Rattle.node_core.proofs.station.Station.take_hosted.Goals as goal

pub returns-in_ok-taken : goal.returns-in_ok-taken
returns-in_ok-taken c = λ a n h told.
    let s = c.args.self.now in
    let peer = c.args.peer.now in
    let stands : TableStands c.carrier_mut-links.result.now n.links = rw (c.carrier_mut-links.ensures.value, c.router_mut.ensures.value) h.parts.links in
    let answer = c.in_ok-waited.ensures.answer n.links stands in
    let some : links.has_text peer n.links ≡ true = given_has c.in_ok-waited.waited c.take_text.new.out.items peer n.links answer ∙ c.if-waited.true in
    let text : c.take_text.new.out.items ≡ links.text_with peer n.links = given_text c.in_ok-waited.waited c.take_text.new.out.items peer n.links c.if-waited.true answer in
    let taken : c.in_ok-taken.taken ≡ links.text_with peer n.links = c.in_ok-taken.ensures ∙ (c.as_slice.ensures.value ∙ text) in
    record {
      answer = rw (some, ← taken) refl;
      stands =
          text_taken peer c.args.now.0 s c.router_mut.result.now c.carrier_mut-links.result.now c.take_text.new.self
          c.router_mut.ensures.value c.carrier_mut-links.ensures.value c.in_ok-waited.ensures.goes n h;
    }

pub returns-else-waited : goal.returns-else-waited
returns-else-waited c = λ a n h told.
    let s = c.args.self.now in
    let peer = c.args.peer.now in
    let stands : TableStands c.carrier_mut-links.result.now n.links = rw (c.carrier_mut-links.ensures.value, c.router_mut.ensures.value) h.parts.links in
    let answer = c.in_ok-waited.ensures.answer n.links stands in
    let none : links.has_text peer n.links ≡ false = given_has c.in_ok-waited.waited c.take_text.new.out.items peer n.links answer ∙ c.if-waited.false in
    record {
      answer = rw none refl;
      stands =
          text_taken peer c.args.now.0 s c.router_mut.result.now c.carrier_mut-links.result.now c.take_text.new.self
          c.router_mut.ensures.value c.carrier_mut-links.ensures.value c.in_ok-waited.ensures.goes n h;
    }
