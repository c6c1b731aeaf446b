use Rattle.std.proofs.Common.{refl, subst}
use Rattle.std.specs.Prelude.{Ok, Err}
use Rattle.std.proofs.lemmas.Result.{err_from_is_err_and}
use Rattle.link_table.specs.Texts as texts
use Rattle.link_table.specs.Standing.{TableStands}
use Rattle.node_core.specs.declared.acts.ActDone.TheVariants.{Done}
use Rattle.node_core.specs.Acts.{send_by, text_refusal}
use Rattle.node_model.specs.Links.{text_answer, send_text}
use Rattle.node_core.specs.Going.{Answers}
use Rattle.node_core.proofs.Holding.{links_go, with_carrier}
use Rattle.node_core.proofs.Hosted.{links_stay, text_known}
use Rattle.node_core.proofs.station.Station.send_hosted.Goals as goal

pub returns-in_err-send_text : goal.returns-in_err-send_text
unfolding text_answer
returns-in_err-send_text c =
    let p = err_from_is_err_and c.from_residual.result c.from_residual.ensures.1 in
    rw (p.1, p.2) (λ a n h told.
    let s = c.args.self.now in
    let why = c.in_err-send_text.field-0.0 in
    let known = text_known why a in
    let stands : TableStands c.carrier_mut-links.result.now n.links = rw (c.carrier_mut-links.ensures.value, c.router_mut.ensures.value) h.parts.links in
    let answer = c.in_err-send_text.ensures.answer known n.links stands in
    subst (λ x. Answers (with_carrier s c.router_mut.result.now c.send_text.new.self) (Err (text_refusal why)) (send_by x c.args.now.0 c.args.to.now c.args.text.now n)) answer
    (record {
      answer = refl;
      stands = links_stay s c.router_mut.result.now c.carrier_mut-links.result.now c.send_text.new.self c.router_mut.ensures.value c.carrier_mut-links.ensures.value (c.in_err-send_text.ensures.err known) n h;
    }))

pub returns : goal.returns
unfolding text_answer send_text
returns c = λ a n h told.
    let s = c.args.self.now in
    let stands : TableStands c.carrier_mut-links.result.now n.links = rw (c.carrier_mut-links.ensures.value, c.router_mut.ensures.value) h.parts.links in
    let answer = c.in_ok-send_text.ensures.answer tt n.links stands in
    subst (λ x. Answers (with_carrier s c.router_mut.result.now c.send_text.new.self) (Ok Done) (send_by x c.args.now.0 c.args.to.now c.args.text.now n)) answer
    (record {
      answer = refl;
      stands =
          links_go (texts.send_text c.args.to.now c.args.text.now c.args.now.0) s c.router_mut.result.now c.carrier_mut-links.result.now c.send_text.new.self
          c.router_mut.ensures.value c.carrier_mut-links.ensures.value c.in_ok-send_text.ensures.goes n h;
    })
