use Rattle.std.proofs.Common.{refl, subst}
use Rattle.std.specs.Prelude.{Ok, Err}
use Rattle.std.proofs.lemmas.Result.{err_from_is_err_and}
use Rattle.link_table.specs.Calls as calls
use Rattle.link_table.specs.Standing.{TableStands}
use Rattle.node_core.specs.declared.acts.ActDone.TheVariants.{Done}
use Rattle.node_core.specs.Acts.{open_by, open_refusal}
use Rattle.node_model.specs.Links.{open_answer, open_link}
use Rattle.node_core.specs.Going.{Answers}
use Rattle.node_core.proofs.Holding.{links_go, with_carrier}
use Rattle.node_core.proofs.Hosted.{links_stay, open_known}
use Rattle.node_core.proofs.station.Station.open_hosted.Goals as goal

pub returns-in_err-open : goal.returns-in_err-open
unfolding open_answer
returns-in_err-open c =
    let p = err_from_is_err_and c.from_residual.result c.from_residual.ensures.1 in
    rw (p.1, p.2) (λ a n h told.
    let s = c.args.self.now in
    let why = c.in_err-open.field-0.0 in
    let known = open_known why a in
    let stands : TableStands c.carrier_mut-links.result.now n.links = rw (c.carrier_mut-links.ensures.value, c.router_mut.ensures.value) h.parts.links in
    let answer = c.in_err-open.ensures.answer known n.links stands in
    subst (λ x. Answers (with_carrier s c.router_mut.result.now c.open.new.self) (Err (open_refusal why)) (open_by x c.args.now.0 c.args.to.now c.args.path.now n)) answer
    (record {
      answer = refl;
      stands = links_stay s c.router_mut.result.now c.carrier_mut-links.result.now c.open.new.self c.router_mut.ensures.value c.carrier_mut-links.ensures.value (c.in_err-open.ensures.err known) n h;
    }))

pub returns : goal.returns
unfolding open_answer open_link
returns c = λ a n h told.
    let s = c.args.self.now in
    let stands : TableStands c.carrier_mut-links.result.now n.links = rw (c.carrier_mut-links.ensures.value, c.router_mut.ensures.value) h.parts.links in
    let answer = c.in_ok-open.ensures.answer tt n.links stands in
    subst (λ x. Answers (with_carrier s c.router_mut.result.now c.open.new.self) (Ok Done) (open_by x c.args.now.0 c.args.to.now c.args.path.now n)) answer
    (record {
      answer = refl;
      stands =
          links_go (calls.open_link c.args.to.now c.args.path.now c.args.now.0) s c.router_mut.result.now c.carrier_mut-links.result.now c.open.new.self
          c.router_mut.ensures.value c.carrier_mut-links.ensures.value c.in_ok-open.ensures.goes n h;
    })
