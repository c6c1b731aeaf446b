use Rattle.std.proofs.Common.{◌≡◌, ◌∙◌, ◌∷◌, [], ap, sym, subst, true, false}
use Rattle.std.proofs.lemmas.Result.{err_from_is_err_and}
use Rattle.net_model.specs.declared.mails.Offer.{Offer}
use Rattle.net_model.specs.Events.{Offered}
use Rattle.net_model.specs.Mailing.{may_write, offer_octets, write_if_taken}
use Rattle.net_world.specs.Running.{Stands, course}
use Rattle.net_model.specs.World.{World, tell}
use Rattle.net_world.proofs.Runs.{refused_same}
use Rattle.net_world.proofs.Turning.{offer_done, offer_keeps, offer_refused, offer_stops, offered_mail, stores_as, wrote_if, wrote_mail}
use Rattle.net_world.proofs.world.World.offer.Goals as goal

pub returns-in_err-is_written-clause-err : goal.returns-in_err-is_written-clause-err
returns-in_err-is_written-clause-err c =
    let p = err_from_is_err_and c.from_residual.result c.from_residual.ensures.1 in
    rw (p.1, p.2) (λ numbers w t.
    let message = c.as_slice.ensures.value ∙ c.wire_at-message.ensures w.nodes w.mails (stores_as w.nodes w.mails c.deref.ensures.value t.trace.members) in
    offer_stops c.args.here.line c.args.here.node c.args.here.at c.args.id c.args.number numbers w _
    (refused_same _ _ _ (ap (λ m. write_if_taken c.args.here.line c.args.here.at c.args.id m w) message) (c.in_err-is_written.ensures.err w t)))

pub returns-then-not-is_written-clause-ok : goal.returns-then-not-is_written-clause-ok
returns-then-not-is_written-clause-ok c = λ numbers w t.
    let message = c.as_slice.ensures.value ∙ c.wire_at-message.ensures w.nodes w.mails (stores_as w.nodes w.mails c.deref.ensures.value t.trace.members) in
    let said : c.in_ok-is_written.is_written ≡ may_write c.args.here.at c.args.id (offer_octets c.args.here.line c.args.here.node c.args.here.at c.args.number w) w =
    c.in_ok-is_written.ensures.answer w t ∙ ap (λ m. may_write c.args.here.at c.args.id m w) message in
    let no = sym c.if-not-is_written.true ∙ said in
    let was = c.in_ok-is_written.ensures.goes w t in
    let same = sym (wrote_if c.args.here.line c.args.here.at c.args.id c.as_slice.result.now w false (sym c.if-not-is_written.true ∙ c.in_ok-is_written.ensures.answer w t)) in
    subst (λ v. Stands (course c.write_if_taken.new.self) v) (same ∙ offer_refused c.args.here.line c.args.here.node c.args.here.at c.args.id c.args.number numbers w no) was

pub returns-clause-ok : goal.returns-clause-ok
returns-clause-ok c = λ numbers w t.
    let message = c.as_slice.ensures.value ∙ c.wire_at-message.ensures w.nodes w.mails (stores_as w.nodes w.mails c.deref.ensures.value t.trace.members) in
    let said : c.in_ok-is_written.is_written ≡ may_write c.args.here.at c.args.id (offer_octets c.args.here.line c.args.here.node c.args.here.at c.args.number w) w =
    c.in_ok-is_written.ensures.answer w t ∙ ap (λ m. may_write c.args.here.at c.args.id m w) message in
    let yes = sym c.if-not-is_written.false ∙ said in
    let was = c.in_ok-is_written.ensures.goes w t in
    let same = ap (λ m. write_if_taken c.args.here.line c.args.here.at c.args.id m w) message
    ∙ sym (wrote_if c.args.here.line c.args.here.at c.args.id (offer_octets c.args.here.line c.args.here.node c.args.here.at c.args.number w) w true yes) in
    let u : World = wrote_mail c.args.here.line c.args.here.node c.args.here.at c.args.id c.args.number w in
    let wrote = subst (λ v. Stands (course c.write_if_taken.new.self) v) same was in (
      offered_mail c.args.here.line c.args.here.node c.args.here.at c.args.id c.args.number w,
      subst (λ v. Stands (course c.tell.new.self) v) (ap (λ (o : Offer). tell c.args.here.line (Offered c.args.here.node o.id o.number ∷ []) u) c.in_ok-offer.ensures.ok)
          (c.in_ok-tell.ensures.goes u wrote),
      offer_keeps c.args.here.line c.args.here.node c.args.here.at c.args.id c.args.number w,
      offer_done c.args.here.line c.args.here.node c.args.here.at c.args.id c.args.number numbers w yes,
    )
