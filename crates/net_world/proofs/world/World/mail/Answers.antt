use Rattle.std.proofs.Common.{◌∙◌, ap, sym, subst}
use Rattle.net_model.specs.Mailing.{agent_turn, mail, mail_at, turn_by}
use Rattle.net_world.specs.Running.{Stands, course}
use Rattle.std.specs.Prelude.{is_some}
use Rattle.net_world.proofs.Placing.{place_is}
use Rattle.net_world.proofs.Runs.{runs_as}
use Rattle.net_world.proofs.Turning.{stores_as}
use Rattle.net_world.proofs.world.World.mail.Goals as goal

pub returns-then-keeps_mail : goal.returns-then-keeps_mail
returns-then-keeps_mail c =
    let old = course c.args.self.now in
    let line = c.args.line in
    let node = c.args.node in
    let at = c.place_of-at.result in
    runs_as old (course c.agent_turn.new.self) (agent_turn line node at) (mail line node) c.agent_turn.result
    (λ w t.
    ap (λ b. turn_by line node at b w) (sym c.if-keeps_mail.true ∙ c.keeps_mail.ensures w.nodes w.mails (stores_as w.nodes w.mails c.deref.ensures.value t.trace.members))
    ∙ ap (λ k. turn_by line node k (is_some (mail_at k w)) w) (place_is old w node at c.place_of-at.ensures t))
    c.agent_turn.ensures

pub returns-in_ok-refuse : goal.returns-in_ok-refuse
returns-in_ok-refuse c = λ w t.
    let old = course c.args.self.now in
    let line = c.args.line in
    let node = c.args.node in
    let at = c.place_of-at.result in
    subst (λ v. Stands (course c.refuse.new.self) v)
    (ap (λ b. turn_by line node at b w) (sym c.if-keeps_mail.false ∙ c.keeps_mail.ensures w.nodes w.mails (stores_as w.nodes w.mails c.deref.ensures.value t.trace.members))
    ∙ ap (λ k. turn_by line node k (is_some (mail_at k w)) w) (place_is old w node at c.place_of-at.ensures t))
    (c.in_ok-refuse.ensures w t)
