use Rattle.std.proofs.Common.{◌≡◌, ◌∙◌, subst}
use Rattle.std.specs.Vec.{with_items}
use Rattle.std.proofs.lemmas.List.{with_items_is}
use Rattle.node_mail.specs.Lists.{answer_to}
use Rattle.net_world.specs.Agents.{AgentStands}
use Rattle.net_model.specs.Stores.{heard_at}
use Rattle.net_model.specs.Mailing.{Agent, mail_at}
use Rattle.net_world.specs.Running.{course}
use Rattle.net_world.proofs.Placing.{with_members}
use Rattle.net_world.proofs.Turning.{hearing_runs, heard_none, stores_as, unheard}
use Rattle.net_world.proofs.world.World.hear.Goals as goal

pub returns-in_ok-note_heard-in-Some : goal.returns-in_ok-note_heard-in-Some
returns-in_ok-note_heard-in-Some c =
    let stores = (with_items c.args.self.now.members c.hear_at.new.members).items in
    let is : stores ≡ c.hear_at.new.members = with_items_is c.args.self.now.members c.hear_at.new.members (c.hear_at.auto.members ∙ c.deref_mut.ensures.len) in
    let was = c.deref_mut.ensures.value in
    let says = rw c.in-Some.is at c.in_ok-outcome.ensures.answer in
    let spelled = rw c.in-Some.is at c.in_ok-outcome.ensures.message in
    hearing_runs c.args.here.line c.args.here.node c.args.here.at c.args.id c.args.message.now c.args.from.now c.in-Some.heard (course c.args.self.now) (course c.write_answer.new.self)
    c.args.answers.now.items c.note_heard.new.answers.items stores c.write_answer.result
    (λ ps ls h. says ps ls (stores_as ps ls was h)) (λ ps ls h. stores_as ps (heard_at c.args.here.at c.args.from.now c.args.message.now ls) is (c.in_ok-outcome.ensures.goes ps ls (stores_as ps ls was h)))
    c.in_ok-note_heard-in-Some.ensures (c.write_answer.ensures (answer_to c.in-Some.heard) (c.as_slice.ensures.value ∙ spelled))

pub returns-in-None : goal.returns-in-None
returns-in-None c = λ a t.
    let o = mail_at c.args.here.at a.world in
    let stores = (with_items c.args.self.now.members c.hear_at.new.members).items in
    let is : stores ≡ c.hear_at.new.members = with_items_is c.args.self.now.members c.hear_at.new.members (c.hear_at.auto.members ∙ c.deref_mut.ensures.len) in
    let had = stores_as a.world.nodes a.world.mails c.deref_mut.ensures.value t.world.trace.members in
    let says = (rw c.in-None.is at c.in_ok-outcome.ensures.answer) a.world.nodes a.world.mails had in
    subst (λ (b : Agent). AgentStands (with_members (course c.args.self.now) stores) c.args.answers.now.items b)
    (heard_none c.args.here.line c.args.here.node c.args.here.at c.args.id c.args.message.now c.args.from.now o a says)
    (record { world = unheard _ a.world _ c.args.from.now c.args.message.now c.args.here.at t.world says (stores_as a.world.nodes (heard_at c.args.here.at c.args.from.now c.args.message.now a.world.mails) is (c.in_ok-outcome.ensures.goes a.world.nodes a.world.mails had)); answers = t.answers })
