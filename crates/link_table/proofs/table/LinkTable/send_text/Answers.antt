use Rattle.std.proofs.Common.{◌∙◌, sym}
use Rattle.link_table.specs.Texts as sending
use Rattle.link_table.proofs.Kept.{keeps_on}
use Rattle.link_table.proofs.Tables.{goes_as}
use Rattle.link_table.proofs.Sending.{answer_same}
use Rattle.link_table.proofs.table.LinkTable.send_text.Goals as goal

pub returns-in-Err-clause-answer : goal.returns-in-Err-clause-answer
returns-in-Err-clause-answer c = λ known. rw (← c.self.view_is) (λ t s.
    sym c.in-Err.is ∙ c.text_answer.ensures ∙ answer_same c.self.inside.core.own c.args.peer.now c.args.text.now c.self.inside.core.links.entries t s.links)

pub returns-in-Ok-clause-answer : goal.returns-in-Ok-clause-answer
returns-in-Ok-clause-answer c = λ known. rw (← c.self.view_is) (λ t s.
    sym c.in_default.is ∙ c.text_answer.ensures ∙ answer_same c.self.inside.core.own c.args.peer.now c.args.text.now c.self.inside.core.links.entries t s.links)

pub returns-in-Ok-clause-goes : goal.returns-in-Ok-clause-goes
returns-in-Ok-clause-goes c = rw (← c.self.view_is) (
    goes_as (sending.send_text c.args.peer.now c.args.text.now c.args.now.0) c.self.inside.core c.send_text.new.self c.self.inside.spent c.self.inside.spent c.if-self.false
    c.in-Ok.ensures.goes)

pub returns-in-Ok-clause-kept : goal.returns-in-Ok-clause-kept
returns-in-Ok-clause-kept c = keeps_on (sending.send_text c.args.peer.now c.args.text.now c.args.now.0) _ _ c.kept.ensures (returns-in-Ok-clause-goes c)
