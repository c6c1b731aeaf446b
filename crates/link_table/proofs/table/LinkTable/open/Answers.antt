use Rattle.link_table.specs.Calls as calls
use Rattle.std.proofs.Common.{◌∙◌, sym}
use Rattle.link_table.proofs.Kept.{keeps_on}
use Rattle.link_table.proofs.Tables.{goes_as, to_core}
use Rattle.link_table.proofs.table.LinkTable.open.Goals as goal

pub returns-in-Err-clause-answer : goal.returns-in-Err-clause-answer
returns-in-Err-clause-answer c = λ known. rw (← c.self.view_is) (λ t s. sym c.in-Err.is ∙ c.open_answer.ensures.answer t (to_core c.self.inside.core c.self.inside.spent t s))

pub returns-in-Ok-clause-answer : goal.returns-in-Ok-clause-answer
returns-in-Ok-clause-answer c = λ known. rw (← c.self.view_is) (λ t s. sym c.in_default.is ∙ c.open_answer.ensures.answer t (to_core c.self.inside.core c.self.inside.spent t s))

pub returns-in-Ok-clause-goes : goal.returns-in-Ok-clause-goes
returns-in-Ok-clause-goes c = rw (← c.self.view_is) (
    goes_as (calls.open_link c.args.peer.now c.args.path.now c.args.now.0) c.self.inside.core c.open.new.self c.self.inside.spent c.self.inside.spent c.if-self.false
    c.in-Ok.ensures.goes)

pub returns-in-Ok-clause-kept : goal.returns-in-Ok-clause-kept
returns-in-Ok-clause-kept c = keeps_on (calls.open_link c.args.peer.now c.args.path.now c.args.now.0) _ _ c.kept.ensures (returns-in-Ok-clause-goes c)
