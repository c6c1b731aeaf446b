use Rattle.std.proofs.Common.{◌∙◌, sym}
use Rattle.std.proofs.lemmas.Result.{on_ok_weaker}
use Rattle.link_table.specs.Calls as calls
use Rattle.link_table.proofs.Kept.{keeps_on}
use Rattle.link_table.proofs.Sending.{when_ok}
use Rattle.link_table.proofs.Tables.{goes_if_ok}
use Rattle.link_table.proofs.table.LinkTable.break_link.Goals as goal

pub invariant_of-self : goal.invariant_of-self
invariant_of-self c unspent = when_ok c.end-ended.result _ c.end-ended.ensures.rests (sym c.is_err-self-inside.ensures.value ∙ unspent)

pub returns-clause-goes : goal.returns-clause-goes
returns-clause-goes c = rw (← c.self.view_is) (
    goes_if_ok c.end-ended.result (calls.break_link c.args.peer.now) c.self.inside.core c.end-ended.new.self c.self.inside.spent c.is_err-self-inside.result
    c.is_err-self-inside.ensures.value c.end-ended.ensures.goes)

pub returns-clause-kept : goal.returns-clause-kept
returns-clause-kept c = on_ok_weaker c.end-ended.result (keeps_on (calls.break_link c.args.peer.now) _ _ c.kept.ensures) (returns-clause-goes c)
