use Rattle.std.proofs.Common.{◌∙◌, sym}
use Rattle.std.proofs.lemmas.Result.{on_ok_weaker}
use Rattle.link_table.specs.Calls as calls
use Rattle.link_table.proofs.Kept.{keeps_on}
use Rattle.link_table.proofs.Sending.{when_ok}
use Rattle.link_table.proofs.Tables.{goes_if_ok}
use Rattle.link_table.proofs.table.LinkTable.tick.Goals as goal

pub invariant_of-self : goal.invariant_of-self
invariant_of-self c unspent = when_ok c.tick-ticked.result _ c.tick-ticked.ensures.rests (sym c.is_err-self-inside.ensures.value ∙ unspent)

pub returns-clause-goes : goal.returns-clause-goes
returns-clause-goes c = rw (← c.self.view_is) (
    goes_if_ok c.tick-ticked.result (calls.tick c.args.now.0) c.self.inside.core c.tick-ticked.new.self c.self.inside.spent c.is_err-self-inside.result
    c.is_err-self-inside.ensures.value c.tick-ticked.ensures.goes)

pub returns-clause-kept : goal.returns-clause-kept
returns-clause-kept c = on_ok_weaker c.tick-ticked.result (keeps_on (calls.tick c.args.now.0) _ _ c.kept.ensures) (returns-clause-goes c)
