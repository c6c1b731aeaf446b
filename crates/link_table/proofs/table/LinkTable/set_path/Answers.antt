use Rattle.link_table.specs.Calls as calls
use Rattle.link_table.proofs.Kept.{keeps_on}
use Rattle.link_table.proofs.Tables.{goes_as}
use Rattle.link_table.proofs.table.LinkTable.set_path.Goals as goal

pub returns-in-Ok-clause-kept : goal.returns-in-Ok-clause-kept
returns-in-Ok-clause-kept c = rw (← c.self.view_is) (
    keeps_on (calls.with_path c.args.peer.now c.args.path.now) _ _ c.kept.ensures
    (goes_as (calls.with_path c.args.peer.now c.args.path.now) c.self.inside.core c.set_path.new.self c.self.inside.spent c.self.inside.spent c.if-self.false
    c.in-Ok.ensures.goes))
