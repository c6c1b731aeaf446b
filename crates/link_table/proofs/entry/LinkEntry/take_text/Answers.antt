use Rattle.std.proofs.Common.{sym}
use Rattle.link_table.proofs.TextLifting.{text_goes}
use Rattle.link_table.proofs.entry.LinkEntry.take_text.Goals as goal

pub returns-in_ok-settle-in-Some-clause-goes : goal.returns-in_ok-settle-in-Some-clause-goes
returns-in_ok-settle-in-Some-clause-goes c =
    text_goes c.args.now.0 c.in-Some.payload c.args.self.now _ _ _ _ _ _ _ (sym c.in-Some.ensures.payload) c.requires.waits c.in-Some.ensures.does c.in-Some.ensures.quiet
    c.in_ok-lift-in-Some.ensures c.in_ok-joined-in-Some.ensures.rest c.in_ok-joined-in-Some.ensures.within c.in_ok-settle-in-Some.ensures.goes
