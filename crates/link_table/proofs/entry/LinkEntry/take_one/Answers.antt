use Rattle.std.proofs.Common.{◌∙◌}
use Rattle.link_table.proofs.Lifting.{hands_first}
use Rattle.link_table.proofs.entry.LinkEntry.take_one.Goals as goal

pub returns-in_ok-lift-in-Some-clause-goes : goal.returns-in_ok-lift-in-Some-clause-goes
returns-in_ok-lift-in-Some-clause-goes c = λ p e.
    hands_first c.args.now.0 p c.in-Some.payload.now c.args.self.now _ _ _ _ _ _ (cc (c.in-Some.ensures ∙ e)) c.take.ensures.does c.take.ensures.quiet c.in_ok-hand_up-in-Some.ensures c.in_ok-lift-in-Some.ensures
